-- The ways of the search are the walks of the Tanner graph that never step back. Assumes nothing.
use Prim.Native.Nat.{ℕ, zero, suc, ◌-◌, ◌*◌, ◌/◌, ◌≤◌, ◌<◌}
use mathlib.Core.Path.{◌≡◌, refl, sym, ap, ap₂, subst, ◌∙◌}
use mathlib.Core.Logic.{◌≢◌, inl, inr}
use mathlib.Core.List.{List, [], ◌∷◌, map}
use native.Mathlib.Omega.{arith}
use native.Mathlib.Nat.{div-add-mod'}
use lib.IntN.{ℤ}
use lib.ListN.{length}
use Rattle.graph.specs.Count.{Mem}
use Rattle.graph.specs.Graph.{Bipartite, Joined}
use Rattle.graph.proofs.Lists.{last, mem_image, each_image}
use Rattle.graph.specs.Walks.{Node, check, bit, Adj, Apart, Walk}
use Rattle.graph.proofs.Walks.{check_inj, bit_inj}
use Rattle.exponent.specs.declared.position.Position.{Position}
use Rattle.exponent.specs.declared.Shape.{Shape}
use Rattle.exponent.specs.Tanner.{graph_of}
use Rattle.walks.specs.declared.Corner.{Corner}
use Rattle.walks.specs.Steps.{Blocks, blocks_of, to_column, to_row}
use Rattle.walks.specs.Ways.{Joint, Way, more, and_then, joint, arrived, from_check, from_bit}
use Rattle.walks.proofs.Each.{mem_each, each_mem, mem_then, then_mem}
use Rattle.walks.proofs.Nodes.{nodes}
use Rattle.walks.proofs.Link.{check_from, bit_from, edge_over, same_bit, same_check, step_bit, step_check, bit_step, check_step}

mem_more : (e : Joint) (l : List Way) (w : Way) → Mem w (map (more e) l) → (v : Way) × Mem v l × (w ≡ more e v)
mem_more e l w m = each_image (more e) (λ x. (v : Way) × Mem v l × (x ≡ more e v)) l (λ v h. (v, h, refl)) w m

-- a way on from bit b, come to from check c; and one on from check c, come to from bit b
pub record AfterBit (G : Bipartite) (d c b : ℕ) (w : Way) : Type 0 where
  pub walk : Walk G (bit b ∷ nodes w.joints)
  pub onward : Apart (check c) (nodes w.joints)
  pub ends : last (bit b) (nodes w.joints) ≡ bit w.end
  pub size : length w.joints ≡ d
  pub low : w.end < G.bits

pub record AfterCheck (G : Bipartite) (d b c : ℕ) (w : Way) : Type 0 where
  pub rest : List Node
  pub shown : nodes w.joints ≡ check c ∷ rest
  pub walk : Walk G (check c ∷ rest)
  pub onward : Apart (bit b) rest
  pub ends : last (check c) rest ≡ bit w.end
  pub size : length w.joints ≡ suc d
  pub low : w.end < G.bits

-- the next vertex lies in another row, or column
abbrev pub OffRow : ℕ → ℕ → List Node → Type 0
OffRow lift c [] = Unit {0}
OffRow lift c (check f ∷ l) = c / lift ≢ f / lift
OffRow lift c (bit a ∷ l) = Unit {0}

abbrev pub OffColumn : ℕ → ℕ → List Node → Type 0
OffColumn lift b [] = Unit {0}
OffColumn lift b (check f ∷ l) = Unit {0}
OffColumn lift b (bit a ∷ l) = b / lift ≢ a / lift

-- a vertex lies in no row or column before a corner
abbrev pub From : ℕ → Corner → Node → Type 0
From lift κ (check f) = κ.row ≤ f / lift
From lift κ (bit a) = κ.col ≤ a / lift

-- a way of a list, by its vertices and its end
abbrev pub Listed : List Way → List Node → ℕ → Type 0
Listed W l e = (w : Way) × Mem w W × (nodes w.joints ≡ l) × (w.end ≡ e)

module _ (plan : List ℤ) (s : Shape) (some_lift : 0 < s.lift) (κ : Corner) where
  abbrev P : ℕ
  P = s.lift

  abbrev G : Bipartite
  G = graph_of plan s

  abbrev B : Blocks
  B = blocks_of plan s

  abbrev here : ℕ → ℕ → Position → Joint
  here b c q = joint B (check_from P b c) q

  shown_by : (b c a : ℕ) (l : List Joint) → nodes (here b c (bit_from P c a) ∷ l) ≡ check c ∷ bit a ∷ nodes l
  unfolding nodes
  shown_by b c a l = ap₂ (λ (x y : ℕ). check x ∷ bit y ∷ nodes l) (div-add-mod' c P) (div-add-mod' a P)

  -- SOUND: a way is a walk
  abbrev Sound : ℕ → Type 0
  Sound d = (c b : ℕ) (w : Way) → b < G.bits → Mem w (from_bit B κ d (bit_from P c b)) → AfterBit G d c b w

  pub sound_check : (d : ℕ) → ((c b : ℕ) (w : Way) → b < (graph_of plan s).bits → Mem w (from_bit (blocks_of plan s) κ d (bit_from s.lift c b)) → AfterBit (graph_of plan s) d c b w)
      → (b c : ℕ) (w : Way) → c < (graph_of plan s).checks → Mem w (from_check (blocks_of plan s) κ (from_bit (blocks_of plan s) κ d) (check_from s.lift b c))
      → AfterCheck (graph_of plan s) d b c w
  unfolding Adj
  sound_check d sound b c w low m =
      let (j, p, q, h) = mem_each (λ j. and_then (to_column B (check_from P b c) j) (λ q. map (more (here b c q)) (from_bit B κ d q))) (s.cols - κ.col) κ.col w m in
      let (x, e, k) = mem_then (to_column B (check_from P b c) j) (λ q. map (more (here b c q)) (from_bit B κ d q)) w h in
      let (a, _, u, n, r) = step_bit plan s some_lift b c j x low (omega arith) e in
      let (v, i, same) = mem_more (here b c (bit_from P c a)) (from_bit B κ d (bit_from P c a)) w (subst (λ (q : Position). Mem w (map (more (here b c q)) (from_bit B κ d q))) (sym r) k) in
      let o = sound c a v u.bit_in i in
      subst (AfterCheck G d b c) (sym same)
      (record {
        rest = bit a ∷ nodes v.joints;
        shown = shown_by b c a v.joints;
        walk = ((u, o.onward), o.walk);
        onward = λ y. n (bit_inj b a y);
        ends = o.ends;
        size = ap suc o.size;
        low = o.low;
      })

  pub sound_bit : (d : ℕ) (c b : ℕ) (w : Way) → b < (graph_of plan s).bits → Mem w (from_bit (blocks_of plan s) κ d (bit_from s.lift c b)) → AfterBit (graph_of plan s) d c b w
  unfolding from_bit nodes Adj
  sound_bit zero c b w low (inl e) =
      subst (AfterBit G zero c b) (sym e) (record { walk = (tt, tt); onward = tt; ends = ap bit (sym (div-add-mod' b P)); size = refl; low = rw (div-add-mod' b P) low })
  sound_bit zero c b w low (inr m) = absurd m
  sound_bit (suc d) c b w low m =
      let (i, p, q, h) = mem_each (λ i. and_then (to_row B (bit_from P c b) i) (from_check B κ (from_bit B κ d))) (s.rows - κ.row) κ.row w m in
      let (x, e, k) = mem_then (to_row B (bit_from P c b) i) (from_check B κ (from_bit B κ d)) w h in
      let (f, _, u, n, r) = step_check plan s some_lift c b i x low (omega arith) e in
      let o = sound_check d (sound_bit d) b f w u.check_in (subst (λ (q : Position). Mem w (from_check B κ (from_bit B κ d) q)) (sym r) k) in
      record {
        walk = rw o.shown ((u, o.onward), o.walk);
        onward = rw o.shown (λ y. n (check_inj c f y));
        ends = rw o.shown o.ends;
        size = o.size;
        low = o.low;
      }

  -- COMPLETE: a walk is a way
  abbrev Complete : ℕ → Type 0
  Complete d = (c b : ℕ) (l : List Node) (e : ℕ) → Walk G (bit b ∷ l) → ((v : Node) → Mem v l → From P κ v) → OffRow P c l → length l ≡ 2 * d → last (bit b) l ≡ bit e → Listed (from_bit B κ d (bit_from P c b)) l e

  off_row : (c a : ℕ) (l : List Node) → Joined G c a → Apart (check c) l → Walk G (bit a ∷ l) → OffRow P c l
  unfolding Adj
  off_row c a [] j n w = tt
  off_row c a (bit x ∷ l) j n w = tt
  off_row c a (check f ∷ l) j n w = λ k. n (ap check (same_check plan s some_lift a c f j w.0.0 k))

  off_column : (b c : ℕ) (l : List Node) → Joined G c b → Apart (bit b) l → Walk G (check c ∷ l) → OffColumn P b l
  unfolding Adj
  off_column b c [] j n w = tt
  off_column b c (check x ∷ l) j n w = tt
  off_column b c (bit a ∷ l) j n w = λ k. n (ap bit (same_bit plan s some_lift c b a j w.0.0 k))

  complete_check : (d : ℕ) → Complete d → (b c : ℕ) (l : List Node) (e : ℕ) → Walk G (check c ∷ l) → ((v : Node) → Mem v l → From P κ v) → OffColumn P b l → length l ≡ suc (2 * d) → last (check c) l ≡ bit e
      → Listed (from_check B κ (from_bit B κ d) (check_from P b c)) (check c ∷ l) e
  unfolding Adj
  complete_check d complete b c [] e w i n h k = absurd (omega arith)
  complete_check d complete b c (check f ∷ l) e w i n h k = absurd w.0.0
  complete_check d complete b c (bit a ∷ l) e w i n h k =
      let u : Joined G c a = w.0.0 in
      let (v, m, same, end) = complete c a l e w.1 (λ v m. i v (inr m)) (off_row c a l u w.0.1 w.1) (omega arith) k in (
        more (here b c (bit_from P c a)) v,
        each_mem (λ j. and_then (to_column B (check_from P b c) j) (λ q. map (more (here b c q)) (from_bit B κ d q))) (s.cols - κ.col) κ.col (a / P) _ (i (bit a) (inl refl)) (omega (arith, i (bit a) (inl refl), (edge_over plan s some_lift c a u).col))
            (then_mem (to_column B (check_from P b c) (a / P)) (λ q. map (more (here b c q)) (from_bit B κ d q)) (bit_from P c a) _ (bit_step plan s some_lift b c a u n) (mem_image (more (here b c (bit_from P c a))) v (from_bit B κ d (bit_from P c a)) m)),
        shown_by b c a v.joints ∙ ap (λ (y : List Node). check c ∷ bit a ∷ y) same,
        end,
      )

  complete_bit : (d : ℕ) → Complete d
  unfolding from_bit nodes Adj
  complete_bit zero c b [] e w i n h k = (arrived B (bit_from P c b), inl refl, refl, div-add-mod' b P ∙ bit_inj b e k)
  complete_bit zero c b (x ∷ l) e w i n h k = absurd (omega arith)
  complete_bit (suc d) c b [] e w i n h k = absurd (omega arith)
  complete_bit (suc d) c b (bit a ∷ l) e w i n h k = absurd w.0.0
  complete_bit (suc d) c b (check f ∷ l) e w i n h k =
      let u : Joined G f b = w.0.0 in
      let (v, m, same, end) = complete_check d (complete_bit d) b f l e w.1 (λ v m. i v (inr m)) (off_column b f l u w.0.1 w.1) (omega arith) k in (
        v,
        each_mem (λ i. and_then (to_row B (bit_from P c b) i) (from_check B κ (from_bit B κ d))) (s.rows - κ.row) κ.row (f / P) v (i (check f) (inl refl)) (omega (arith, i (check f) (inl refl), (edge_over plan s some_lift f b u).row))
            (then_mem (to_row B (bit_from P c b) (f / P)) (from_check B κ (from_bit B κ d)) (check_from P b f) v (check_step plan s some_lift c b f u n) m),
        same,
        end,
      )

  pub listed_bit : (d c b : ℕ) (l : List Node) (e : ℕ) → Walk (graph_of plan s) (bit b ∷ l) → ((v : Node) → Mem v l → From s.lift κ v) → OffRow s.lift c l → length l ≡ 2 * d → last (bit b) l ≡ bit e
      → Listed (from_bit (blocks_of plan s) κ d (bit_from s.lift c b)) l e
  listed_bit d = complete_bit d

  pub listed_check : (d b c : ℕ) (l : List Node) (e : ℕ) → Walk (graph_of plan s) (check c ∷ l) → ((v : Node) → Mem v l → From s.lift κ v) → OffColumn s.lift b l → length l ≡ suc (2 * d) → last (check c) l ≡ bit e
      → Listed (from_check (blocks_of plan s) κ (from_bit (blocks_of plan s) κ d) (check_from s.lift b c)) (check c ∷ l) e
  listed_check d = complete_check d (complete_bit d)
