-- The walks to the calls before the last depth: no two are the same, and they are walks of the Tanner graph from the root. So, where
-- every cycle is long, they and the bits at the last depth are not more than the vertices. Assumes nothing.
use Prim.Native.Nat.{ℕ, zero, suc, ◌+◌, ◌-◌, ◌*◌, ◌/◌, ◌%◌, ◌≤◌, ◌<◌}
use mathlib.Core.Path.{◌≡◌, refl, sym, ap, subst, ◌∙◌}
use mathlib.Core.Logic.{inl, inr}
use mathlib.Core.Bool.{Bool, true, false, cond}
use mathlib.Core.List.{List, ◌∷◌}
use native.Mathlib.Omega.{arith}
use native.Mathlib.Nat.{mod-lt, div-add-mod'}
use borrow.Author.Tests.{eqb-true, eqb-false}
use lib.Dec.{eqb}
use lib.IntN.{ℤ}
use lib.ListN.{length}
use Rattle.graph.specs.Count.{Mem, Nodup}
use Rattle.graph.specs.Graph.{Bipartite}
use Rattle.graph.specs.Girth.{Passes}
use Rattle.graph.proofs.Ends.{Reached, few_walks}
use Rattle.graph.specs.Walks.{Node, check, bit, Adj, Apart, Walk}
use Rattle.graph.proofs.Walks.{check_inj, bit_inj}
use Rattle.exponent.specs.declared.position.Position.{Position}
use Rattle.exponent.specs.declared.Shape.{Shape}
use Rattle.exponent.specs.Plan.{block_at}
use Rattle.exponent.specs.Position.{forward, back}
use Rattle.exponent.specs.Tanner.{tanner, graph_of}
use Rattle.exponent.proofs.Numbers.{block_of_law, number_low}
use Rattle.walks.specs.declared.Corner.{Corner}
use Rattle.walks.specs.Steps.{Blocks, blocks_of, to_column, to_row}
use Rattle.walks.specs.Ways.{corner, odd, root_bit, root_check, roots}
use Rattle.walks.proofs.Inner.{over_step, check_at, bit_at, inner_check, inner_bit, inner_by, stepped, nodup_branches}
use Rattle.walks.proofs.Link.{at_0, check_from, bit_from, step_bit, step_check, root_bit_law, root_check_law}
use Rattle.walks.proofs.Roots.{root_of}
use Rattle.walks.proofs.Steps.{lands}
use Rattle.walks.proofs.Each.{mem_each}

-- the row, or the column, of a vertex
abbrev block : ℕ → Node → ℕ
block lift (check c) = c / lift
block lift (bit b) = b / lift

module _ (plan : List ℤ) (s : Shape) (some_lift : 0 < s.lift) (κ : Corner) where
  abbrev P : ℕ
  P = s.lift

  abbrev G : Bipartite
  G = graph_of plan s

  abbrev B : Blocks
  B = blocks_of plan s

  distinct_check : (next : Position → List (List Node)) → ((q : Position) → Nodup (next q)) → (p : Position) → Nodup (inner_check B κ next p)
  distinct_check next d p =
      nodup_branches (bit_at B) next (to_column B p) (block P) d
      (λ j q e. lands (λ q. block P (bit_at B q) ≡ j) (eqb j p.col) (block_at plan s.cols P p.row j) (forward P p j)
      (λ x. block_of_law P some_lift j ((p.voltage + x) % P) (mod-lt (p.voltage + x) some_lift)) e)
      (s.cols - κ.col) κ.col

  distinct_bit : (d : ℕ) (p : Position) → Nodup (inner_bit B κ d p)
  unfolding inner_bit
  distinct_bit zero p = tt
  distinct_bit (suc d) p =
      nodup_branches (check_at B) (inner_check B κ (inner_bit B κ d)) (to_row B p) (block P) (distinct_check (inner_bit B κ d) (distinct_bit d))
      (λ i q e. lands (λ q. block P (check_at B q) ≡ i) (eqb i p.row) (block_at plan s.cols P i p.col) (back P p i)
      (λ x. block_of_law P some_lift i ((p.voltage + (P - x)) % P) (mod-lt (p.voltage + (P - x)) some_lift)) e)
      (s.rows - κ.row) κ.row

  -- a step to the position of bit a, or of check a, leads to that vertex
  led_to_bit : (c a : ℕ) (q : Position) (l r : List Node) → bit_from P c a ≡ q → l ≡ bit_at B q ∷ r → l ≡ bit a ∷ r
  led_to_bit c a q l r e h = h ∙ ap (λ (p : Position). bit_at B p ∷ r) (sym e) ∙ ap (λ (x : ℕ). bit x ∷ r) (div-add-mod' a P)

  led_to_check : (b a : ℕ) (q : Position) (l r : List Node) → check_from P b a ≡ q → l ≡ check_at B q ∷ r → l ≡ check a ∷ r
  led_to_check b a q l r e h = h ∙ ap (λ (p : Position). check_at B p ∷ r) (sym e) ∙ ap (λ (x : ℕ). check x ∷ r) (div-add-mod' a P)

  -- a walk of fewer than n edges on from u, come to from v
  abbrev Short : ℕ → Node → Node → List Node → Type 0
  Short n v u l = Walk G (u ∷ l) × Apart v l × (length l < n)

  sound_check : (d : ℕ) → ((c b : ℕ) (l : List Node) → b < G.bits → Mem l (inner_bit B κ d (bit_from P c b)) → Short (2 * d) (check c) (bit b) l)
      → (b c : ℕ) (l : List Node) → c < G.checks → Mem l (inner_check B κ (inner_bit B κ d) (check_from P b c)) → Short (suc (2 * d)) (bit b) (check c) l
  unfolding Adj
  sound_check d sound b c l low (inl e) = subst (Short (suc (2 * d)) (bit b) (check c)) (sym e) ((tt, tt), tt, omega arith)
  sound_check d sound b c l low (inr m) =
      let (j, p, q, h) = mem_each (λ j. over_step (bit_at B) (inner_bit B κ d) (to_column B (check_from P b c) j)) (s.cols - κ.col) κ.col l m in
      let o = stepped (bit_at B) (inner_bit B κ d) (to_column B (check_from P b c) j) l h in
      let (a, _, u, n, r) = step_bit plan s some_lift b c j o.to low (omega arith) o.taken in
      let (w, t, short) = sound c a o.rest u.bit_in (subst (λ (q : Position). Mem o.rest (inner_bit B κ d q)) (sym r) o.on) in
      subst (Short (suc (2 * d)) (bit b) (check c)) (sym (led_to_bit c a o.to l o.rest r o.whole)) (((u, t), w), (λ y. n (bit_inj b a y)), omega arith)

  sound_bit : (d : ℕ) (c b : ℕ) (l : List Node) → b < G.bits → Mem l (inner_bit B κ d (bit_from P c b)) → Short (2 * d) (check c) (bit b) l
  unfolding Adj inner_bit
  sound_bit zero c b l low m = absurd m
  sound_bit (suc d) c b l low (inl e) = subst (Short (2 * suc d) (check c) (bit b)) (sym e) ((tt, tt), tt, omega arith)
  sound_bit (suc d) c b l low (inr m) =
      let next = inner_check B κ (inner_bit B κ d) in
      let (i, p, q, h) = mem_each (λ i. over_step (check_at B) next (to_row B (bit_from P c b) i)) (s.rows - κ.row) κ.row l m in
      let o = stepped (check_at B) next (to_row B (bit_from P c b) i) l h in
      let (a, _, u, n, r) = step_check plan s some_lift c b i o.to low (omega arith) o.taken in
      let (w, t, short) = sound_check d (sound_bit d) b a o.rest u.check_in (subst (λ (q : Position). Mem o.rest (inner_check B κ (inner_bit B κ d) q)) (sym r) o.on) in
      subst (Short (2 * suc d) (check c) (bit b)) (sym (led_to_check b a o.to l o.rest r o.whole)) (((u, t), w), (λ y. n (check_inj c a y)), omega arith)

-- FROM THE ROOT

abbrev edges : Bool → ℕ → ℕ
edges true d = suc (2 * d)
edges false d = 2 * d

edges_of : (n : ℕ) → edges (odd n) (n / 2) ≡ n
edges_of n = go (odd n) refl
  where
    go : (t : Bool) → odd n ≡ t → edges t (n / 2) ≡ n
    go true e = omega (arith, eqb-true (n % 2) 1 e)
    go false e = let h = eqb-false (n % 2) 1 e in omega arith

module _ (plan : List ℤ) (s : Shape) (some_lift : 0 < s.lift) where
  inner_by_law : (t : Bool) (d k : ℕ) (E : List ℕ) → k < cond t s.rows s.cols → Passes (graph_of plan s) (2 * edges t d) → Nodup E → ((e : ℕ) → Mem e E → Reached (graph_of plan s) (edges t d) (root_of t (at_0 s k)) e)
      → length (inner_by t (blocks_of plan s) d k) + length E ≤ s.rows * s.lift + s.cols * s.lift
  unfolding tanner
  inner_by_law true d k E root passes apart reached =
      let κ = corner k 0 in
      let z = at_0 s k in
      let next = inner_bit (blocks_of plan s) κ d in
      let low = number_low k 0 s.rows s.lift root some_lift in
      few_walks (graph_of plan s) (edges true d) (check z) (inner_check (blocks_of plan s) κ next (root_check (blocks_of plan s) k)) E passes low
      (λ l m.
      let m₁ = subst (λ (p : Position). Mem l (inner_check (blocks_of plan s) κ next p)) (root_check_law plan s some_lift k) m in
      let (w, _, short) = sound_check plan s some_lift κ d (sound_bit plan s some_lift κ d) (at_0 s s.cols) z l low m₁ in (w, short))
      reached (distinct_check plan s some_lift κ next (distinct_bit plan s some_lift κ d) (root_check (blocks_of plan s) k)) apart
  inner_by_law false d k E root passes apart reached =
      let κ = corner 0 k in
      let z = at_0 s k in
      let low = number_low k 0 s.cols s.lift root some_lift in
      few_walks (graph_of plan s) (edges false d) (bit z) (inner_bit (blocks_of plan s) κ d (root_bit (blocks_of plan s) k)) E passes low
      (λ l m.
      let m₁ = subst (λ (p : Position). Mem l (inner_bit (blocks_of plan s) κ d p)) (root_bit_law plan s some_lift k) m in
      let (w, _, short) = sound_bit plan s some_lift κ d (at_0 s s.rows) z l low m₁ in (w, short))
      reached (distinct_bit plan s some_lift κ d (root_bit (blocks_of plan s) k)) apart

  -- with different bits that n edges lead to, not more than there are checks and bits
  pub few_inner : (n k : ℕ) → Passes (graph_of plan s) (2 * n) → k < roots (blocks_of plan s) n
      → (E : List ℕ) → Nodup E → ((e : ℕ) → Mem e E → Reached (graph_of plan s) n (root_of (odd n) (at_0 s k)) e)
      → length (inner_by (odd n) (blocks_of plan s) (n / 2) k) + length E ≤ s.rows * s.lift + s.cols * s.lift
  few_inner n k passes root E apart reached =
      inner_by_law (odd n) (n / 2) k E root (subst (λ (m : ℕ). Passes (graph_of plan s) (2 * m)) (sym (edges_of n)) passes) apart
      (λ e m. subst (λ (x : ℕ). Reached (graph_of plan s) x (root_of (odd n) (at_0 s k)) e) (sym (edges_of n)) (reached e m))
