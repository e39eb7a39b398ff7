-- The roots of a round: every way from one is a walk of n edges that ends at a bit, and no way stands twice. Assumes nothing.
use Prim.Native.Nat.{ℕ, suc, ◌-◌, ◌*◌, ◌/◌, ◌<◌, ◌%◌}
use mathlib.Core.Path.{◌≡◌, refl, sym, ap, ap₂, subst, ◌∙◌}
use mathlib.Core.Logic.{inl, inr, ◌⊎◌}
use mathlib.Core.List.{List, [], ◌∷◌}
use mathlib.Core.Bool.{Bool, true, false}
use native.Mathlib.Omega.{arith}
use borrow.Author.Tests.{eq-eqb, ne_eqb}
use lib.IntN.{ℤ}
use lib.ListN.{length}
use Rattle.graph.specs.Count.{Mem, Nodup}
use Rattle.graph.specs.Graph.{Bipartite}
use Rattle.graph.proofs.Decide.{by_eq}
use Rattle.graph.proofs.Lists.{last}
use Rattle.graph.specs.Walks.{Node, check, bit, Adj, Walk}
use Rattle.exponent.specs.declared.Shape.{Shape}
use Rattle.exponent.specs.Tanner.{graph_of, tanner}
use Rattle.exponent.proofs.Numbers.{number_low}
use Rattle.walks.specs.Steps.{Blocks, blocks_of}
use Rattle.walks.specs.Ways.{Way, from_check, from_bit, corner, odd, roots, ways_by, ways}
use Rattle.walks.proofs.Link.{at_0, check_from, bit_from, root_bit_law, root_check_law}
use Rattle.walks.proofs.Ways.{sound_bit, sound_check}
use Rattle.walks.proofs.Repeats.{distinct_bits, distinct_checks}
use Rattle.walks.proofs.Nodes.{nodes, nodes_length, nodes_same}

-- ways of n edges have n / 2 checks, and one more from a check
abbrev pub Sized : Bool → ℕ → ℕ → Type 0
Sized true d k = k ≡ suc d
Sized false d k = k ≡ d

-- the parity of a round, and where a walk of that length ends

pub even_round : (n d : ℕ) → n ≡ 2 * d → (odd n ≡ false) × (n / 2 ≡ d)
even_round n d e = (ne_eqb (n % 2) 1 (λ h. omega arith), omega arith)

pub odd_round : (n d : ℕ) → n ≡ suc (2 * d) → (odd n ≡ true) × (n / 2 ≡ d)
odd_round n d e = (eq-eqb (n % 2) 1 (omega arith), omega arith)

pub halves : (n : ℕ) → ((d : ℕ) × (n ≡ 2 * d)) ⊎ ((d : ℕ) × (n ≡ suc (2 * d)))
halves n = by_eq (n % 2) 0 (λ e. inl (n / 2, omega arith)) (λ e. inr (n / 2, omega arith))

pub even_end : (G : Bipartite) (b : ℕ) (l : List Node) (d : ℕ) → Walk G (bit b ∷ l) → length l ≡ 2 * d → (e : ℕ) × (last (bit b) l ≡ bit e)
unfolding Adj
even_end G b [] d w h = (b, refl)
even_end G b (bit a ∷ l) d w h = absurd w.0.0
even_end G b (check c ∷ []) d w h = absurd (let z : ⊥ = omega arith in z)
even_end G b (check c ∷ check f ∷ l) d w h = absurd w.1.0.0
even_end G b (check c ∷ bit a ∷ l) d w h = even_end G a l (d - 1) w.1.1 (omega arith)

pub odd_end : (G : Bipartite) (c : ℕ) (l : List Node) (d : ℕ) → Walk G (check c ∷ l) → length l ≡ suc (2 * d) → (e : ℕ) × (last (check c) l ≡ bit e)
unfolding Adj
odd_end G c [] d w h = absurd (let z : ⊥ = omega arith in z)
odd_end G c (check f ∷ l) d w h = absurd w.0.0
odd_end G c (bit a ∷ l) d w h = even_end G a l d w.1 (omega arith)

-- a way as a walk from its root u

abbrev pub root_of : Bool → ℕ → Node
root_of true c = check c
root_of false b = bit b

abbrev pub lead : Node → List Node → List Node
lead (check c) l = check c ∷ l
lead (bit b) l = l

pub record Walked (G : Bipartite) (n : ℕ) (u : Node) (w : Way) : Type 0 where
  pub after : List Node
  pub walk : Walk G (u ∷ after)
  pub shown : nodes w.joints ≡ lead u after
  pub ends : last u after ≡ bit w.end
  pub long : length after ≡ n
  pub low : w.end < G.bits

pub same_way : (w v : Way) → nodes w.joints ≡ nodes v.joints → w.end ≡ v.end → w ≡ v
same_way w v e h = let q = nodes_same w.joints v.joints e in λ i. record { joints = q i; end = h i }

half_sized : {G : Bipartite} (n z : ℕ) (w : Way) → Walked G n (root_of (odd n) z) w → Sized (odd n) (n / 2) (length w.joints)
half_sized n z w o =
    elim (halves n) [
      | inl y ↦ let t = (even_round n y.0 y.1).0 in let q = rw t at o in rw t (omega (arith, nodes_length w.joints, ap length q.shown, q.long, y.1))
      | inr y ↦ let t = (odd_round n y.0 y.1).0 in let q = rw t at o in rw t (omega (arith, nodes_length w.joints, ap length q.shown, q.long, y.1))
    ]

module _ (plan : List ℤ) (s : Shape) (some_lift : 0 < s.lift) where
  abbrev P : ℕ
  P = s.lift

  abbrev G : Bipartite
  G = graph_of plan s

  abbrev B : Blocks
  B = blocks_of plan s

  pub even_ways : (n d k : ℕ) → n ≡ 2 * d → ways (blocks_of plan s) n k ≡ from_bit (blocks_of plan s) (corner 0 k) d (bit_from s.lift (at_0 s s.rows) (at_0 s k))
  unfolding ways
  even_ways n d k e =
      let (t, h) = even_round n d e in
      ap₂ (λ (t : Bool) (x : ℕ). ways_by t B x k) t h
      ∙ ap (from_bit B (corner 0 k) d) (root_bit_law plan s some_lift k)

  pub odd_ways : (n d k : ℕ) → n ≡ suc (2 * d) → ways (blocks_of plan s) n k ≡ from_check (blocks_of plan s) (corner k 0) (from_bit (blocks_of plan s) (corner k 0) d) (check_from s.lift (at_0 s s.cols) (at_0 s k))
  unfolding ways
  odd_ways n d k e =
      let (t, h) = odd_round n d e in
      ap₂ (λ (t : Bool) (x : ℕ). ways_by t B x k) t h
      ∙ ap (from_check B (corner k 0) (from_bit B (corner k 0) d)) (root_check_law plan s some_lift k)

  -- every way is a walk from its root
  pub walked : (n k : ℕ) → k < roots (blocks_of plan s) n → (w : Way) → Mem w (ways (blocks_of plan s) n k) → Walked (graph_of plan s) n (root_of (odd n) (at_0 s k)) w
  unfolding tanner
  walked n k root w m =
      elim (halves n) [
        | inl y ↦ let t = (even_round n y.0 y.1).0 in
            let o = sound_bit plan s some_lift (corner 0 k) y.0 (at_0 s s.rows) (at_0 s k) w (number_low k 0 s.cols P (rw t at root) some_lift) (subst (Mem w) (even_ways n y.0 k y.1) m) in
            rw t (record { after = nodes w.joints; walk = o.walk; shown = refl; ends = o.ends; long = omega (arith, nodes_length w.joints, o.size, y.1); low = o.low })
        | inr y ↦ let t = (odd_round n y.0 y.1).0 in
            let o = sound_check plan s some_lift (corner k 0) y.0 (sound_bit plan s some_lift (corner k 0) y.0) (at_0 s s.cols) (at_0 s k) w (number_low k 0 s.rows P (rw t at root) some_lift) (subst (Mem w) (odd_ways n y.0 k y.1) m) in
            rw t (record { after = o.rest; walk = o.walk; shown = o.shown; ends = o.ends; long = omega (arith, nodes_length w.joints, o.size, ap length o.shown, y.1); low = o.low })
      ]

  -- it ends at a bit, and has half as many checks as edges
  pub way_of : (n k : ℕ) → k < roots (blocks_of plan s) n → (w : Way) → Mem w (ways (blocks_of plan s) n k) → (w.end < s.cols * s.lift) × Sized (odd n) (n / 2) (length w.joints)
  unfolding tanner
  way_of n k root w m = let o = walked n k root w m in (o.low, half_sized n (at_0 s k) w o)

  pub distinct : (n k : ℕ) → Nodup (ways (blocks_of plan s) n k)
  distinct n k =
      elim (halves n) [
        | inl y ↦ subst Nodup (sym (even_ways n y.0 k y.1)) (distinct_bits plan s some_lift (corner 0 k) y.0 _)
        | inr y ↦ subst Nodup (sym (odd_ways n y.0 k y.1)) (distinct_checks plan s some_lift (corner k 0) y.0 _)
      ]
