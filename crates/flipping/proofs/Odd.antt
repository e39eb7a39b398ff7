-- Laws of the marks of odd checks: no parity moves, and a byte has a mark for each of its bit's odd checks, at most three. Assumes nothing.
use Prim.Native.Nat.{ℕ, ◌+◌, ◌-◌, ◌*◌, ◌/◌, ◌%◌, ◌≤◌, ◌<◌}
use mathlib.Core.Path.{◌≡◌, refl, sym, ap, subst, ◌∙◌}
use mathlib.Core.Logic.{◌≢◌}
use mathlib.Core.Bool.{Bool, false, ◌&&◌, and-true, and-false}
use mathlib.Core.List.{List}
use native.Mathlib.Omega.{arith}
use native.Mathlib.Nat.{mod-lt, div-add-mod', div-lt_iff_lt-mul}
use borrow.Author.Tests.{eq-eqb, ne_eqb}
use lib.Dec.{eqb}
use lib.IntN.{ℤ}
use lib.ListN.{length, get_or-eq_default}
use Rattle.graph.specs.Count.{range, below, one, count}
use Rattle.graph.specs.Graph.{Bipartite, bits_of, checks_of}
use Rattle.graph.specs.Erasure.{parity}
use Rattle.graph.proofs.Decide.{by_le, and_left}
use Rattle.graph.proofs.Count.{range_append, length_select, count_mono, count_append, count_last, count_none}
use Rattle.graph.proofs.Filling.{total_none}
use Rattle.graph.proofs.Flipping.{bit_once}
use Rattle.exponent.specs.declared.Shape.{Shape}
use Rattle.exponent.specs.Tanner.{tanner, graph_of}
use Rattle.exponent.proofs.Tanner.{bit_degree}
use Rattle.flipping.specs.Work.{Given, AtMost, Marked, MarkedTo, MarkedOn}

module _ (G : Bipartite) (w : List ℕ) where
  pub marks_none : MarkedTo G w w 0
  unfolding count range
  marks_none = record { same_length = refl; bytes = λ b h. omega arith }

  module _ (q : List ℕ) (c : ℕ) (m : MarkedTo G w q c) where
    -- NO PARITY MOVES
    marks_parity : (d : ℕ) → parity G q d ≡ parity G w d
    unfolding parity
    marks_parity d =
        total_none q w (λ b. false)
        (λ b _.
        by_le (length w) b
        (λ h. ap (λ (x : ℕ). x % 2) (get_or-eq_default q 0 (omega (arith, m.same_length)) ∙ sym (get_or-eq_default w 0 h)))
        (λ h. omega (arith, m.bytes b h)))
        (bits_of G d) (count_none (λ b. false) (bits_of G d) (λ x _. refl))

    -- one check more: an odd one, or an even one
    marks_odd : (r : List ℕ) → length w ≡ G.bits → c < G.checks → parity G w c ≡ 1 → Marked q (bits_of G c) r → MarkedTo G w r (c + 1)
    marks_odd r whole low e n =
        record {
          same_length = n.same_length ∙ m.same_length;
          bytes = λ b h.
              let last = count_last (λ d. G.joins d b && eqb (parity G w d) 1) c in
              let here : (G.joins c b && eqb (parity G w c) 1) ≡ G.joins c b = rw (eq-eqb (parity G w c) 1 e) (and-true (G.joins c b)) in
              omega (arith, m.bytes b h, n.bytes b (omega (arith, m.same_length)), ap one here, bit_once G c b low (omega arith));
        }

    marks_even : parity G w c ≢ 1 → MarkedTo G w q (c + 1)
    marks_even e =
        record {
          same_length = m.same_length;
          bytes = λ b h.
              let last = count_last (λ d. G.joins d b && eqb (parity G w d) 1) c in
              let here : (G.joins c b && eqb (parity G w c) 1) ≡ false = rw (ne_eqb (parity G w c) 1 e) (and-false (G.joins c b)) in
              omega (arith, m.bytes b h, ap one here);
        }

pub marked_odd : (G : Bipartite) (c : ℕ) (q r : List ℕ) → c < G.checks → parity G q c ≡ 1 → Marked q (bits_of G c) r → MarkedOn G c q r
unfolding MarkedOn
marked_odd G c q r h e m w len t = marks_odd G w q c t r len h (sym (marks_parity G w q c t c) ∙ e) m

pub marked_even : (G : Bipartite) (c : ℕ) (q : List ℕ) → parity G q c ≢ 1 → MarkedOn G c q q
unfolding MarkedOn
marked_even G c q e w len t = marks_even G w q c t (λ p. e (marks_parity G w q c t c ∙ p))

-- no bit has more marks than checks
few_marks : (G : Bipartite) (w : List ℕ) (b c : ℕ) → c ≤ G.checks → count (λ d. G.joins d b && eqb (parity G w d) 1) (below c) ≤ length (checks_of G b)
unfolding checks_of
few_marks G w b c h =
    let odd : ℕ → Bool = λ d. G.joins d b && eqb (parity G w d) 1 in
    let split : count odd (below G.checks) ≡ count odd (below c) + count odd (range (0 + c) (G.checks - c)) =
    ap (λ (k : ℕ). count odd (range 0 k)) (let r : G.checks ≡ c + (G.checks - c) = omega arith in r)
    ∙ ap (count odd) (range_append 0 c (G.checks - c))
    ∙ count_append odd (below c) (range (0 + c) (G.checks - c)) in
    omega (
      arith,
      split,
      count_mono odd (λ d. G.joins d b) (below G.checks) (λ d m t. and_left (G.joins d b) (eqb (parity G w d) 1) t),
      length_select (λ d. G.joins d b) (below G.checks),
    )

-- and of a plan with three filled blocks in each column three at most, on a bit
module _ (plan : List ℤ) (s : Shape) (w : List ℕ) (given : Given plan s w) where
  three_each : (b : ℕ) → b < s.cols * s.lift → length (checks_of (graph_of plan s) b) ≡ 3
  three_each b h =
      let some_lift = given.formed.some_lift in
      subst (λ (x : ℕ). length (checks_of (graph_of plan s) x) ≡ 3) (div-add-mod' b s.lift)
      (bit_degree plan s.rows s.cols s.lift some_lift (b / s.lift) (b % s.lift) (mod-lt b some_lift) ∙ given.three (b / s.lift) ((div-lt_iff_lt-mul some_lift).1 h))

  pub three_marks : (q : List ℕ) (c : ℕ) → c ≤ s.rows * s.lift → MarkedTo (graph_of plan s) w q c → AtMost 7 q
  unfolding tanner
  three_marks q c h m b l =
      let low : b < length w = omega (arith, m.same_length) in
      omega (arith, m.bytes b low, given.known b low, few_marks (graph_of plan s) w b c h, three_each b (omega (arith, given.whole)))
