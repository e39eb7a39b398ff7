-- A run makes a call for each walk before the last depth at most, and one for each bit that it stamps. Assumes nothing.
use Rattle.std.specs.Prelude.{Option, Some, None}
use Prim.Native.Nat.{ℕ, zero, suc, ◌+◌, ◌-◌, ◌/◌, ◌≤◌}
use mathlib.Core.Bool.{Bool, true, false, cond}
use mathlib.Core.List.{List, ◌∷◌, ◌++◌}
use native.Mathlib.Omega.{arith}
use lib.ListN.{length, length-append, length-map}
use Rattle.graph.specs.Walks.{Node}
use Rattle.exponent.specs.declared.position.Position.{Position}
use Rattle.walks.specs.declared.Corner.{Corner}
use Rattle.walks.specs.Steps.{Blocks, to_column, to_row}
use Rattle.walks.specs.Ways.{each, corner, odd, root_bit, root_check}
use Rattle.walks.specs.Calls.{Tally, called, on_step, turns, check_calls, bit_calls, run_by, run}
use Rattle.walks.proofs.Inner.{over_step, check_at, bit_at, inner_check, inner_bit, inner_by}

-- from t to u: m calls at most, and one more for each bit stamped
abbrev Grows : ℕ → Tally → Tally → Type 0
Grows m t u = u.calls + length t.stamped ≤ t.calls + m + length u.stamped

unless_met : (b : Bool) (m : ℕ) (t u : Tally) → Grows m t u → Grows m t (cond b t u)
unless_met true m t u h = omega arith
unless_met false m t u h = h

turns_grow : (f : ℕ → Tally → Tally) (F : ℕ → List (List Node)) → ((j : ℕ) (t : Tally) → Grows (length (F j)) t (f j t)) → (k i : ℕ) (t : Tally) → Grows (length (each F k i)) t (turns f k i t)
unfolding turns each
turns_grow f F h zero i t = omega arith
turns_grow f F h (suc k) i t =
    unless_met t.met (length (F i ++ each F k (suc i))) t (turns f k (suc i) (f i t))
    (omega (arith, h i t, turns_grow f F h k (suc i) (f i t), length-append (F i) (each F k (suc i))))

step_grow : (at : Position → Node) (next : Position → List (List Node)) (f : Position → Tally → Tally) → ((q : Position) (t : Tally) → Grows (length (next q)) t (f q t))
    → (s : Option Position) (t : Tally) → Grows (length (over_step at next s)) t (on_step s f t)
step_grow at next f h None t = omega arith
step_grow at next f h (Some q) t = omega (arith, h q t, length-map (next q) (λ l. at q ∷ l))

module _ (B : Blocks) (κ : Corner) where
  check_grow : (f : Position → Tally → Tally) (next : Position → List (List Node)) → ((q : Position) (t : Tally) → Grows (length (next q)) t (f q t))
      → (p : Position) (t : Tally) → Grows (length (inner_check B κ next p)) t (check_calls B κ f p t)
  check_grow f next h p t =
      omega (arith, turns_grow (λ j. on_step (to_column B p j) f) (λ j. over_step (bit_at B) next (to_column B p j)) (λ j. step_grow (bit_at B) next f h (to_column B p j)) (B.cols - κ.col) κ.col (called t))

  bit_grow : (d : ℕ) (p : Position) (t : Tally) → Grows (length (inner_bit B κ d p)) t (bit_calls B κ d p t)
  unfolding inner_bit bit_calls
  bit_grow zero p t = omega arith
  bit_grow (suc d) p t =
      let next = inner_check B κ (inner_bit B κ d) in
      let f = check_calls B κ (bit_calls B κ d) in
      omega (arith, turns_grow (λ i. on_step (to_row B p i) f) (λ i. over_step (check_at B) next (to_row B p i)) (λ i. step_grow (check_at B) next f (check_grow (bit_calls B κ d) (inner_bit B κ d) (bit_grow d)) (to_row B p i)) (B.rows - κ.row) κ.row (called t))

run_grow : (t : Bool) (B : Blocks) (d k : ℕ) (u : Tally) → Grows (length (inner_by t B d k)) u (run_by t B d k u)
run_grow true B d k u = check_grow B (corner k 0) (bit_calls B (corner k 0) d) (inner_bit B (corner k 0) d) (bit_grow B (corner k 0) d) (root_check B k) u
run_grow false B d k u = bit_grow B (corner 0 k) d (root_bit B k) u

pub run_calls : (B : Blocks) (n k : ℕ) (S : List ℕ) → (run B n k S).calls + length S ≤ length (inner_by (odd n) B (n / 2) k) + length (run B n k S).stamped
unfolding run
run_calls B n k S = omega (arith, run_grow (odd n) B (n / 2) k (record { calls = 0; stamped = S; met = false }))
