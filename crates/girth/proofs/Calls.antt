-- The girth test's calls are bounded, for every plan that is not refused: by its sizes, and by the limits. Assumes nothing.
use Prim.Native.Nat.{ℕ, ◌+◌, ◌*◌, ◌≤◌}
use native.Mathlib.Omega.{arith}
use native.Mathlib.Nat.{mul_assoc, mul_left_comm, mul-add, add-mul, mul-le-mul_left, mul-le-mul_right}
use Rattle.exponent.specs.declared.Shape.{Shape}
use Rattle.exponent.specs.Tanner.{graph_of}
use Rattle.walks.specs.Calls.{root_bound, search_bound}
use Rattle.walks.proofs.Bound.{few_calls}
use Rattle.girth.specs.Calls.{rounds, AlwaysBounded}
use Rattle.girth.proofs.Rules.{formed}
use Rattle.girth.proofs.Verdict.{passes_first}

-- what the limits say of the bound: 192 rows, 512 columns, lift 4,096, 65,536 bits
limited : (s : Shape) (k : ℕ) → s.rows ≤ 192 → s.cols ≤ 512 → s.lift ≤ 4096 → s.cols * s.lift ≤ 65536 → search_bound s k ≤ k * 210000000 + 1000000
unfolding search_bound root_bound
limited s k few_rows few_cols small_lift few_bits =
    let R = s.rows in
    let C = s.cols in
    let P = s.lift in
    let X = R * P + C * P + 1 in
    let checks : R * P ≤ 786432 = omega (arith, mul-le-mul_right P few_rows) in
    let one : X ≤ 851969 = omega arith in
    let rows : R * X ≤ 192 * X = mul-le-mul_right X few_rows in
    let columns : C * X ≤ 46137856 =
    omega (arith, mul-add C (R * P + C * P) 1, mul-add C (R * P) (C * P), mul_left_comm C R P, mul-le-mul_right (C * P) few_rows, mul-le-mul_right (C * P) few_cols) in
    let roots : (R + C) * X ≤ 210000000 = omega (arith, add-mul R C X) in
    omega (arith, add-mul (k * (R + C)) 1 X, mul_assoc k (R + C) X, mul-le-mul_left k roots)

pub always_bounded : AlwaysBounded
always_bounded plan s target accepted =
    let w = formed plan s.rows s.cols s.lift target accepted in
    let few = few_calls plan s w.some_lift (rounds target) 2 (omega arith) (passes_first (graph_of plan s)) in
    record { by_sizes = few; by_limits = omega (arith, few, limited s (rounds target) w.few_rows w.few_cols w.small_lift w.few_bits) }
