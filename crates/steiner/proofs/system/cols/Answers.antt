-- An order is at least 7 and at most 19. Assumes nothing.
use Rattle.std.proofs.Common.{◌-◌, arith}
use native.Mathlib.Nat.{mul-le-mul}
use Rattle.steiner.proofs.Orders.{small}
use Rattle.steiner.proofs.system.cols.Goals as goal

pub overflow_sub-result : goal.overflow_sub-result
overflow_sub-result c = let s = small c.args.order c.requires in omega arith

pub overflow_mul-result : goal.overflow_mul-result
overflow_mul-result c = let v = c.args.order in
    let s = small v c.requires in
    omega (arith, mul-le-mul {n₁ = v} {m₁ = v - 1} {n₂ = 19} {m₂ = 18} s.few_points (omega arith))
