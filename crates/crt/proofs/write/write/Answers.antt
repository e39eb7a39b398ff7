-- Assumes nothing.
use Prim.Native.Nat.{ℕ, ◌*◌, ◌≤◌, ◌<◌}
use native.Mathlib.Omega.{arith}
use native.Mathlib.Nat.{mul-le-mul}
use lib.IntN.{ℤ, pos}
use mathlib.Core.List.{List}
use lib.ListN.{get_or}
use Rattle.exponent.specs.Plan.{entry_at, shift_of}
use Rattle.exponent.proofs.Tanner.{shift_of_low}
use Rattle.crt.proofs.Written.{joined_all}
use Rattle.crt.proofs.write.write.Goals as goal

-- a shift is below its lift, and a lift is at most the product of two
shift_small : (p q : ℕ) (list : List ℤ) (place : ℕ) → 1 ≤ p → 1 ≤ q → p * q ≤ 4096 → shift_of (entry_at list p place) < 4096
unfolding entry_at
shift_small p q list place sp sq small =
    let low : p ≤ p = omega arith in
    omega (arith, shift_of_low p (get_or list place (pos 0)) sp, mul-le-mul low sq)

pub remainder-e-requires : goal.remainder-e-requires
remainder-e-requires c =
    let z = c.requires.0 in
    let one = shift_small c.args.p c.args.q c.args.first.now c.loop-place.place z.some_p z.some_q z.small_product in
    let two = shift_small c.args.q c.args.p c.args.second.now c.loop-place.place z.some_q z.some_p (omega (arith, z.small_product)) in
    (z, grind arith, grind arith)

pub returns : goal.returns
returns c = joined_all _ _ _ _ _ _ c.loop-place.invariant (omega arith)
