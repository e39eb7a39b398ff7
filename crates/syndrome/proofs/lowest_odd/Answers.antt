-- `syndrome::lowest_odd` meets its contract. The loop's invariant: every check passed is even. Assumes nothing.
use Prim.Native.Nat.{◌*◌}
use mathlib.Core.Path.{◌≡◌, sym}
use native.Mathlib.Omega.{arith}
use Rattle.exponent.specs.Tanner.{tanner}
use Rattle.syndrome.proofs.Odds.{none_found}
use Rattle.syndrome.proofs.lowest_odd.Goals as goal

pub returns : goal.returns
unfolding tanner
returns c =
    let end : c.loop-c.c ≡ c.args.rows.now.plan.shape.rows * c.args.rows.now.plan.shape.lift = omega arith in
    sym (none_found _ _ (rw end at c.loop-c.invariant))
