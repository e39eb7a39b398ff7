-- `worklist::peel` meets its contract: no more bits are filled than there are. Assumes nothing.
use native.Mathlib.Omega.{arith}
use Rattle.exponent.specs.Tanner.{tanner}
use Rattle.worklist.proofs.Steps.{worked_few, peeled_then}
use Rattle.worklist.proofs.peel.Goals as goal

pub overflow_add-filled : goal.overflow_add-filled
unfolding tanner
overflow_add-filled c =
    let whole = c.requires in
    omega (arith, worked_few (peeled_then c.loop-n.invariant c.pass-n.ensures).worked, whole, c.args.g.now.rows.plan.well_formed.few_bits)
