-- `worklist::follow` meets its contract: no more bits are filled than there are. Assumes nothing.
use native.Mathlib.Omega.{arith}
use Rattle.worklist.proofs.Steps.{worked_room}
use Rattle.worklist.proofs.follow.Goals as goal

pub overflow_add-filled : goal.overflow_add-filled
overflow_add-filled c =
    let whole = c.requires.0 in
    omega (arith, worked_room c.loop-c.invariant.1 c.in-Some-fill_check.ensures.1, whole, c.args.g.now.rows.plan.well_formed.few_bits)
