-- `worklist::pass` meets its contract: no more bits are filled than there are. Assumes nothing.
use native.Mathlib.Omega.{arith}
use Rattle.worklist.proofs.Steps.{worked_few, passed_then}
use Rattle.worklist.proofs.pass.Goals as goal

pub overflow_add-filled : goal.overflow_add-filled
overflow_add-filled c =
    let whole = c.requires in
    omega (arith, worked_few (passed_then c.loop-c.invariant c.settle-filled.ensures).worked, whole, c.args.g.now.rows.plan.well_formed.few_bits)
