-- `worklist::settle` meets its contract: no more bits are filled than there are. Assumes nothing.
use native.Mathlib.Omega.{arith}
use Rattle.worklist.proofs.Steps.{worked_room}
use Rattle.worklist.proofs.settle.Goals as goal

pub overflow_add-result : goal.overflow_add-result
overflow_add-result c =
    let whole = c.requires.0 in
    omega (arith, worked_room c.in-Some.ensures.1 c.follow.ensures, whole, c.args.g.now.rows.plan.well_formed.few_bits)
