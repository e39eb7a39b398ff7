-- `worklist::push_check` meets its contract: the check is one of the plan's. Assumes nothing.
use Rattle.std.proofs.Common.{arith}
use Rattle.exponent.proofs.Numbers.{number_low}
use Rattle.worklist.proofs.push_check.Goals as goal

pub returns-in-Shift : goal.returns-in-Shift
returns-in-Shift c =
    let (row, _, inner, pending) = c.requires in
    (c.push.ensures.pending _ pending (number_low _ _ _ _ row (omega (arith, c.wrap.ensures))), c.push.ensures.few)
