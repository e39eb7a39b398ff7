-- `flipping::marks::mark_check` meets its contract: the bits that the check has in the columns before `from` are marked. Assumes nothing.
use Rattle.std.proofs.Common.{◌-◌, ◌≤◌}
use Rattle.syndrome.proofs.Scanning.{row_bits}
use Rattle.flipping.specs.Work.{Marked}
use Rattle.flipping.proofs.marks.mark_check.Given as goal

abbrev pub invariant-loop-j : goal.invariant-loop-j
invariant-loop-j l = (l.from ≤ l.rows.plan.shape.cols) × Marked l.initial.word (row_bits l.rows.plan.entries.now l.rows.plan.shape l.i l.y l.from) l.word

abbrev pub decreases-loop-j : goal.decreases-loop-j
decreases-loop-j l = l.rows.plan.shape.cols - l.from
