-- The cycle of calls {grow, at_bit, at_check}: `grow` calls the others with one edge fewer that may follow, and they call it with as many.
-- Its loop keeps what has been written of the branches before `from`. Assumes nothing.
use Rattle.std.proofs.Common.{◌+◌, ◌-◌, cond}
use Rattle.walks.specs.Steps.{blocks}
use Rattle.trees.proofs.Growing.{Grows}
use Rattle.trees.proofs.grow.+grow.Given as goal

abbrev pub decreases-grow : goal.decreases-grow
decreases-grow l = l.left + l.left

abbrev pub decreases-at_bit : goal.decreases-at_bit
decreases-at_bit l = l.left + l.left + 1

abbrev pub decreases-at_check : goal.decreases-at_check
decreases-at_check l = l.left + l.left + 1

abbrev pub invariant-grow-loop-i : goal.invariant-grow-loop-i
invariant-grow-loop-i l = Grows (blocks l.graph.rows.plan) l.bit l.left l.p l.limit l.initial.work l.initial.end l.from l.work l.end

abbrev pub decreases-grow-loop-i : goal.decreases-grow-loop-i
decreases-grow-loop-i l = cond l.bit l.graph.rows.plan.shape.rows l.graph.rows.plan.shape.cols - l.from
