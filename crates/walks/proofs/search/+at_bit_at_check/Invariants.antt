-- The cycle of calls {at_bit, at_check}: `at_bit` at depth d calls `at_check` at d - 1, and `at_check` calls `at_bit` at the same
-- depth, so 2d and 2d + 1 are the measures. Each loop keeps what is left of its ways. Assumes nothing.
use Rattle.std.proofs.Common.{◌-◌, ◌+◌}
use Rattle.walks.specs.Steps.{blocks}
use Rattle.walks.proofs.Steps.{BitLeft, CheckLeft}
use Rattle.walks.proofs.search.+at_bit_at_check.Given as goal

abbrev pub decreases-at_bit : goal.decreases-at_bit
decreases-at_bit l = l.depth + l.depth

abbrev pub decreases-at_check : goal.decreases-at_check
decreases-at_check l = l.depth + l.depth + 1

abbrev pub invariant-at_bit-loop-row : goal.invariant-at_bit-loop-row
invariant-at_bit-loop-row l = BitLeft (blocks l.graph.rows.plan) l.corner l.stamp l.depth l.p l.initial.seen l.from l.seen

abbrev pub decreases-at_bit-loop-row : goal.decreases-at_bit-loop-row
decreases-at_bit-loop-row l = l.graph.rows.plan.shape.rows - l.from

abbrev pub invariant-at_check-loop-col : goal.invariant-at_check-loop-col
invariant-at_check-loop-col l = CheckLeft (blocks l.graph.rows.plan) l.corner l.stamp l.depth l.p l.initial.seen l.from l.seen

abbrev pub decreases-at_check-loop-col : goal.decreases-at_check-loop-col
decreases-at_check-loop-col l = l.graph.rows.plan.shape.cols - l.from
