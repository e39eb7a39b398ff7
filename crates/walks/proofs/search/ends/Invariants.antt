-- `walks::search::ends` meets its contract: a loop over the bits of a check, each of them an end. It keeps what is left of them.
-- Assumes nothing.
use Rattle.std.proofs.Common.{◌-◌}
use Rattle.walks.specs.Steps.{blocks}
use Rattle.walks.proofs.Steps.{EndsLeft}
use Rattle.walks.proofs.search.ends.Given as goal

abbrev pub invariant-loop-col : goal.invariant-loop-col
invariant-loop-col l = EndsLeft (blocks l.rows.plan) l.p l.stamp l.initial.from l.initial.seen l.from l.seen

abbrev pub decreases-loop-col : goal.decreases-loop-col
decreases-loop-col l = l.rows.plan.shape.cols - l.from
