-- `worklist::push_checks` meets its contract: the list holds checks, at most one more for each row passed. Assumes nothing.
use Rattle.std.proofs.Common.{◌+◌, ◌-◌, ◌≤◌}
use Rattle.exponent.specs.Graphs.{checks_of}
use Rattle.worklist.specs.Pending.{Pending}
use Rattle.worklist.proofs.push_checks.Given as goal

abbrev pub invariant-loop-i : goal.invariant-loop-i
invariant-loop-i l = (l.from ≤ l.g.rows.plan.shape.rows) × (l.waiting.top ≤ l.fn.waiting.top + l.from) × Pending (checks_of l.g.rows.plan) l.waiting

abbrev pub decreases-loop-i : goal.decreases-loop-i
decreases-loop-i l = l.g.rows.plan.shape.rows - l.from
