-- `worklist::follow` meets its contract. The loop's invariant: what waits are checks, and the word became what it is by filling forced
-- erasures. The measure: a filled bit is one erasure less and at most 192 checks more. Assumes nothing.
use Prim.Native.Nat.{◌+◌, ◌*◌}
use Rattle.graph.specs.Filling.{erasures}
use Rattle.exponent.specs.Graphs.{graph, checks_of}
use Rattle.worklist.specs.Work.{Worked}
use Rattle.worklist.specs.Pending.{Pending}
use Rattle.worklist.proofs.follow.Given as goal

abbrev pub invariant-loop-c : goal.invariant-loop-c
invariant-loop-c l = Pending (checks_of l.g.rows.plan) l.waiting × Worked (graph l.g.rows.plan) l.initial.word l.word l.filled

abbrev pub decreases-loop-c : goal.decreases-loop-c
decreases-loop-c l = erasures l.word * 193 + l.waiting.top
