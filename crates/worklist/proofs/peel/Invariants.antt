-- `worklist::peel` meets its contract. The loop's invariant: passes made the word what it is, n bits in the last one. The measure is what
-- is erased and n: a pass that fills bits takes as many erasures. Assumes nothing.
use Prim.Native.Nat.{◌+◌}
use Rattle.graph.specs.Filling.{erasures}
use Rattle.exponent.specs.Graphs.{graph}
use Rattle.worklist.specs.Work.{Peeled}
use Rattle.worklist.proofs.peel.Given as goal

abbrev pub invariant-loop-n : goal.invariant-loop-n
invariant-loop-n l = Peeled (graph l.g.rows.plan) l.initial.word l.word l.filled l.n

abbrev pub decreases-loop-n : goal.decreases-loop-n
decreases-loop-n l = erasures l.word + l.n
