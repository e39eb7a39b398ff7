-- The entries before `place` are joined.
use Rattle.crt.specs.Work.{JoinedTo}
use Rattle.crt.proofs.write.write.Given as goal

abbrev pub invariant-loop-place : goal.invariant-loop-place
invariant-loop-place l = JoinedTo l.first l.p l.second l.q l.joined l.place
