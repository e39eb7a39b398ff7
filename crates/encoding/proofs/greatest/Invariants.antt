-- The greatest of the bytes passed. Assumes nothing.
use Rattle.encoding.specs.Work.{Greatest}
use Rattle.encoding.proofs.greatest.Given as goal

abbrev pub invariant-loop-x : goal.invariant-loop-x
invariant-loop-x l = Greatest l.x-index l.info l.most
