-- `encoding::columns::add_run` meets its contract: k bytes are added. Assumes nothing.
use Rattle.encoding.specs.Work.{AddedRun}
use Rattle.encoding.proofs.columns.add_run.Given as goal

abbrev pub invariant-loop-k : goal.invariant-loop-k
invariant-loop-k l = AddedRun l.to l.from l.k l.initial.word l.word
