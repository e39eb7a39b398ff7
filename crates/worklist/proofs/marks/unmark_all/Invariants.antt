-- `worklist::marks::unmark_all` meets its contract. The loop's invariant: the bytes before the place have their marks off, and the
-- others are as they were. Assumes nothing.
use Rattle.worklist.specs.Work.{unmarked}
use Rattle.worklist.proofs.Unmarking.{Mapped}
use Rattle.worklist.proofs.marks.unmark_all.Given as goal

abbrev pub invariant-loop-x : goal.invariant-loop-x
invariant-loop-x l = Mapped (unmarked l.keep) l.initial.word l.word l.x-index
