-- `flipping::marks::flip_marked` meets its contract. The loop's invariant: the bytes passed are bits again, and n of them were turned.
-- Assumes nothing.
use Rattle.flipping.specs.Work.{Unmarked}
use Rattle.flipping.proofs.marks.flip_marked.Given as goal

abbrev pub invariant-loop-x : goal.invariant-loop-x
invariant-loop-x l = Unmarked l.initial.word l.word l.n l.x-index
