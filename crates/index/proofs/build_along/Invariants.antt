-- `index::build_along` meets its contract. The loop's invariant: the rows from row i on are done. The measure is the row.
-- Assumes nothing.
use Rattle.index.specs.Index.{filled_at, AlongNext}
use Rattle.index.proofs.Backward.{Rows}
use Rattle.index.proofs.build_along.Given as goal

abbrev pub invariant-loop-i : goal.invariant-loop-i
invariant-loop-i l = Rows (AlongNext (filled_at l.plan l.shape) l.shape) l.shape l.initial.along l.along l.i
