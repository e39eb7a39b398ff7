-- `index::build_down` meets its contract. The loop's invariant: the rows from row i on are done. The measure is the row.
-- Assumes nothing.
use Rattle.index.specs.Index.{named, DownNext}
use Rattle.index.proofs.Backward.{Rows}
use Rattle.index.proofs.build_down.Given as goal

abbrev pub invariant-loop-i : goal.invariant-loop-i
invariant-loop-i l = Rows (DownNext (named l.along l.shape) l.shape) l.shape l.initial.down l.down l.i
