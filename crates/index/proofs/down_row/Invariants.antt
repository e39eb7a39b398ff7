-- `index::down_row` meets its contract: the columns from the last one done on are right. Assumes nothing.
use Rattle.index.specs.Index.{named, DownNext}
use Rattle.index.proofs.Backward.{Columns}
use Rattle.index.proofs.down_row.Given as goal

abbrev pub invariant-loop-j : goal.invariant-loop-j
invariant-loop-j l = Columns (DownNext (named l.along l.shape) l.shape) l.shape l.initial.down l.down l.i l.j
