-- `index::along_row` meets its contract: the columns from the last one done on are right, and `right` is the next filled column from
-- there. Assumes nothing.
use Rattle.index.specs.Index.{NextFrom, filled_at, AlongNext}
use Rattle.index.proofs.Backward.{Columns}
use Rattle.index.proofs.along_row.Given as goal

abbrev pub invariant-loop-j : goal.invariant-loop-j
invariant-loop-j l =
    record {
      columns : Columns (AlongNext (filled_at l.plan l.shape) l.shape) l.shape l.initial.along l.along l.i l.j;
      right : NextFrom (filled_at l.plan l.shape l.i) l.j l.shape.cols l.right;
    }
