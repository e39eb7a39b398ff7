-- Assumes nothing.
use Rattle.std.proofs.Common.{ℕ, List, ℤ, ◌*◌}
use Rattle.square.proofs.Runs.{room, turn}
use Rattle.grid.specs.Inner.{column}
use Rattle.grid.proofs.Columns.{column_within}
use Rattle.table.specs.Write.{cell, cells}
use Rattle.table.proofs.write.put_row.Goals as goal

pub put_cell-to-requires : goal.put_cell-to-requires
unfolding cells
put_cell-to-requires c = let a = c.args in
    let run : ℕ → List ℤ = λ n. cell a.size a.table.now a.mask.now a.w (column a.size.order n) in
    let h = c.loop-n-test.true in
    let J = a.size.order in
    rw c.column_of-q.ensures (
      c.requires.0,
      column_within J c.requires.0.table_square.some_rows c.loop-n.n a.size.weight h c.requires.0.most,
      room run c.loop-n.invariant (a.size.weight * J * J) h c.requires.1,
    )

pub loop-n-preserved : goal.loop-n-preserved
loop-n-preserved c = let a = c.args in
    let run : ℕ → List ℤ = λ n. cell a.size a.table.now a.mask.now a.w (column a.size.order n) in
    turn run c.loop-n.invariant (rw c.column_of-q.ensures at c.put_cell-to.ensures)
