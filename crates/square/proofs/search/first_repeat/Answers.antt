-- Assumes nothing.
use Rattle.std.proofs.Common.{sym}
use borrow.Author.Count.{below_more}
use Rattle.square.specs.Table.{table_at}
use Rattle.square.proofs.Repeats.{found_at}
use Rattle.square.proofs.search.first_repeat.Goals as goal

pub returns-then-repeats : goal.returns-then-repeats
returns-then-repeats c = let a = c.args in
    let s = table_at a.order a.table.now in
    rw c.quad_of-q.ensures (sym (found_at a.order a.lift s c.requires.0.some_rows c.loop-n.n c.loop-n.invariant c.loop-n-test.true
    (rw c.quad_of-q.ensures at (sym c.if-repeats.ensures))))

pub loop-n-preserved : goal.loop-n-preserved
loop-n-preserved c = below_more _ _ c.loop-n.invariant (rw c.quad_of-q.ensures at (sym c.if-repeats.ensures))
