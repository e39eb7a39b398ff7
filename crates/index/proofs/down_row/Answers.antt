-- `index::down_row` meets its contract: the columns from the last one done on are right. Assumes nothing.
use Rattle.std.proofs.Common.{◌-◌, refl, arith, rules}
use Rattle.index.specs.Index.{named, DownNext}
use Rattle.index.proofs.Skips.{next_here, next_on}
use Rattle.index.proofs.Backward.{under_next, columns_step}
use Rattle.index.proofs.down_row.Goals as goal
use Rattle.index.proofs.down_row.Goals.{then-along-place, else-along-place}

pub loop-j-preserved : goal.loop-j-preserved
loop-j-preserved c =
    let v = c.loop-j.invariant in
    let at = c.requires.0 in
    let row : DownNext (named c.args.along.now c.args.shape) c.args.shape c.args.i (c.loop-j.j - 1) c.if-along-place.row =
    elim c.if-along-place.branch [
      | then-along-place w ↦ rw w.row-is (next_here _ _ _ at.row (search rules))
      | else-along-place w ↦ rw (w.row-is, c.next_under-lower.ensures) (next_on _ _ _ _ _ refl (search rules) (under_next _ _ _ _ _ _ at.row (omega (arith, v.inside)) v.inside v.right))
    ] in
    columns_step at v c.loop-j-test.true _ row
