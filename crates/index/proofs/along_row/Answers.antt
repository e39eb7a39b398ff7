-- `index::along_row` meets its contract: the columns from the last one done on are right, and `right` is the next filled column from
-- there. Assumes nothing.
use Rattle.std.proofs.Common.{◌-◌, sym, ap, ◌∙◌, arith}
use Rattle.exponent.specs.Plan.{block_at, filled}
use Rattle.index.specs.Index.{NextFrom, filled_at}
use Rattle.index.proofs.Skips.{next_here, next_on}
use Rattle.index.proofs.Backward.{columns_step}
use Rattle.index.proofs.along_row.Goals as goal
use Rattle.index.proofs.along_row.Goals.{then-is_filled, else-is_filled}

pub loop-j-preserved : goal.loop-j-preserved
unfolding block_at
loop-j-preserved c =
    let v = c.loop-j.invariant in
    let full = sym (c.is_filled.ensures ∙ ap filled c.entry_at.ensures) in
    let right : NextFrom (filled_at c.args.plan.now c.args.shape c.args.i) (c.loop-j.j - 1) c.args.shape.cols c.if-is_filled.right =
    elim c.if-is_filled.branch [
      | then-is_filled w ↦ rw w.right-is (next_here _ _ _ (omega (arith, v.columns.inside)) (full ∙ w.if-is_filled.true))
      | else-is_filled w ↦ rw w.right-is (next_on _ _ _ _ _ (omega arith) (full ∙ w.if-is_filled.false) v.right)
    ] in
    record { columns = columns_step c.requires.0 v.columns c.loop-j-test.true _ right; right = right }
