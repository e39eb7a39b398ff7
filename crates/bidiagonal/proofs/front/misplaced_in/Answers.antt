-- The code's test is that of the block. Assumes nothing.
use Rattle.std.proofs.Common.{sym, ap, ◌∙◌}
use Rattle.graph.proofs.Peeling.{any_some}
use Rattle.bidiagonal.specs.Shape.{misplaced}
use Rattle.bidiagonal.proofs.front.misplaced_in.Goals as goal

pub returns-then-is_misplaced : goal.returns-then-is_misplaced
returns-then-is_misplaced c =
    sym (any_some _ _ _ c.loop-k-test.true (sym (c.is_misplaced.ensures ∙ ap (misplaced c.args.i c.loop-k.k) c.block_at.ensures) ∙ c.if-is_misplaced.true))
