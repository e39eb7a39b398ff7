-- A row with a misplaced block. Assumes nothing.
use Rattle.std.proofs.Common.{sym, ◌∙◌}
use Rattle.graph.proofs.Peeling.{any_some}
use Rattle.bidiagonal.specs.Shape.{some_misplaced}
use Rattle.bidiagonal.proofs.front.some_misplaced.Goals as goal

pub returns-then-misplaced_in : goal.returns-then-misplaced_in
unfolding some_misplaced
returns-then-misplaced_in c = sym (any_some _ _ _ c.loop-i-test.true (sym c.misplaced_in.ensures ∙ c.if-misplaced_in.true))
