-- No block before column k is misplaced. Assumes nothing.
use Rattle.std.proofs.Common.{◌≡◌, false}
use Rattle.graph.specs.Erasure.{any}
use Rattle.exponent.specs.Plan.{block_at}
use Rattle.bidiagonal.specs.Shape.{misplaced}
use Rattle.bidiagonal.proofs.front.misplaced_in.Given as goal

abbrev pub invariant-loop-k : goal.invariant-loop-k
invariant-loop-k l = any l.k (λ j. misplaced l.i j (block_at l.plan.entries.now l.plan.shape.cols l.plan.shape.lift l.i j)) ≡ false
