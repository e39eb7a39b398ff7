-- No block of the rows before i is misplaced. Assumes nothing.
use Rattle.std.proofs.Common.{◌≡◌, ◌-◌, false}
use Rattle.graph.specs.Erasure.{any}
use Rattle.exponent.specs.Plan.{block_at}
use Rattle.bidiagonal.specs.Shape.{misplaced}
use Rattle.bidiagonal.proofs.front.some_misplaced.Given as goal

abbrev pub invariant-loop-i : goal.invariant-loop-i
invariant-loop-i l = any l.i (λ i. any (l.plan.shape.rows - 1) (λ k. misplaced i k (block_at l.plan.entries.now l.plan.shape.cols l.plan.shape.lift i k))) ≡ false
