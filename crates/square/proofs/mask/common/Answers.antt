-- The ones of the first row are the only weight that can be common. Assumes nothing.
use Rattle.std.proofs.Common.{◌∙◌, sym, ap, ℕ}
use native.Mathlib.Omega.{arith}
use borrow.Author.Tests.{eqb-true, eqb-false}
use lib.Dec.{eqb}
use Rattle.graph.proofs.Decide.{both_ways}
use Rattle.std.proofs.lemmas.Bool.{lt-leb}
use Rattle.square.proofs.Weights.{common_low, common_rows, common_columns}
use Rattle.square.proofs.mask.common.Goals.{then-weight-ge-LEAST, else-weight-ge-LEAST}
use Rattle.square.proofs.mask.common.Goals as goal

pub returns-then-lines_of-order : goal.returns-then-lines_of-order
returns-then-lines_of-order c = let a = c.args in
    elim c.if-weight-ge-LEAST.branch [
      | then-weight-ge-LEAST w ↦
          ap (λ (x : ℕ). eqb x a.order) c.lines_of-then-lines_of-order.ensures
          ∙ common_columns a.order a.mask.now a.weight c.requires.3 (omega arith) (sym w.lines_of.ensures ∙ eqb-true _ _ (sym w.value-is ∙ c.if-lines_of-order.true))
      | else-weight-ge-LEAST w ↦ absurd (both_ways c.if-lines_of-order.true (w.value-is ∙ lt-leb 4 a.weight (omega arith)))
    ]

pub returns-else-lines_of-order : goal.returns-else-lines_of-order
returns-else-lines_of-order c = let a = c.args in
    elim c.if-weight-ge-LEAST.branch [
      | then-weight-ge-LEAST w ↦ c.if-lines_of-order.false ∙ common_rows a.order a.mask.now a.weight c.requires.3 (λ e. eqb-false _ _ (sym w.value-is ∙ c.if-lines_of-order.false) (w.lines_of.ensures ∙ e))
      | else-weight-ge-LEAST w ↦ c.if-lines_of-order.false ∙ common_low a.order a.mask.now a.weight c.requires.3 (omega arith)
    ]
