-- Assumes nothing.
use Rattle.std.proofs.Common.{rules, ◌∙◌, sym, ap, length, refl}
use native.Mathlib.Omega.{arith}
use borrow.Author.Tests.{ne_eqb, tests}
use Rattle.std.proofs.lemmas.Iterator.{YieldsList-from_range, cases_from_all}
use Rattle.weights.proofs.Weights.{Right, Wrong, same_counts, not_same, length_weights}
use Rattle.weights.proofs.is_side.Goals as goal

pub returns-then-list-lanes : goal.returns-then-list-lanes
returns-then-list-lanes c = let a = c.args in
    let n = length a.list.now in
    same_counts a.plan.now a.s a.side a.list.now (omega arith) c.all.result
    (cases_from_all _ _ c.all.result (Right a.plan.now a.s a.side a.list.now) (Wrong a.plan.now a.s a.side a.list.now) c.all.ensures.ran
    (YieldsList-from_range 0 n n refl (omega arith)) (λ x q k. search (rules, tests)) (λ x q k. search (rules, tests)))

pub returns-else-list-lanes : goal.returns-else-list-lanes
returns-else-list-lanes c = let a = c.args in
    ne_eqb _ _ c.if-list-lanes.false ∙ sym (not_same _ _ (λ e. c.if-list-lanes.false (omega (arith, ap length e, length_weights a.plan.now a.s a.side))))
