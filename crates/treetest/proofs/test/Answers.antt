-- `treetest::test` meets its contract: what `judge` refuses, and then the test of a valid plan. Assumes nothing.
use Rattle.std.proofs.Common.{sym}
use Rattle.std.proofs.lemmas.Result.{err_from_is_err_and}
use Rattle.exponent.specs.Plan.{shape_of}
use Rattle.treetest.specs.Answer.{refused}
use Rattle.treetest.proofs.Answers.{refused_before}
use Rattle.treetest.proofs.test.Goals as goal

pub returns-in_err-plan-clause-answers : goal.returns-in_err-plan-clause-answers
returns-in_err-plan-clause-answers c =
    let a = c.args in
    let p = err_from_is_err_and c.from_residual.result c.from_residual.ensures.1 in
    rw (p.1, p.2) (refused _ (refused_before a.plan.now (shape_of a.rows a.cols a.lift) a.target _ _ (sym c.in_err-plan.ensures.refusal)))

pub test_valid-requires : goal.test_valid-requires
test_valid-requires c = let p = c.in_ok-plan.ensures in rw (p.plan.0, p.plan.1) (sym p.refusal)

pub returns-clause-answers : goal.returns-clause-answers
returns-clause-answers c = let p = c.in_ok-plan.ensures in rw (p.plan.0, p.plan.1) at c.test_valid.ensures.answers
