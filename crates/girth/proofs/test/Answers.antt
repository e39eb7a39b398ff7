-- `girth::test` meets its contract: what `judge` refuses, and then the model's answer, which is one (`model_answers`). Assumes nothing.
use Rattle.std.specs.Prelude.{Ok}
use Rattle.std.proofs.Common.{sym, ap, subst, arith}
use Rattle.std.proofs.lemmas.Result.{err_from_is_err_and}
use Rattle.exponent.specs.Plan.{shape_of}
use Rattle.girth.specs.Test.{Answer, refused}
use Rattle.girth.proofs.Verdict.{asked, model_answers}
use Rattle.girth.proofs.test.Goals as goal

pub returns-in_err-plan : goal.returns-in_err-plan
returns-in_err-plan c =
    let p = err_from_is_err_and c.from_residual.result c.from_residual.ensures.1 in
    rw (p.1, p.2) (refused _ (sym c.in_err-plan.ensures.refusal))

pub test_valid-requires : goal.test_valid-requires
test_valid-requires c =
    let a = c.args in
    omega (arith, (asked a.plan.now (shape_of a.rows a.cols a.lift) a.target (sym c.in_ok-plan.ensures.refusal)).1.fits)

pub returns : goal.returns
returns c =
    let a = c.args in
    let same = c.in_ok-plan.ensures.plan in
    subst (Answer a.plan.now a.rows a.cols a.lift a.target) (ap Ok (sym (rw (same.0, same.1) at c.test_valid.ensures)))
    (model_answers _ _ _ (sym c.in_ok-plan.ensures.refusal))
