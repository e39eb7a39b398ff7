-- Past refusals 1 to 6 of the plan the call's own are left. Assumes nothing.
use Rattle.std.proofs.Common.{◌∙◌, sym}
use Rattle.std.proofs.lemmas.Result.{err_from_is_err_and}
use Rattle.std.proofs.Math.Facts.{to_z-of_z}
use Rattle.exponent.proofs.Rules as plan_laws
use Rattle.weights.proofs.Rules.{plan_refused, plan_accepted}
use Rattle.weights.proofs.change.judge.Goals as goal

pub returns-in_err-validate : goal.returns-in_err-validate
returns-in_err-validate c = let a = c.args in
    let p = err_from_is_err_and c.from_residual.result c.from_residual.ensures.1 in
    let o = plan_laws.refused_some _ c.in_err-validate.field-0.0 (sym c.validate.ensures ∙ c.in_err-validate.was) in
    rw (p.1, p.2, plan_refused a.plan.now a.s a.at a.entry a.byrow.now a.bycol.now _ o)

pub returns : goal.returns
returns c = let a = c.args in
    let o = plan_laws.valid_none _ (sym c.validate.ensures ∙ c.in_ok-validate.was) in
    let real = to_z-of_z c.ranges.entry in
    rw (plan_accepted a.plan.now a.s a.at a.entry a.byrow.now a.bycol.now o) (rw real at c.judge_block.ensures)
