-- 27 to 29 are judged where none of 1 to 6 applies. Assumes nothing.
use Rattle.std.proofs.Common.{sym, ap, ◌∙◌}
use Rattle.std.specs.Prelude.{Option}
use Rattle.std.proofs.lemmas.Result.{err_from_is_err_and}
use Rattle.refusal.specs.declared.Refusal.{Refusal}
use Rattle.refusal.specs.Lowest.{lowest, or_else}
use Rattle.exponent.proofs.Rules.{valid_none, refused_some}
use Rattle.crt.specs.Join.{both_refusal, join_rules, join_refusal}
use Rattle.crt.specs.Work.{shaped, refused}
use Rattle.crt.proofs.Rules.{both_formed}
use Rattle.crt.proofs.Judging.{none_before}
use Rattle.crt.proofs.judge.judge.Goals as goal

pub returns-in_err-judge_both : goal.returns-in_err-judge_both
unfolding join_refusal
returns-in_err-judge_both c =
    let one = shaped c.args.first.now c.args.s in
    let two = shaped c.args.second.now c.args.t in
    let p = err_from_is_err_and c.from_residual.result c.from_residual.ensures.1 in
    let r = refused_some (both_refusal one two) _ (sym c.judge_both.ensures ∙ c.in_err-judge_both.was) in
    rw (p.1, p.2) (refused _ (ap (λ (o : Option Refusal). or_else o (lowest (join_rules one two c.args.room))) r))

pub judge_valid-requires : goal.judge_valid-requires
judge_valid-requires c = both_formed _ _ (valid_none _ (sym c.judge_both.ensures ∙ c.in_ok-judge_both.was))

pub returns : goal.returns
unfolding join_refusal
returns c = none_before _ _ (valid_none _ (sym c.judge_both.ensures ∙ c.in_ok-judge_both.was)) c.judge_valid.ensures
