-- Three judgements, of which the lowest is taken. Assumes nothing.
use mathlib.Core.Path.{ap, ◌∙◌}
use Rattle.refusal.specs.Answer.{ok_unless}
use Rattle.refusal.specs.Lowest.{lower}
use Rattle.crt.specs.Join.{plan_refusal, at_product, both_refusal}
use Rattle.crt.specs.Work.{shaped}
use Rattle.crt.proofs.Judging.{lower_told}
use Rattle.crt.proofs.judge.judge_both.Goals as goal

pub returns : goal.returns
unfolding both_refusal
returns c = let a = shaped c.args.first.now c.args.s in
    let b = shaped c.args.second.now c.args.t in
    lower_told (lower (plan_refusal a) (plan_refusal b)) (plan_refusal (at_product a b)) c.lower-2.ensures
    (lower_told (plan_refusal a) (plan_refusal b) c.lower.ensures c.validate-a.ensures c.validate-b.ensures)
    (c.validate-c.ensures ∙ ap ok_unless (c.product.ensures a.plan a.rows a.cols))
