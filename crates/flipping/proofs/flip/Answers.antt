-- `flipping::flip` meets its contract: what passes is what a round is given. Assumes nothing.
use Rattle.std.proofs.Common.{sym, ◌∙◌}
use Rattle.flipping.proofs.Rules.{given}
use Rattle.flipping.proofs.flip.Goals as goal

pub flip_valid-requires : goal.flip_valid-requires
flip_valid-requires c =
    let p = c.in_ok-plan.ensures in
    let other = rw (p.plan.0, p.plan.1) at c.has_other_weight.ensures in
    rw (p.plan.0, p.plan.1) (given _ _ _ _ _ (sym p.refusal) (sym other ∙ c.if-has_other_weight.false))
