-- `peeling::preview` meets its contract: a valid word gets what `fill_valid` gives for a copy. Assumes nothing.
use Rattle.std.proofs.Common.{sym, ◌∙◌}
use Rattle.peeling.proofs.Rules.{fillable, valid_filled}
use Rattle.peeling.proofs.preview.Goals as goal

pub preview_valid-requires : goal.preview_valid-requires
preview_valid-requires c = let p = c.in_ok-plan.ensures in fillable _ _ _ _ _ p.refusal c.in_ok-plan.plan p.plan.1

pub returns : goal.returns
returns c =
    let p = c.in_ok-plan.ensures in
    rw (p.plan.0, p.plan.1) at c.preview_valid.ensures ∙ sym (valid_filled _ _ _ _ _ p.refusal).0
