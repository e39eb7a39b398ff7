-- `peeling::fill` meets its contract: a valid word gets what `fill_valid` gives. Assumes nothing.
use Rattle.std.proofs.Common.{sym, ◌∙◌}
use Rattle.peeling.proofs.Rules.{fillable, valid_filled}
use Rattle.peeling.proofs.fill.Goals as goal

pub fill_valid-requires : goal.fill_valid-requires
fill_valid-requires c = let p = c.in_ok-plan.ensures in fillable _ _ _ _ _ p.refusal c.in_ok-plan.plan p.plan.1

pub returns : goal.returns
returns c =
    let p = c.in_ok-plan.ensures in
    let f = rw (p.plan.0, p.plan.1) at c.fill_valid.ensures in
    let r = valid_filled _ _ _ _ _ p.refusal in
    (f.0 ∙ sym r.0, f.1 ∙ sym r.1)
