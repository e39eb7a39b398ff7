-- `comparer::compare` meets its contract. Assumes nothing.
use Rattle.std.proofs.Common.{rules, ◌≡◌}
use Rattle.std.specs.Prelude.{MatchResult, Ok}
use Rattle.refusal.specs.Answer.{ok_unless}
use Rattle.exponent.specs.Tanner.{graph_of}
use Rattle.tokens.specs.declared.Form.TheVariants.{Unpadded}
use Rattle.comparer.specs.Verdict.{departs_in, departs}
use Rattle.comparer.proofs.Forms.{or_later, either_form}
use Rattle.comparer.proofs.compare.Goals as goal

pub returns : goal.returns
unfolding departs
returns c =
    let a = c.args in
    let told : MatchResult c.compare_in.result (λ v. c.or_else.result ≡ Ok v)
    (λ p. c.or_else.result ≡ or_later p (ok_unless (departs_in Unpadded a.text.now (graph_of a.plan.now a.s)))) = search rules in
    either_form _ _ _ _ c.compare_in.ensures told
