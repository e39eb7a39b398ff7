-- What is refused of the word stays so. Assumes nothing.
use Rattle.std.proofs.Common.{arith}
use Rattle.refusal.proofs.Lowest.{lowest_refused}
use Rattle.syndrome.specs.Check.{check_rules}
use Rattle.syndrome.proofs.validate_known.Goals as goal

pub returns-in_err-plan-clause-refusal : goal.returns-in_err-plan-clause-refusal
unfolding check_rules
returns-in_err-plan-clause-refusal c = grind (arith, lowest_refused)
