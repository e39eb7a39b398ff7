-- The refusals of the two calls: their numbers rise, and past refusals 1 to 6 the call's own is left. Assumes nothing.
use Rattle.std.specs.Prelude.{Ok, Err, Some}
use Rattle.refusal.specs.Answer.{ok_unless}
use Prim.Native.Nat.{ℕ}
use mathlib.Core.Path.{◌≡◌, refl}
use mathlib.Core.Bool.{true}
use mathlib.Core.List.{List, ◌++◌}
use lib.IntN.{ℤ}
use Rattle.refusal.specs.declared.Refusal.{Refusal}
use Rattle.refusal.specs.Lowest.{Rule, lowest, rising}
use Rattle.refusal.proofs.Lowest.{lowest_accepted, lowest_refused}
use Rattle.exponent.specs.Limits.{plan_rules, WellFormed}
use Rattle.exponent.proofs.Rules.{accepted, valid_none, refused_some}
use Rattle.alist.specs.Calls.{write_rules, compare_rules}

-- computed, whatever the plan, the lists and the text are
module _ (plan : List ℤ) (rows cols lift : ℕ) (byrow bycol : List ℕ) where
  pub write_rise : (place : List ℕ) → rising (write_rules plan rows cols lift byrow bycol place) ≡ true
  unfolding write_rules plan_rules
  write_rise place = refl

  pub compare_rise : (text : List ℕ) → rising (compare_rules plan rows cols lift byrow bycol text) ≡ true
  unfolding compare_rules plan_rules
  compare_rise text = refl

-- by what a call answers to the rules that come first
pub still_refused : (rules others : List Rule) (r : Refusal) → ok_unless (lowest rules) ≡ Err r → lowest (rules ++ others) ≡ Some r
still_refused rules others r e = lowest_refused rules others r (refused_some _ r e)

pub then_others : (rules others : List Rule) → ok_unless (lowest rules) ≡ Ok tt → lowest (rules ++ others) ≡ lowest others
then_others rules others e = lowest_accepted rules others (valid_none _ e)

pub valid_formed : (plan : List ℤ) (rows cols lift : ℕ) → ok_unless (lowest (plan_rules plan rows cols lift)) ≡ Ok tt → WellFormed plan rows cols lift
valid_formed plan rows cols lift e = (accepted plan rows cols lift).0 (valid_none _ e)
