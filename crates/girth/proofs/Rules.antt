-- Laws of the test's refusals, 1 to 6 and 14: their numbers rise, and the plan's go before the target's. Assumes nothing.
use Prim.Native.Nat.{ℕ}
use mathlib.Core.Path.{◌≡◌, refl, ap, ◌∙◌}
use mathlib.Core.Bool.{true, false, not}
use mathlib.Core.List.{List, []}
use Rattle.std.specs.Prelude.{None, Some}
use lib.IntN.{ℤ}
use Rattle.refusal.specs.declared.Refusal.{Refusal}
use Rattle.refusal.specs.declared.Refusal.TheVariants.{Target}
use Rattle.refusal.specs.Lowest.{lowest, rising}
use Rattle.refusal.proofs.Lowest.{lowest_here, lowest_next, lowest_accepted, lowest_refused, none_append}
use Rattle.exponent.specs.Limits.{plan_rules, WellFormed}
use Rattle.exponent.proofs.Rules.{accepted}
use Rattle.girth.specs.Test.{allowed, test_rules}

-- computed, whatever the plan and the target are
pub rules_rise : (plan : List ℤ) (rows cols lift target : ℕ) → rising (test_rules plan rows cols lift target) ≡ true
unfolding test_rules plan_rules
rules_rise plan rows cols lift target = refl

module _ (plan : List ℤ) (rows cols lift target : ℕ) where
  pub refused_plan : (x : Refusal) → lowest (plan_rules plan rows cols lift) ≡ Some x → lowest (test_rules plan rows cols lift target) ≡ Some x
  unfolding test_rules
  refused_plan x e = lowest_refused (plan_rules plan rows cols lift) _ x e

  pub refused_target : lowest (plan_rules plan rows cols lift) ≡ None → allowed target ≡ false → lowest (test_rules plan rows cols lift target) ≡ Some Target
  unfolding test_rules
  refused_target e h = lowest_accepted (plan_rules plan rows cols lift) _ e ∙ lowest_here (not (allowed target)) Target [] (ap not h)

  pub not_refused : lowest (plan_rules plan rows cols lift) ≡ None → allowed target ≡ true → lowest (test_rules plan rows cols lift target) ≡ None
  unfolding test_rules lowest
  not_refused e h = lowest_accepted (plan_rules plan rows cols lift) _ e ∙ lowest_next (not (allowed target)) Target [] (ap not h)

  -- where nothing applies, the plan is well formed
  pub formed : lowest (test_rules plan rows cols lift target) ≡ None → WellFormed plan rows cols lift
  unfolding test_rules
  formed e = (accepted plan rows cols lift).0 ((none_append (plan_rules plan rows cols lift) _).0 e).0
