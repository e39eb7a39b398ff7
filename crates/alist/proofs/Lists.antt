-- Refusal 25 of the two calls, after all others. Assumes nothing.
use Rattle.std.specs.Prelude.{Some}
use Prim.Native.Nat.{ℕ}
use mathlib.Core.Path.{◌≡◌, refl}
use mathlib.Core.Bool.{true}
use mathlib.Core.List.{List, ◌++◌}
use lib.IntN.{ℤ}
use Rattle.refusal.specs.declared.Refusal.TheVariants.{Weights}
use Rattle.refusal.specs.Lowest.{lowest}
use Rattle.refusal.proofs.Lowest.{not_after}
use Rattle.exponent.specs.Limits.{plan_rules}
use Rattle.exponent.specs.Tanner.{tanner}
use Rattle.comparer.specs.Verdict.{departs}
use Rattle.weights.specs.Weights.{shape_of, right, weight_rules}
use Rattle.weights.proofs.Weights.{lists_right}
use Rattle.alist.specs.Calls.{alist_text, room_rules, write_rules, token_rules, compare_rules}

-- 25 falls on neither call where the lists are right: the refusals before it have lower numbers
module _ (plan : List ℤ) (rows cols lift : ℕ) (byrow bycol : List ℕ) (found : right plan (shape_of rows cols lift) byrow bycol ≡ true) where
  pub write_not_25 : (place : List ℕ) → lowest (write_rules plan rows cols lift byrow bycol place) ≡ Some Weights → ⊥
  unfolding write_rules plan_rules
  write_not_25 place e =
      not_after (plan_rules plan rows cols lift ++ room_rules (alist_text plan rows cols lift) place) (weight_rules plan (shape_of rows cols lift) byrow bycol) Weights refl
      (lists_right plan (shape_of rows cols lift) byrow bycol found) e

  pub compare_not_25 : (text : List ℕ) → lowest (compare_rules plan rows cols lift byrow bycol text) ≡ Some Weights → ⊥
  unfolding compare_rules plan_rules
  compare_not_25 text e =
      not_after (plan_rules plan rows cols lift ++ token_rules (departs text (tanner plan rows cols lift))) (weight_rules plan (shape_of rows cols lift) byrow bycol) Weights refl
      (lists_right plan (shape_of rows cols lift) byrow bycol found) e
