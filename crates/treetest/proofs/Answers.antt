-- The answer of the test by sorted pairs: its refusals, and its verdict on a valid plan. Assumes nothing.
use Rattle.std.specs.Prelude.{Ok, Err}
use Prim.Native.Nat.{ℕ, suc, ◌*◌, ◌≤◌, ◌<◌}
use mathlib.Core.Path.{◌≡◌, refl, ◌∙◌}
use mathlib.Core.Bool.{true, false}
use mathlib.Core.List.{List, []}
use Rattle.std.specs.Prelude.{None, Some}
use native.Mathlib.Omega.{arith}
use lib.IntN.{ℤ}
use Rattle.refusal.specs.declared.Refusal.{Refusal}
use Rattle.refusal.specs.declared.Refusal.TheVariants.{WorkPlace}
use Rattle.refusal.specs.Lowest.{lowest, rising}
use Rattle.refusal.proofs.Lowest.{lowest_here, lowest_next, lowest_accepted, lowest_refused}
use Rattle.exponent.specs.declared.Shape.{Shape}
use Rattle.exponent.specs.Limits.{plan_rules, WellFormed}
use Rattle.walks.specs.Steps.{blocks_of}
use Rattle.girth.specs.Test.{test_rules}
use Rattle.girth.proofs.Rules as rules
use Rattle.girth.proofs.Verdict.{asked}
use Rattle.trees.specs.Tree.{depth_of, overfull}
use Rattle.trees.specs.Pairs.{SomePair}
use Rattle.trees.proofs.Passing.{pair_fails, none_passes}
use Rattle.treetest.specs.Answer.{pair_rules, Answer, refused, passed, not_passed}

-- computed, whatever the plan, the target and the list are
pub rules_rise : (plan : List ℤ) (rows cols lift target places : ℕ) → rising (pair_rules plan rows cols lift target places) ≡ true
unfolding pair_rules test_rules plan_rules
rules_rise plan rows cols lift target places = refl

module _ (plan : List ℤ) (s : Shape) (target places : ℕ) where
  pub refused_before : (x : Refusal) → lowest (test_rules plan s.rows s.cols s.lift target) ≡ Some x
      → lowest (pair_rules plan s.rows s.cols s.lift target places) ≡ Some x
  unfolding pair_rules
  refused_before x e = lowest_refused (test_rules plan s.rows s.cols s.lift target) _ x e

  pub refused_work : lowest (test_rules plan s.rows s.cols s.lift target) ≡ None → overfull (blocks_of plan s) (depth_of target) places ≡ true
      → lowest (pair_rules plan s.rows s.cols s.lift target places) ≡ Some WorkPlace
  unfolding pair_rules
  refused_work e h = lowest_accepted (test_rules plan s.rows s.cols s.lift target) _ e ∙ lowest_here _ WorkPlace [] h

  pub not_refused : lowest (test_rules plan s.rows s.cols s.lift target) ≡ None → overfull (blocks_of plan s) (depth_of target) places ≡ false
      → lowest (pair_rules plan s.rows s.cols s.lift target places) ≡ None
  unfolding pair_rules lowest
  not_refused e h = lowest_accepted (test_rules plan s.rows s.cols s.lift target) _ e ∙ lowest_next _ WorkPlace [] h

-- A PLAN AND A TARGET that are not turned away
module _ (plan : List ℤ) (s : Shape) (target : ℕ) (ok : lowest (test_rules plan s.rows s.cols s.lift target) ≡ None) where
  formed : WellFormed plan s.rows s.cols s.lift
  formed = rules.formed plan s.rows s.cols s.lift target ok

  pub half : (0 < depth_of target) × (depth_of target < 16) × (2 * depth_of target < target) × (target ≤ 2 * suc (depth_of target))
  half = let r = (asked plan s target ok).1 in omega (arith, r.whole, r.fits, r.even)

  module _ (places : ℕ) where
    pub answer_full : overfull (blocks_of plan s) (depth_of target) places ≡ true → Answer plan s.rows s.cols s.lift target places (Err WorkPlace)
    answer_full h = refused WorkPlace (refused_work plan s target places ok h)

    pub answer_pair : overfull (blocks_of plan s) (depth_of target) places ≡ false → SomePair (blocks_of plan s) (depth_of target)
        → Answer plan s.rows s.cols s.lift target places (Ok false)
    answer_pair h p = not_passed (not_refused plan s target places ok h) (pair_fails plan s formed target p.column half.1 half.2 p.inside p.pair)

    pub answer_none : overfull (blocks_of plan s) (depth_of target) places ≡ false → (SomePair (blocks_of plan s) (depth_of target) → ⊥)
        → Answer plan s.rows s.cols s.lift target places (Ok true)
    answer_none h n =
        passed (not_refused plan s target places ok h) (none_passes plan s formed target half.3 (λ j q p. n (record { column = j; inside = q; pair = p })))
