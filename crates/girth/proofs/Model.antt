-- The model of the whole test meets the test's declaration, for any numbers handed in. Assumes nothing.
use Prim.Native.Nat.{ℕ, ◌-◌, ◌/◌}
use mathlib.Core.Path.{◌≡◌, refl}
use mathlib.Core.List.{List}
use Rattle.std.specs.Prelude.{Option, None, Some}
use lib.IntN.{ℤ}
use Rattle.refusal.specs.declared.Refusal.{Refusal}
use Rattle.refusal.specs.Answer.{outcome}
use Rattle.refusal.specs.Lowest.{lowest}
use Rattle.walks.specs.Steps.{blocks_of}
use Rattle.girth.specs.Test.{test_rules, Answer, refused}
use Rattle.girth.specs.Model.{shortest, model}
use Rattle.girth.proofs.Verdict.{model_answers}

pub model_answer : (plan : List ℤ) (rows cols lift target : ℕ) → Answer plan rows cols lift target (model plan rows cols lift target)
unfolding model
model_answer plan rows cols lift target = go (lowest (test_rules plan rows cols lift target)) refl
  where
    go : (o : Option Refusal) → lowest (test_rules plan rows cols lift target) ≡ o
        → Answer plan rows cols lift target (outcome o (shortest (blocks_of plan (record { rows = rows; cols = cols; lift = lift })) (target / 2 - 2) 2))
    go None e = model_answers plan (record { rows = rows; cols = cols; lift = lift }) target e
    go (Some x) e = refused x e
