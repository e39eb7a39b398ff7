-- The girth test by sorted pairs (document 02, slip 8): when it is refused, and what its answer says of a plan.
use Rattle.std.specs.Prelude.{Result, Ok, Err, true, false}
use Rattle.std.specs.Prelude.{⊤, Bool, ℕ, ◌≡◌, List, [], ◌∷◌, ◌++◌, ℤ}
use Rattle.std.specs.Prelude.{None, Some}
use Rattle.refusal.specs.declared.Refusal.{Refusal}
use Rattle.refusal.specs.declared.Refusal.TheVariants.{WorkPlace}
use Rattle.refusal.specs.Lowest.{Rule, refuse, lowest}
use Rattle.graph.specs.Girth.{Passes}
use Rattle.exponent.specs.Tanner.{tanner}
use Rattle.walks.specs.Steps.{blocks_of}
use Rattle.girth.specs.Test.{test_rules}
use Rattle.trees.specs.Tree.{depth_of, overfull}

-- refusals 1 to 6 and 14 of the girth test, and 26: the tree of some column has more nodes than the work list has places
unfoldable pub pair_rules : List ℤ → ℕ → ℕ → ℕ → ℕ → ℕ → List Rule
pair_rules plan rows cols lift target places =
    test_rules plan rows cols lift target
    ++ refuse WorkPlace (overfull (blocks_of plan (record { rows = rows; cols = cols; lift = lift })) (depth_of target) places) ∷ []

-- The answer is the lowest refusal that applies; else whether the plan passes at the target.
pub data Answer (plan : List ℤ) (rows cols lift target places : ℕ) : Result Bool Refusal → Type 0 where
  refused : (x : Refusal) → lowest (pair_rules plan rows cols lift target places) ≡ Some x → Answer plan rows cols lift target places (Err x)
  passed : lowest (pair_rules plan rows cols lift target places) ≡ None → Passes (tanner plan rows cols lift) target → Answer plan rows cols lift target places (Ok true)
  not_passed : lowest (pair_rules plan rows cols lift target places) ≡ None → (Passes (tanner plan rows cols lift) target → ⊥)
      → Answer plan rows cols lift target places (Ok false)

-- the work list as lent, and after the call: on a refusal it is as lent, and after a verdict what it holds is free
abbrev pub Leaves : List ℕ → List ℕ → Result Bool Refusal → Type 0
Leaves lent after (Ok passes) = ⊤
Leaves lent after (Err x) = after ≡ lent
