-- Refusal 26 on small plans, computed: with one place fewer than nodes it is due, also where a pair stands higher up in the tree.
-- Assumes nothing.
use Prim.Native.Nat.{ℕ}
use mathlib.Core.Path.{◌≡◌, refl}
use mathlib.Core.List.{List, [], ◌∷◌}
use Rattle.std.specs.Prelude.{Option, None, Some}
use Rattle.refusal.specs.declared.Refusal.{Refusal}
use Rattle.refusal.specs.declared.Refusal.TheVariants.{Target, WorkPlace}
use Rattle.refusal.specs.Lowest.{lowest}
use Rattle.refusal.specs.Place.{first_place}
use Rattle.graph.specs.Count.{range, member}
use Rattle.exponent.specs.Limits.{plan_rules}
use Rattle.exponent.specs.Plan.{shifts, entry_at, block_at}
use Rattle.girth.specs.Test.{allowed, test_rules}
use Rattle.walks.specs.Ways.{each}
use Rattle.trees.specs.Tree.{tree, overfull}
use Rattle.treetest.specs.Answer.{pair_rules}

abbrev refusal : List ℕ → ℕ → ℕ → ℕ → ℕ → ℕ → Option Refusal
refusal l rows cols lift target places = lowest (pair_rules (shifts l) rows cols lift target places)

abbrev zeros : List ℕ
zeros = 0 ∷ 0 ∷ 0 ∷ 0 ∷ []

abbrev second : List ℕ
second = 0 ∷ 0 ∷ 0 ∷ 1 ∷ []

-- The 2 × 2 plan of zeros at 12 (11 nodes, and a pair at depth 2); 0 0 / 0 1 at 8 (7 nodes); one row of three blocks (4 nodes); the first
-- plan at 18 (17 nodes); a target that is not allowed, which comes first.
pub computed :
    (refusal zeros 2 2 1 12 10 ≡ Some WorkPlace)
    × (refusal zeros 2 2 1 12 11 ≡ None)
    × (refusal second 2 2 2 8 6 ≡ Some WorkPlace)
    × (refusal second 2 2 2 8 7 ≡ None)
    × (refusal (0 ∷ 0 ∷ 0 ∷ []) 1 3 4096 12 3 ≡ Some WorkPlace)
    × (refusal (0 ∷ 0 ∷ 0 ∷ []) 1 3 4096 12 4 ≡ None)
    × (refusal zeros 2 2 1 18 16 ≡ Some WorkPlace)
    × (refusal zeros 2 2 1 18 17 ≡ None)
    × (refusal zeros 2 2 1 7 0 ≡ Some Target)
unfolding lowest pair_rules test_rules plan_rules first_place allowed member entry_at block_at overfull tree each range
computed = (refl, refl, refl, refl, refl, refl, refl, refl, refl)
