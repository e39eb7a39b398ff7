-- Row 26, of a lent work list: the test by sorted pairs counts walks. Assumes nothing.
use Prim.Native.Nat.{ℕ, ◌*◌, ◌<◌}
use mathlib.Core.Path.{◌≡◌, refl, sym, subst}
use mathlib.Core.Logic.{inl, inr}
use mathlib.Core.Bool.{true}
use mathlib.Core.List.{List, [], ◌∷◌}
use native.Mathlib.Omega.{arith}
use native.Mathlib.Nat.{add-zero}
use lib.IntN.{ℤ}
use Rattle.refusal.specs.declared.Refusal.TheVariants.{WorkPlace}
use Rattle.refusal.specs.Lowest.{refuse}
use Rattle.graph.specs.Walks.{bit, Walk}
use Rattle.graph.proofs.Decide.{by_eq}
use Rattle.exponent.specs.declared.Shape.{Shape}
use Rattle.exponent.specs.Tanner.{tanner}
use Rattle.walks.specs.Steps.{blocks_of}
use Rattle.girth.specs.Test.{test_rules}
use Rattle.trees.specs.Tree.{depth_of, overfull}
use Rattle.trees.proofs.Counting.{walks_overfull, overfull_walks}
use Rattle.treetest.specs.Answer.{pair_rules}
use Rattle.promises.specs.TurnedAway.{row_3, PlanRow, of_lift, TargetRow, WorkRow, row_26, ◌or◌}
use Rattle.promises.proofs.Matching.{Listed, RowOrLower, Matches, join_lower, by_rule, no_rule, at_rule}
use Rattle.promises.proofs.PlanRows.{test_matches}

module _ (plan : List ℤ) (rows cols lift target places : ℕ) where
  abbrev s : Shape
  s = record { rows = rows; cols = cols; lift = lift }

  abbrev Work : ℕ → List ℕ → Type 0
  Work = WorkRow (tanner plan rows cols lift) cols lift target places

  abbrev Rows : ℕ → List ℕ → Type 0
  Rows = PlanRow plan rows cols lift or TargetRow target or Work

  -- without a lift, row 3 applies
  no_lift : lift ≡ 0 → RowOrLower Rows WorkPlace
  no_lift e = inr (record { other = 3; its_values = []; applies = inl (inl (of_lift 3 [] (row_3 (inl (omega arith))))); lower = omega arith })

  pub work_row : 0 < lift → overfull (blocks_of plan (record { rows = rows; cols = cols; lift = lift })) (depth_of target) places ≡ true
      → WorkRow (tanner plan rows cols lift) cols lift target places 26 []
  work_row some_lift e =
      let (j, h, (nodes, distinct, walks, more)) = overfull_walks plan s (depth_of target) some_lift places e in
      row_26 j h nodes distinct
      (λ l m. let (w, k) = walks l m in record { walk = subst (λ (z : ℕ). Walk (tanner plan rows cols lift) (bit z ∷ l)) (add-zero (j * lift)) w; short = k }) (omega arith)

  pub row_overfull : {n : ℕ} {l : List ℕ} → WorkRow (tanner plan rows cols lift) cols lift target places n l
      → overfull (blocks_of plan (record { rows = rows; cols = cols; lift = lift })) (depth_of target) places ≡ true
  row_overfull (row_26 j h nodes distinct walks more) =
      walks_overfull plan s (depth_of target) places j h nodes distinct
      (λ l m. (subst (λ (z : ℕ). Walk (tanner plan rows cols lift) (bit z ∷ l)) (sym (add-zero (j * lift))) (walks l m).walk, (walks l m).short)) (omega arith)

  told : overfull (blocks_of plan s) (depth_of target) places ≡ true → RowOrLower Rows WorkPlace
  told e = by_eq lift 0 no_lift (λ n. inl (inr (work_row (omega arith) e)))

  row : (n : ℕ) (l : List ℕ) → Work n l → Listed (refuse WorkPlace (overfull (blocks_of plan s) (depth_of target) places) ∷ []) n l
  row n l (row_26 j h nodes distinct walks more) = at_rule _ _ refl refl (row_overfull (row_26 j h nodes distinct walks more))

  pub pairs_matches : Matches (pair_rules plan rows cols lift target places)
      (PlanRow plan rows cols lift or TargetRow target or WorkRow (tanner plan rows cols lift) cols lift target places)
  unfolding pair_rules
  pairs_matches =
      join_lower (test_rules plan rows cols lift target) _ (PlanRow plan rows cols lift or TargetRow target) Work (test_matches plan rows cols lift target)
      (λ r i. by_rule (RowOrLower Rows) WorkPlace _ [] r i told (no_rule (RowOrLower Rows) r)) row
