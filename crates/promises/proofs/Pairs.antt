-- Slip 8: wherever 26 is not due, the test by sorted pairs agrees with the girth test; and 26 is due exactly where a tree is too large.
-- Assumes nothing.
use Rattle.std.specs.Prelude.{Result, Err, Option, None, Some, Bool}
use Prim.Native.Nat.{ℕ}
use mathlib.Core.Path.{◌≡◌, refl, sym, ap, ◌∙◌}
use mathlib.Core.Logic.{◌≢◌, ◌⊎◌, inl, inr}
use mathlib.Core.List.{List, [], append-nil}
use Rattle.std.proofs.lemmas.Option.{none-some}
use native.Mathlib.Omega.{arith}
use lib.IntN.{ℤ}
use lib.ListN.{take}
use Rattle.refusal.specs.declared.Refusal.{Refusal}
use Rattle.refusal.specs.declared.Refusal.TheVariants.{WorkPlace}
use Rattle.refusal.specs.Lowest.{lowest}
use Rattle.refusal.proofs.Lowest.{not_after}
use Rattle.graph.specs.Girth.{Passes}
use Rattle.graph.proofs.Decide.{by_bool}
use Rattle.exponent.specs.declared.Shape.{Shape}
use Rattle.exponent.specs.Limits.{plan_rules}
use Rattle.exponent.specs.Tanner.{tanner}
use Rattle.walks.specs.Steps.{blocks_of}
use Rattle.girth.specs.declared.Cycle.{Cycle}
use Rattle.girth.specs.Test as girth
use Rattle.girth.specs.Test.{test_rules, Witness}
use Rattle.girth.proofs.Rules.{formed}
use Rattle.trees.specs.Tree.{depth_of, overfull}
use Rattle.treetest.specs.Answer.{pair_rules, Answer, refused, passed, not_passed}
use Rattle.treetest.proofs.Answers.{refused_before, refused_work, not_refused}
use Rattle.promises.specs.TurnedAway.{WorkRow}
use Rattle.promises.specs.Pairs.{verdict_of, SortedPairs}
use Rattle.promises.proofs.One.{tested}
use Rattle.promises.proofs.PairRows.{work_row, row_overfull}

same_refusal : {x y : Refusal} → Some x ≡ Some y → x ≡ y
same_refusal e = cc

module _ (plan : List ℤ) (rows cols lift target places : ℕ) where
  abbrev s : Shape
  s = record { rows = rows; cols = cols; lift = lift }

  -- a witness is a cycle, so the plan does not pass
  fails : {g : Cycle} → Witness (tanner plan rows cols lift) target g → Passes (tanner plan rows cols lift) target → ⊥
  unfolding Passes
  fails {g} w p = omega (arith, w.short, p g.n (take g.n g.checks) (take g.n g.bits) w.cycle)

  -- the girth test never gives 26
  no_work : lowest (test_rules plan rows cols lift target) ≡ Some WorkPlace → ⊥
  unfolding test_rules plan_rules lowest
  no_work e = not_after (test_rules plan rows cols lift target) [] WorkPlace refl refl (ap lowest (append-nil (test_rules plan rows cols lift target)) ∙ e)

  -- where the girth test is not refused, a refusal is 26
  only_work : (x : Refusal) → lowest (test_rules plan rows cols lift target) ≡ None → lowest (pair_rules plan rows cols lift target places) ≡ Some x → x ≡ WorkPlace
  only_work x e h =
      by_bool (overfull (blocks_of plan s) (depth_of target) places)
      (λ t. same_refusal (sym h ∙ refused_work plan s target places e t))
      (λ t. absurd (none-some x (sym (not_refused plan s target places e t) ∙ h)))

  agree : {g : Result (Option Cycle) Refusal} {v : (Result Bool Refusal)} → girth.Answer plan rows cols lift target g → Answer plan rows cols lift target places v → v ≢ Err WorkPlace → v ≡ verdict_of g
  agree (girth.refused x e) (refused y f) due = ap Err (same_refusal (sym f ∙ refused_before plan s target places x e))
  agree (girth.refused x e) (passed f _) due = absurd (none-some x (sym f ∙ refused_before plan s target places x e))
  agree (girth.refused x e) (not_passed f _) due = absurd (none-some x (sym f ∙ refused_before plan s target places x e))
  agree (girth.passed e p) (refused y f) due = absurd (due (ap Err (only_work y e f)))
  agree (girth.passed e p) (passed f _) due = refl
  agree (girth.passed e p) (not_passed f n) due = absurd (n p)
  agree (girth.failed g e w) (refused y f) due = absurd (due (ap Err (only_work y e f)))
  agree (girth.failed g e w) (passed f p) due = absurd (fails w p)
  agree (girth.failed g e w) (not_passed f _) due = refl

  -- 26 is the lowest refusal that applies exactly where the girth test is not refused and some tree is too large
  given : (v : Result Bool Refusal) → Answer plan rows cols lift target places v → lowest (pair_rules plan rows cols lift target places) ≡ Some WorkPlace → v ≡ Err WorkPlace
  given v (refused x e) h = ap Err (same_refusal (sym e ∙ h))
  given v (passed e p) h = absurd (none-some WorkPlace (sym e ∙ h))
  given v (not_passed e p) h = absurd (none-some WorkPlace (sym e ∙ h))

  told : {v : (Result Bool Refusal)} → Answer plan rows cols lift target places v → v ≡ Err WorkPlace → lowest (pair_rules plan rows cols lift target places) ≡ Some WorkPlace
  told (refused x e) h = e ∙ ap Some (let z : x ≡ WorkPlace = cc in z)
  told (passed e p) h = absurd (let z : ◌≡◌ {A = ℕ} 0 1 = cc in omega arith)
  told (not_passed e p) h = absurd (let z : ◌≡◌ {A = ℕ} 0 1 = cc in omega arith)

  asked : lowest (pair_rules plan rows cols lift target places) ≡ Some WorkPlace
      → (lowest (test_rules plan rows cols lift target) ≡ None) × WorkRow (tanner plan rows cols lift) cols lift target places 26 []
  asked h =
      elim (decided (lowest (test_rules plan rows cols lift target)) refl) [
        | inl e ↦ (
          e,
          by_bool (overfull (blocks_of plan s) (depth_of target) places) (λ t. work_row plan rows cols lift target places (formed plan rows cols lift target e).some_lift t)
              (λ t. absurd (none-some WorkPlace (sym (not_refused plan s target places e t) ∙ h))),
        )
        | inr x ↦ absurd (no_work (x.1 ∙ ap Some (same_refusal (sym (refused_before plan s target places x.0 x.1) ∙ h))))
      ]
    where
      decided : (o : Option Refusal) → lowest (test_rules plan rows cols lift target) ≡ o
          → (lowest (test_rules plan rows cols lift target) ≡ None) ⊎ ((x : Refusal) × (lowest (test_rules plan rows cols lift target) ≡ Some x))
      decided None e = inl e
      decided (Some x) e = inr (x, e)

pub sorted_pairs : SortedPairs
sorted_pairs =
    record {
      agrees = λ plan rows cols lift target places g v a b due. agree plan rows cols lift target places a b due;
      work_place = λ plan rows cols lift target places g v a b.
          let same = tested plan rows cols lift target g a in (
            λ h. let (e, r) = asked plan rows cols lift target places (told plan rows cols lift target places b h) in (same ∙ e, r),
            λ (e, r). given plan rows cols lift target places v b (refused_work plan (record { rows = rows; cols = cols; lift = lift }) target places (sym same ∙ e) (row_overfull plan rows cols lift target places r)),
          );
    }
