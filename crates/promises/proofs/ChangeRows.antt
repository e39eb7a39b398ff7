-- Rows 1 to 6, 24 and 25 of `change`: its tests say what the rows say. One test of 6 goes over the plan's entries and then the new one.
-- Assumes nothing.
use Prim.Native.Nat.{ℕ, ◌*◌, ◌≤◌}
use mathlib.Core.Path.{◌≡◌, refl, sym, ap, subst, ◌∙◌}
use mathlib.Core.Logic.{◌↔◌, ◌⊎◌, inl, inr}
use mathlib.Core.Bool.{true, false, not, ◌&&◌}
use mathlib.Core.List.{List, [], ◌∷◌, ◌++◌}
use native.Mathlib.Omega.{arith}
use borrow.Author.Tests.{ltb-true, ltb-false, le-ltb, not-true}
use lib.Dec.{ltb}
use lib.IntN.{ℤ, pos}
use lib.ListN.{length, get_or}
use Rattle.refusal.specs.declared.Refusal.{Refusal}
use Rattle.refusal.specs.declared.Refusal.TheVariants.{Entry, BlockPlace}
use Rattle.refusal.specs.Lowest.{Rule, refuse, In, here}
use Rattle.refusal.specs.Place.{first_place, somewhere}
use Rattle.refusal.proofs.Lowest.{in_first, in_second, in_either}
use Rattle.refusal.proofs.Place.{somewhere_no, somewhere_none}
use Rattle.graph.proofs.Decide.{by_bool, by_eq, both_ways}
use Rattle.exponent.specs.declared.Shape.{Shape}
use Rattle.exponent.specs.Plan.{invalid_entry}
use Rattle.exponent.specs.Limits.{size_rules, entry_rules, plan_rules}
use Rattle.weights.specs.declared.change.At.{At}
use Rattle.weights.specs.Weights.{weight_rules}
use Rattle.weights.specs.Change.{block_rules, change_rules}
use Rattle.weights.proofs.Rules.{first_found, found, at_end, nowhere}
use Rattle.promises.specs.TurnedAway.{PlanRow, row_5, NewEntryRow, row_6_new, BlockRow, row_24, WeightRow, ◌or◌}
use Rattle.promises.proofs.Matching.{Listed, RowOrLower, Matches, in_more_rows, join, by_rule, no_rule, at_rule, one_rule}
use Rattle.promises.proofs.PlanRows.{invalid_exactly, plan_matches, unless_both}
use Rattle.promises.proofs.WeightRows.{weight_matches}

-- 24
module _ (s : Shape) (at : At) where
  not_below : (m n : ℕ) → (not (ltb m n) ≡ true) ↔ (n ≤ m)
  not_below m n = (λ e. ltb-false m n (not-true (ltb m n) e), λ h. ap not (le-ltb m n h))

  outside_exactly : (not (ltb at.row s.rows && ltb at.col s.cols) ≡ true) ↔ ((s.rows ≤ at.row) ⊎ (s.cols ≤ at.col))
  outside_exactly = unless_both (ltb at.row s.rows) (ltb at.col s.cols) (not_below at.row s.rows) (not_below at.col s.cols)

  pub block_matches : Matches (block_rules s at) (BlockRow s.rows s.cols at.row at.col)
  block_matches = one_rule BlockPlace (not (ltb at.row s.rows && ltb at.col s.cols)) (BlockRow s.rows s.cols at.row at.col) (λ e. row_24 (outside_exactly.0 e)) row
    where
      row : (n : ℕ) (l : List ℕ) → BlockRow s.rows s.cols at.row at.col n l → Listed (block_rules s at) n l
      row n l (row_24 h) = at_rule _ _ refl refl (outside_exactly.1 h)

-- 1 TO 6, of the plan's entries and then of the new one
module _ (plan : List ℤ) (s : Shape) (entry : ℤ) where
  abbrev Rows : ℕ → List ℕ → Type 0
  Rows = PlanRow plan s.rows s.cols s.lift or NewEntryRow plan s.rows s.cols entry

  abbrev Sizes : List Rule
  Sizes = size_rules (length plan) s.rows s.cols s.lift

  abbrev More : List Rule
  More = entry_rules s.lift (plan ++ entry ∷ [])

  -- 6 of the plan, with its own place
  own : somewhere (invalid_entry s.lift) plan ≡ true → In (refuse (Entry (first_place (invalid_entry s.lift) plan)) true) (entry_rules s.lift plan)
  own t = rw t here

  own_more : somewhere (invalid_entry s.lift) plan ≡ true → In (refuse (Entry (first_place (invalid_entry s.lift) plan)) true) (entry_rules s.lift (plan ++ entry ∷ []))
  own_more t =
      subst (λ (k : ℕ). In (refuse (Entry k) true) More) (first_found (invalid_entry s.lift) entry plan (ltb-true _ _ t))
      (rw (found (invalid_entry s.lift) entry plan t) here)

  of_plan : (r : Refusal) → RowOrLower (PlanRow plan s.rows s.cols s.lift) r → RowOrLower Rows r
  of_plan r a = in_more_rows (PlanRow plan s.rows s.cols s.lift) Rows (λ n l a. inl a) r a

  -- 6 of the new entry: behind a plan of another length 5 applies
  new_row : somewhere (invalid_entry s.lift) plan ≡ false → invalid_entry s.lift entry ≡ true → RowOrLower Rows (Entry (length plan))
  new_row t v =
      by_eq (length plan) (s.rows * s.cols)
      (λ n.
      subst (λ (k : ℕ). RowOrLower Rows (Entry k)) (sym n)
      (inl (inr (row_6_new n (λ i h b. both_ways ((invalid_exactly s.lift _).1 b) (somewhere_no (invalid_entry s.lift) (pos 0) plan t i h)) ((invalid_exactly s.lift entry).0 v)))))
      (λ n. inr (record { other = 5; its_values = []; applies = inl (row_5 n); lower = omega arith }))

  entry_row : somewhere (invalid_entry s.lift) (plan ++ entry ∷ []) ≡ true → RowOrLower Rows (Entry (first_place (invalid_entry s.lift) (plan ++ entry ∷ [])))
  unfolding plan_rules
  entry_row e =
      by_bool (somewhere (invalid_entry s.lift) plan)
      (λ t.
      subst (λ (k : ℕ). RowOrLower Rows (Entry k)) (sym (first_found (invalid_entry s.lift) entry plan (ltb-true _ _ t)))
      (of_plan (Entry (first_place (invalid_entry s.lift) plan)) ((plan_matches plan s.rows s.cols s.lift).listed (Entry (first_place (invalid_entry s.lift) plan)) (in_second Sizes (own t)))))
      (λ t.
      by_bool (invalid_entry s.lift entry)
      (λ v. subst (λ (k : ℕ). RowOrLower Rows (Entry k)) (sym (at_end (invalid_entry s.lift) entry plan t v).0) (new_row t v))
      (λ v. both_ways e (nowhere (invalid_entry s.lift) entry plan t v)))

  listed : (r : Refusal) → In (refuse r true) (Sizes ++ More) → RowOrLower Rows r
  unfolding plan_rules
  listed r i = by (in_either Sizes More i)
    where
      by : In (refuse r true) Sizes ⊎ In (refuse r true) More → RowOrLower Rows r
      by (inl k) = of_plan r ((plan_matches plan s.rows s.cols s.lift).listed r (in_first (entry_rules s.lift plan) k))
      by (inr k) = by_rule (RowOrLower Rows) (Entry (first_place (invalid_entry s.lift) (plan ++ entry ∷ []))) _ [] r k entry_row (no_rule (RowOrLower Rows) r)

  -- what the plan's own rules list, these do
  still_listed : (n : ℕ) (l : List ℕ) → Listed (plan_rules plan s.rows s.cols s.lift) n l → Listed (Sizes ++ More) n l
  unfolding plan_rules
  still_listed n l t = record { refusal = t.refusal; stands = by (in_either Sizes (entry_rules s.lift plan) t.stands); number_is = t.number_is; values_are = t.values_are }
    where
      by : In (refuse t.refusal true) Sizes ⊎ In (refuse t.refusal true) (entry_rules s.lift plan) → In (refuse t.refusal true) (Sizes ++ More)
      by (inl k) = in_first More k
      by (inr k) = by_rule (λ q. In (refuse q true) (Sizes ++ More)) (Entry (first_place (invalid_entry s.lift) plan)) _ [] t.refusal k (λ e. in_second Sizes (own_more e)) (no_rule (λ q. In (refuse q true) (Sizes ++ More)) t.refusal)

  applies : (n : ℕ) (l : List ℕ) → Rows n l → Listed (Sizes ++ More) n l
  applies n l (inl a) = still_listed n l ((plan_matches plan s.rows s.cols s.lift).applies n l a)
  applies n l (inr (row_6_new whole all b)) =
      let t = somewhere_none (invalid_entry s.lift) (pos 0) plan (λ i h. by_bool (invalid_entry s.lift (get_or plan i (pos 0))) (λ v. absurd (all i h ((invalid_exactly s.lift _).0 v))) (λ v. v)) in
      let (p, q) = at_end (invalid_entry s.lift) entry plan t ((invalid_exactly s.lift entry).1 b) in
      let e = at_rule (Entry (first_place (invalid_entry s.lift) (plan ++ entry ∷ []))) _ {rules = []} refl (ap (◌∷ []) (p ∙ whole)) q in
      record { refusal = e.refusal; stands = in_second Sizes e.stands; number_is = e.number_is; values_are = e.values_are }

  entry_matches : Matches (size_rules (length plan) s.rows s.cols s.lift ++ entry_rules s.lift (plan ++ entry ∷ []))
      (PlanRow plan s.rows s.cols s.lift or NewEntryRow plan s.rows s.cols entry)
  entry_matches = record { listed = listed; applies = applies }

-- THE CALL
pub change_matches : (plan : List ℤ) (s : Shape) (at : At) (entry : ℤ) (byrow bycol : List ℕ)
    → Matches (change_rules plan s at entry byrow bycol)
    (PlanRow plan s.rows s.cols s.lift or NewEntryRow plan s.rows s.cols entry
    or (BlockRow s.rows s.cols at.row at.col or WeightRow plan s.rows s.cols s.lift byrow bycol))
unfolding change_rules
change_matches plan s at entry byrow bycol =
    join (size_rules (length plan) s.rows s.cols s.lift ++ entry_rules s.lift (plan ++ entry ∷ [])) (block_rules s at ++ weight_rules plan s byrow bycol) _ _
    (entry_matches plan s entry) (join (block_rules s at) (weight_rules plan s byrow bycol) _ _ (block_matches s at) (weight_matches plan s byrow bycol))
