-- Row 25 of the calls that are lent a plan's weights: the test of the two lists says what the row says. Assumes nothing.
use Prim.Native.Nat.{ℕ, suc, ◌<◌}
use mathlib.Core.Path.{◌≡◌, refl, sym, ap, ◌∙◌}
use mathlib.Core.Logic.{◌↔◌, ◌⊎◌, inl, inr, ◌≢◌}
use mathlib.Core.Bool.{true, false, not}
use mathlib.Core.List.{List, [], ◌∷◌}
use native.Mathlib.Omega.{arith}
use borrow.Author.Tests.{eqb-false, not-true}
use lib.Dec.{eqb}
use lib.IntN.{ℤ}
use lib.ListN.{length, get_or}
use Rattle.refusal.specs.declared.Refusal.TheVariants.{Weights}
use Rattle.graph.proofs.Decide.{by_bool, both_ways}
use Rattle.exponent.specs.declared.Shape.{Shape}
use Rattle.exponent.specs.Tanner.{row_weight, column_weight}
use Rattle.weights.specs.declared.Side.TheVariants.{Bits, Checks}
use Rattle.weights.specs.Weights.{weights_of, same, right, weight_rules}
use Rattle.weights.proofs.Weights.{not_same, length_weights, weights_at}
use Rattle.promises.specs.TurnedAway.{WrongList, wrong_length, wrong_count, WeightRow, row_25}
use Rattle.promises.proofs.Matching.{Listed, Matches, at_rule, one_rule}
use Rattle.promises.proofs.PlanRows.{unless_both}

-- two lists that differ, do so in length or at a place
differ : (l m : List ℕ) → same l m ≡ false → (length l ≢ length m) ⊎ ((i : ℕ) × (i < length m) × (get_or l i 0 ≢ get_or m i 0))
unfolding same
differ [] [] e = both_ways refl e
differ [] (y ∷ m) e = inl (λ q. omega arith)
differ (x ∷ l) [] e = inl (λ q. omega arith)
differ (x ∷ l) (y ∷ m) e =
    by_bool (eqb x y)
    (λ p. further (differ l m (rw p at e)))
    (λ p. inr (0, omega arith, eqb-false x y p))
  where
    further : (length l ≢ length m) ⊎ ((i : ℕ) × (i < length m) × (get_or l i 0 ≢ get_or m i 0))
        → (length (x ∷ l) ≢ length (y ∷ m)) ⊎ ((i : ℕ) × (i < length (y ∷ m)) × (get_or (x ∷ l) i 0 ≢ get_or (y ∷ m) i 0))
    further (inl h) = inl (λ q. h (omega arith))
    further (inr (i, h, k)) = inr (suc i, omega arith, k)

-- a list is not the one that has n weights exactly where the words say so
module _ (list m : List ℕ) (n : ℕ) (weight : ℕ → ℕ) (size : length m ≡ n) (each : (i : ℕ) → i < n → get_or m i 0 ≡ weight i) where
  wrong : same list m ≡ false → WrongList list n weight
  wrong e = by (differ list m e)
    where
      by : (length list ≢ length m) ⊎ ((i : ℕ) × (i < length m) × (get_or list i 0 ≢ get_or m i 0)) → WrongList list n weight
      by (inl h) = wrong_length (λ q. h (q ∙ sym size))
      by (inr (i, h, k)) = wrong_count i (omega arith) (λ q. k (q ∙ sym (each i (omega arith))))

  found_wrong : WrongList list n weight → same list m ≡ false
  found_wrong (wrong_length h) = not_same list m (λ e. h (ap length e ∙ size))
  found_wrong (wrong_count i h k) = not_same list m (λ e. k (ap (λ (l : List ℕ). get_or l i 0) e ∙ each i h))

  -- so the test says what the words say
  wrong_exactly : (not (same list m) ≡ true) ↔ WrongList list n weight
  wrong_exactly = (λ e. wrong (not-true (same list m) e), λ h. ap not (found_wrong h))

module _ (plan : List ℤ) (s : Shape) (byrow bycol : List ℕ) where
  abbrev Wrong : ℕ → List ℕ → Type 0
  Wrong = WeightRow plan s.rows s.cols s.lift byrow bycol

  lists_exactly : (not (right plan s byrow bycol) ≡ true) ↔ (WrongList byrow s.rows (row_weight plan s.cols s.lift) ⊎ WrongList bycol s.cols (column_weight plan s.rows s.cols s.lift))
  unfolding right
  lists_exactly =
      unless_both (same byrow (weights_of plan s Checks)) (same bycol (weights_of plan s Bits))
      (wrong_exactly byrow (weights_of plan s Checks) s.rows (row_weight plan s.cols s.lift) (length_weights plan s Checks) (weights_at plan s Checks))
      (wrong_exactly bycol (weights_of plan s Bits) s.cols (column_weight plan s.rows s.cols s.lift) (length_weights plan s Bits) (weights_at plan s Bits))

  pub weight_matches : Matches (weight_rules plan s byrow bycol) (WeightRow plan s.rows s.cols s.lift byrow bycol)
  weight_matches = one_rule Weights (not (right plan s byrow bycol)) Wrong (λ e. row_25 (lists_exactly.0 e)) row
    where
      row : (n : ℕ) (l : List ℕ) → Wrong n l → Listed (weight_rules plan s byrow bycol) n l
      row n l (row_25 h) = at_rule _ _ refl refl (lists_exactly.1 h)
