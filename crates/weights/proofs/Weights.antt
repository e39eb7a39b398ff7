-- Laws of the weights of a plan's sides: as counts, as lists, and when two lists are those of the plan. Assumes nothing.
use Prim.Native.Nat.{ℕ, ◌≤◌, ◌<◌}
use mathlib.Core.Path.{◌≡◌, refl, sym, ap, ap₂, ◌∙◌}
use mathlib.Core.Logic.{◌↔◌, ◌≢◌}
use mathlib.Core.Bool.{Bool, true, false, not}
use mathlib.Core.List.{List, [], ◌∷◌}
use Rattle.std.specs.Prelude.{None, Some}
use native.Mathlib.Omega.{arith}
use borrow.Author.Tests.{eqb-true, eq-eqb}
use lib.Dec.{eqb}
use lib.IntN.{ℤ}
use lib.ListN.{length, get_or}
use lib.Seq.{ext_get_or}
use Rattle.refusal.specs.declared.Refusal.TheVariants.{Weights}
use Rattle.refusal.specs.Lowest.{lowest}
use Rattle.refusal.proofs.Lowest.{lowest_here}
use Rattle.std.specs.Bool.{MatchBool}
use Rattle.std.specs.List.{range_with_len, AllWithin, HoldsAt}
use Rattle.std.proofs.lemmas.List.FromFn.{length-range_with_len, get_or-range_with_len}
use Rattle.graph.specs.Count.{below, count}
use Rattle.graph.proofs.Count.{count_le, length_range, get_or_map_below, length_map_below}
use Rattle.graph.proofs.Decide.{both_ways, and_left, and_right, and_both}
use Rattle.exponent.specs.declared.Shape.{Shape}
use Rattle.exponent.specs.Limits.{WellFormed}
use Rattle.exponent.specs.Tanner.{column_weight, row_weight}
use Rattle.weights.specs.declared.Side.{Side}
use Rattle.weights.specs.declared.Side.TheVariants.{Bits, Checks}
use Rattle.weights.specs.Weights.{lanes, blocks, filled_on, weight_of, list_of, weights_of, same, right, Weighed, weight_rules}

-- TWO LISTS are found equal exactly where they are
pub same_exactly : (l m : List ℕ) → (same l m ≡ true) ↔ (l ≡ m)
unfolding same
same_exactly [] [] = (λ e. refl, λ e. refl)
same_exactly [] (y ∷ m) = (λ e. both_ways e refl, λ e. absurd (let z : ◌≡◌ {A = ℕ} 0 1 = cc in omega arith))
same_exactly (x ∷ l) [] = (λ e. both_ways e refl, λ e. absurd (let z : ◌≡◌ {A = ℕ} 0 1 = cc in omega arith))
same_exactly (x ∷ l) (y ∷ m) = (
  λ e. ap₂ (λ (a : ℕ) (r : List ℕ). a ∷ r) (eqb-true x y (and_left (eqb x y) (same l m) e)) ((same_exactly l m).0 (and_right (eqb x y) (same l m) e)),
  λ e.
      let p : x ≡ y = cc in
      let q : l ≡ m = cc in
      and_both (eqb x y) (same l m) (eq-eqb x y p) ((same_exactly l m).1 q),
)

pub not_same : (l m : List ℕ) → (l ≡ m → ⊥) → same l m ≡ false
not_same l m h = step (same l m) refl
  where
    step : (t : Bool) → same l m ≡ t → t ≡ false
    step true e = absurd (h ((same_exactly l m).0 e))
    step false e = refl

-- SIZES: no side has more than 512 lanes, or a lane with more blocks
module _ (s : Shape) (side : Side) (few_rows : s.rows ≤ 192) (few_cols : s.cols ≤ 512) where
  pub blocks_few : blocks s side ≤ 512
  blocks_few = by side
    where
      by : (side : Side) → blocks s side ≤ 512
      by Bits = omega arith
      by Checks = few_cols

  pub lanes_few : lanes s side ≤ 512
  lanes_few = by side
    where
      by : (side : Side) → lanes s side ≤ 512
      by Bits = few_cols
      by Checks = omega arith

-- the places of a list, as a chain goes over them
abbrev pub places : List ℕ → List ℕ
places l = range_with_len 0 (length l)

places_length : (l : List ℕ) → length (places l) ≡ length l
places_length l = length-range_with_len 0 (length l)

place_at : (l : List ℕ) (i : ℕ) → i < length l → get_or (places l) i 0 ≡ i
place_at l i h = get_or-range_with_len 0 (length l) i 0 h ∙ omega arith

module _ (plan : List ℤ) (s : Shape) (side : Side) where
  -- A LANE: its weight is a count, and at most the number of its blocks
  pub weight_count : (lane : ℕ) → weight_of plan s side lane ≡ count (filled_on plan s side lane) (below (blocks s side))
  unfolding column_weight row_weight
  weight_count lane = by side
    where
      by : (side : Side) → weight_of plan s side lane ≡ count (filled_on plan s side lane) (below (blocks s side))
      by Bits = refl
      by Checks = refl

  pub count_few : (lane k : ℕ) → count (filled_on plan s side lane) (below k) ≤ k
  count_few lane k = omega (arith, count_le (filled_on plan s side lane) (below k), length_range 0 k)

  -- THE LIST of a side
  pub length_weights : length (weights_of plan s side) ≡ lanes s side
  unfolding weights_of
  length_weights = length_map_below (weight_of plan s side) (lanes s side)

  pub weights_at : (lane : ℕ) → lane < lanes s side → get_or (weights_of plan s side) lane 0 ≡ weight_of plan s side lane
  unfolding weights_of
  weights_at lane h = get_or_map_below 0 (weight_of plan s side) (lanes s side) lane h

  -- a list of the right length and counts is that of the side
  pub weights_by : (l : List ℕ) → length l ≡ lanes s side → ((lane : ℕ) → lane < lanes s side → get_or l lane 0 ≡ weight_of plan s side lane)
      → l ≡ weights_of plan s side
  weights_by l n all = ext_get_or 0 l (weights_of plan s side) (n ∙ sym length_weights) (λ i h. all i (omega arith) ∙ sym (weights_at i (omega arith)))

  -- what `all` over a list of that length answers
  abbrev pub Right : List ℕ → ℕ → Type 0
  Right l lane = get_or l lane 0 ≡ weight_of plan s side lane

  abbrev pub Wrong : List ℕ → ℕ → Type 0
  Wrong l lane = get_or l lane 0 ≢ weight_of plan s side lane

  pub same_counts : (l : List ℕ) → length l ≡ lanes s side → (r : Bool)
      → MatchBool r (AllWithin (Right l) (places l) 0 (length (places l))) ((lane : ℕ) × (lane < length (places l)) × HoldsAt (Wrong l) (places l) lane)
      → r ≡ same l (weights_of plan s side)
  same_counts l n true all = sym ((same_exactly l _).1 (weights_by l n λ i h. rw (place_at l i (omega arith)) at (all i 0 (omega arith) (omega (arith, places_length l)))))
  same_counts l n false (lane, h, other) =
      let k : lane < length l = omega (arith, places_length l) in
      sym (not_same l _ λ e. rw (place_at l lane k) at (other 0) (ap (λ (m : List ℕ). get_or m lane 0) e ∙ weights_at lane (omega arith)))

  -- a weight is at most the number of a lane's blocks, and small
  pub weight_le : (lane : ℕ) → weight_of plan s side lane ≤ blocks s side
  weight_le lane = omega (arith, weight_count lane, count_few lane (blocks s side))

  pub weight_few : WellFormed plan s.rows s.cols s.lift → (lane : ℕ) → weight_of plan s side lane ≤ 512
  weight_few w lane = omega (arith, weight_le lane, blocks_few s side w.few_rows w.few_cols)

-- BOTH LISTS are found right exactly where they are those of the plan, and then 25 does not fall
module _ (plan : List ℤ) (s : Shape) (rows cols : List ℕ) where
  pub right_exactly : (right plan s rows cols ≡ true) ↔ Weighed plan s rows cols
  unfolding right
  right_exactly = (
    λ e.
        record {
          rows_right = (same_exactly rows _).0 (and_left (same rows (weights_of plan s Checks)) _ e);
          cols_right = (same_exactly cols _).0 (and_right (same rows (weights_of plan s Checks)) _ e);
        },
    λ h. and_both _ _ ((same_exactly rows _).1 h.rows_right) ((same_exactly cols _).1 h.cols_right),
  )

  pub lists_right : right plan s rows cols ≡ true → lowest (weight_rules plan s rows cols) ≡ None
  unfolding lowest
  lists_right e = rw e

  pub lists_wrong : right plan s rows cols ≡ false → lowest (weight_rules plan s rows cols) ≡ Some Weights
  lists_wrong e = lowest_here _ _ [] (ap not e)

  -- the weight of a lane stands in its list
  module _ (v : Weighed plan s rows cols) (side : Side) where
    list_is : list_of side rows cols ≡ weights_of plan s side
    list_is = by side
      where
        by : (side : Side) → list_of side rows cols ≡ weights_of plan s side
        by Bits = v.cols_right
        by Checks = v.rows_right

    pub listed_length : length (list_of side rows cols) ≡ lanes s side
    listed_length = ap length list_is ∙ length_weights plan s side

    pub listed_weight : (lane : ℕ) → lane < lanes s side → get_or (list_of side rows cols) lane 0 ≡ weight_of plan s side lane
    listed_weight lane h = ap (λ (l : List ℕ). get_or l lane 0) list_is ∙ weights_at plan s side lane h
