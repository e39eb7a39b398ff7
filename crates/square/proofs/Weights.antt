-- Refusal 12: it applies exactly where no common weight exists, and the weight is the ones of the first row. Assumes nothing.
use Prim.Native.Nat.{ℕ, ◌+◌, ◌-◌, ◌*◌, ◌≤◌, ◌<◌}
use mathlib.Core.Path.{◌≡◌, refl, sym, ap, subst, ◌∙◌}
use mathlib.Core.Logic.{◌↔◌}
use mathlib.Core.Bool.{Bool, true, false, not}
use mathlib.Core.List.{List}
use native.Mathlib.Nat.{mul-one}
use native.Mathlib.Omega.{arith}
use lib.Dec.{eqb}
use lib.ListN.{length, get_or}
use borrow.Author.Tests.{ltb-true, eqb-true, eq-eqb}
use Rattle.refusal.specs.Place.{first_place}
use Rattle.refusal.proofs.Place.{at_first, somewhere_no}
use Rattle.graph.specs.Count.{range, below, count}
use Rattle.graph.proofs.Decide.{by_bool, both_ways, and_left, and_right, and_both, same_bool}
use Rattle.graph.proofs.Count.{mem_range, range_mem, nodup_range, length_range, get_or_range, count_same, count_le, count_full, crowd}
use Rattle.square.specs.Mask.{mask_at, row_ones, column_ones, weighs, common, weight, Common}
use Rattle.square.specs.Inner.{line_ones}
use Rattle.square.proofs.Counts.{count_small}

-- all numbers below n pass exactly where as many pass as there are
pub count_all : (f : ℕ → Bool) (n : ℕ) → (count f (below n) ≡ n) ↔ ((k : ℕ) → k < n → f k ≡ true)
count_all f n = (
  λ e k h. count_full f (λ x. true) (below n) (λ x t. refl) (omega (arith, count_le (λ x. true) (below n), length_range 0 n)) k (range_mem k 0 n (omega arith) (omega arith)) refl,
  λ all.
      let low = crowd (below n) f (below n) (nodup_range 0 n) (nodup_range 0 n) (λ x m. (m, all x (let r = mem_range x 0 n m in omega arith))) in
      omega (arith, count_small f n, length_range 0 n),
)

module _ (J : ℕ) (mask : List ℕ) where
  abbrev in_row : ℕ → ℕ → Bool
  in_row L j = eqb (row_ones J mask j) L

  abbrev in_column : ℕ → ℕ → Bool
  in_column L r = eqb (column_ones J mask r) L

  pub weighs_iff : (L : ℕ) → 4 ≤ L → L ≤ J → (weighs J mask L ≡ true) ↔ Common J mask L
  unfolding weighs
  weighs_iff L low high = (
    λ e. record {
      least = low;
      most = high;
      in_rows = λ j h. eqb-true _ _ ((count_all (in_row L) J).0 (eqb-true _ _ (and_left (eqb (count (in_row L) (below J)) J) _ e)) j h);
      in_columns = λ r h. eqb-true _ _ ((count_all (in_column L) J).0 (eqb-true _ _ (and_right (eqb (count (in_row L) (below J)) J) _ e)) r h);
    },
    λ w. and_both _ _
        (eq-eqb _ _ ((count_all (in_row L) J).1 (λ j h. eq-eqb _ _ (w.in_rows j h))))
        (eq-eqb _ _ ((count_all (in_column L) J).1 (λ r h. eq-eqb _ _ (w.in_columns r h)))),
  )

  -- the weight is common where there is a common one
  pub weight_common : common J mask ≡ true → Common J mask (weight J mask)
  unfolding common weight
  weight_common e =
      let l = range 4 (J - 3) in
      let p = first_place (weighs J mask) l in
      let h : p < length l = ltb-true p (length l) e in
      let k : p < J - 3 = omega (arith, length_range 4 (J - 3)) in
      (weighs_iff (4 + p) (omega arith) (omega arith)).0 (ap (weighs J mask) (sym (get_or_range 4 (J - 3) p k)) ∙ at_first (weighs J mask) 0 l h)

  common_if : (L : ℕ) → Common J mask L → common J mask ≡ true
  unfolding common
  common_if L w =
      let h : L - 4 < J - 3 = omega (arith, w.least, w.most) in
      by_bool (common J mask) (λ e. e) (λ e.
      both_ways ((weighs_iff L w.least w.most).1 w)
      (ap (weighs J mask) (let r : L ≡ get_or (range 4 (J - 3)) (L - 4) 0 = omega (arith, get_or_range 4 (J - 3) (L - 4) h, w.least) in r)
      ∙ somewhere_no (weighs J mask) 0 (range 4 (J - 3)) e (L - 4) (omega (arith, length_range 4 (J - 3)))))

  -- THE LAW: refusal 12 applies exactly where no common weight exists
  pub no_weight_exactly : (not (common J mask) ≡ true) ↔ ((L : ℕ) → Common J mask L → ⊥)
  no_weight_exactly = (
    λ e L w. both_ways e (ap not (common_if L w)),
    λ none. by_bool (common J mask) (λ e. absurd (none (weight J mask) (weight_common e))) (λ e. ap not e),
  )

  -- there is at most one, the ones of the first row
  pub weight_first : (L : ℕ) → Common J mask L → L ≡ row_ones J mask 0
  weight_first L w = sym (w.in_rows 0 (omega (arith, w.least, w.most)))

  pub weight_is : common J mask ≡ true → weight J mask ≡ row_ones J mask 0
  weight_is e = weight_first (weight J mask) (weight_common e)

  -- the lines that the code counts
  row_line : (j : ℕ) → line_ones J mask (j * J) 1 ≡ row_ones J mask j
  unfolding line_ones row_ones
  row_line j = count_same _ _ (below J) (λ k m. ap (λ (x : ℕ). eqb (get_or mask (j * J + x) 0) 1) (mul-one k))

  column_line : (r : ℕ) → line_ones J mask (r * 1) J ≡ column_ones J mask r
  unfolding line_ones column_ones
  column_line r = count_same _ _ (below J) (λ k m. let e : r * 1 + k * J ≡ k * J + r = omega arith in ap (λ (x : ℕ). eqb (get_or mask x 0) 1) e)

  pub first_line : line_ones J mask 0 1 ≡ row_ones J mask 0
  unfolding line_ones row_ones
  first_line = count_same _ _ (below J) (λ k m. let e : 0 + k * 1 ≡ 0 * J + k = omega arith in ap (λ (x : ℕ). eqb (get_or mask x 0) 1) e)

  module _ (w : ℕ) (first : w ≡ row_ones J mask 0) where
    abbrev rows_of : ℕ
    rows_of = count (λ j. eqb (line_ones J mask (j * J) 1) w) (below J)

    abbrev columns_of : ℕ
    columns_of = count (λ r. eqb (line_ones J mask (r * 1) J) w) (below J)

    rows_are : rows_of ≡ count (in_row w) (below J)
    rows_are = count_same _ _ (below J) (λ j m. ap (λ (x : ℕ). eqb x w) (row_line j))

    columns_are : columns_of ≡ count (in_column w) (below J)
    columns_are = count_same _ _ (below J) (λ r m. ap (λ (x : ℕ). eqb x w) (column_line r))

    weighed : common J mask ≡ true → Common J mask w
    weighed e = subst (Common J mask) (weight_is e ∙ sym first) (weight_common e)

    no_common : (Common J mask w → ⊥) → false ≡ common J mask
    no_common h = by_bool (common J mask) (λ e. absurd (h (weighed e))) sym

    pub common_low : w < 4 → false ≡ common J mask
    common_low h = no_common λ k. omega (arith, k.least)

    pub common_rows : (rows_of ≡ J → ⊥) → false ≡ common J mask
    common_rows h = no_common λ k. h (rows_are ∙ (count_all (in_row w) J).1 (λ j i. eq-eqb _ _ (k.in_rows j i)))

    pub common_columns : 4 ≤ w → rows_of ≡ J → eqb columns_of J ≡ common J mask
    unfolding row_ones
    common_columns low e =
        same_bool (eqb columns_of J) (common J mask)
        (λ t. common_if w (record {
          least = low;
          most = omega (arith, first, count_small (λ r. mask_at J mask 0 r) J);
          in_rows = λ j h. eqb-true _ _ ((count_all (in_row w) J).0 (sym rows_are ∙ e) j h);
          in_columns = λ r h. eqb-true _ _ ((count_all (in_column w) J).0 (sym columns_are ∙ eqb-true _ _ t) r h);
        }))
        (λ t. eq-eqb _ _ (columns_are ∙ (count_all (in_column w) J).1 (λ r h. eq-eqb _ _ ((weighed t).in_columns r h))))
