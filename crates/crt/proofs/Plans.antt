-- The joined plan: its blocks leave the shifts of both plans, it may be used, and its graph passes where either plan's does.
-- Assumes nothing.
use Prim.Native.Nat.{ℕ, ◌+◌, ◌*◌, ◌%◌, ◌<◌}
use mathlib.Core.Path.{◌≡◌, refl, sym, ap, ◌∙◌}
use mathlib.Core.Bool.{true, false}
use mathlib.Core.List.{List}
use native.Mathlib.Omega.{arith}
use native.Mathlib.Nat.{mod-eq_of_lt, mul-le-mul, dvd-mul_left, dvd-mul_right}
use lib.IntN.{ℤ, pos}
use lib.ListN.{length, get_or}
use Rattle.graph.specs.Girth.{Passes}
use Rattle.graph.proofs.Decide.{both_ways}
use Rattle.graph.proofs.Count.{get_or_map_below, length_map_below}
use Rattle.exponent.specs.declared.block.Block.{Block}
use Rattle.exponent.specs.declared.block.Block.TheVariants.{Zero, Shift, Invalid}
use Rattle.exponent.specs.Plan.{block_of, invalid_entry, entry_at, block_at, filled}
use Rattle.exponent.specs.Limits.{WellFormed}
use Rattle.exponent.specs.Tanner.{tanner}
use Rattle.exponent.proofs.Numbers.{number_low}
use Rattle.exponent.proofs.Tanner.{block_shift}
use Rattle.exponent.proofs.Reducing.{reduced_passes}
use Rattle.crt.specs.Remainders.{remainders}
use Rattle.crt.specs.Join.{joined_entry, joined_plan}
use Rattle.crt.specs.Work.{UnitOf}
use Rattle.crt.proofs.Remainders.{remainders_low, remainders_first, remainders_second}

module _ (first : List ℤ) (P : ℕ) (second : List ℤ) (Q : ℕ) where
  pub joined_length : length (joined_plan first P second Q) ≡ length first
  unfolding joined_plan
  joined_length = length_map_below _ (length first)

  pub joined_at : (place : ℕ) → place < length first → get_or (joined_plan first P second Q) place (pos 0) ≡ joined_entry P Q (entry_at first P place) (entry_at second Q place)
  unfolding joined_plan
  joined_at place h = get_or_map_below (pos 0) (λ p. joined_entry P Q (entry_at first P p) (entry_at second Q p)) (length first) place h

-- whatever the blocks are, the joined entry is valid, and filled where the first is
joined_valid : (P Q : ℕ) (b c : Block) → invalid_entry (P * Q) (joined_entry P Q b c) ≡ false
joined_valid P Q Zero c = refl
joined_valid P Q (Shift e) c = refl
joined_valid P Q Invalid c = refl

joined_filled : (P Q : ℕ) (b c : Block) → filled (block_of (P * Q) (joined_entry P Q b c)) ≡ filled b
joined_filled P Q Zero c = refl
joined_filled P Q (Shift e) c = refl
joined_filled P Q Invalid c = refl

module _ (P Q u : ℕ) (some_p : 0 < P) (some_q : 0 < Q) (unit : UnitOf P Q u) where
  -- a joined shift leaves both shifts
  joined_block : (b c : Block) → filled b ≡ filled c → ((e : ℕ) → b ≡ Shift e → e < P) → ((f : ℕ) → c ≡ Shift f → f < Q)
      → (x : ℕ) → block_of (P * Q) (joined_entry P Q b c) ≡ Shift x → (b ≡ Shift (x % P)) × (c ≡ Shift (x % Q))
  joined_block Zero c s p q x h = absurd (let z : ◌≡◌ {A = ℕ} 0 1 = cc in omega arith)
  joined_block (Shift e) Zero s p q x h = both_ways {t = true} refl s
  joined_block (Shift e) Invalid s p q x h = both_ways {t = true} refl s
  joined_block Invalid c s p q x h = absurd (let z : ◌≡◌ {A = ℕ} 0 1 = cc in omega arith)
  joined_block (Shift e) (Shift f) s p q x h =
      let n : ℕ = remainders P Q e f in
      let same : n ≡ x = sym (mod-eq_of_lt (remainders_low P Q u some_p some_q unit e f)) ∙ is h in (
        ap Shift (sym (mod-eq_of_lt (p e refl)) ∙ sym (remainders_first P Q u some_p some_q unit e f) ∙ ap (λ (n : ℕ). n % P) same),
        ap Shift (sym (mod-eq_of_lt (q f refl)) ∙ sym (remainders_second P Q u some_p some_q unit e f) ∙ ap (λ (n : ℕ). n % Q) same),
      )
    where
      is : {m : ℕ} → Shift m ≡ Shift x → m ≡ x
      is r = cc

  some_product : 0 < P * Q
  some_product = omega (arith, mul-le-mul some_p some_q)

  module _ (first second : List ℤ) (rows cols : ℕ) (whole : length first ≡ rows * cols)
      (alike : (place : ℕ) → place < length first → filled (entry_at first P place) ≡ filled (entry_at second Q place)) where
    abbrev plan : List ℤ
    plan = joined_plan first P second Q

    inside : (i j : ℕ) → i < rows → j < cols → i * cols + j < length first
    inside i j h k = omega (arith, number_low i j rows cols h k)

    at : (i j : ℕ) → i < rows → j < cols → block_at plan cols (P * Q) i j ≡ block_of (P * Q) (joined_entry P Q (block_at first cols P i j) (block_at second cols Q i j))
    unfolding block_at entry_at
    at i j h k = ap (block_of (P * Q)) (joined_at first P second Q (i * cols + j) (inside i j h k))

    -- THE SHIFTS of the joined plan leave those of both plans
    joined_shift : (i j x : ℕ) → i < rows → j < cols → block_at (joined_plan first P second Q) cols (P * Q) i j ≡ Shift x
        → (block_at first cols P i j ≡ Shift (x % P)) × (block_at second cols Q i j ≡ Shift (x % Q))
    unfolding block_at entry_at
    joined_shift i j x h k e =
        joined_block (block_at first cols P i j) (block_at second cols Q i j) (alike (i * cols + j) (inside i j h k))
        (λ s. block_shift P (get_or first (i * cols + j) (pos 0)) s some_p) (λ s. block_shift Q (get_or second (i * cols + j) (pos 0)) s some_q)
        x (sym (at i j h k) ∙ e)

    -- the same blocks are filled
    pub same_filled : (i j : ℕ) → i < rows → j < cols → filled (block_at (joined_plan first P second Q) cols (P * Q) i j) ≡ filled (block_at first cols P i j)
    same_filled i j h k = ap filled (at i j h k) ∙ joined_filled P Q (block_at first cols P i j) (block_at second cols Q i j)

    -- WHERE EITHER PLAN PASSES, the joined one does
    pub first_passes : (t : ℕ) → Passes (tanner first rows cols P) t → Passes (tanner (joined_plan first P second Q) rows cols (P * Q)) t
    first_passes = reduced_passes plan first rows cols (P * Q) P some_product some_p (dvd-mul_right P Q) (λ i j x h k e. (joined_shift i j x h k e).0)

    pub second_passes : (t : ℕ) → Passes (tanner second rows cols Q) t → Passes (tanner (joined_plan first P second Q) rows cols (P * Q)) t
    second_passes = reduced_passes plan second rows cols (P * Q) Q some_product some_q (dvd-mul_left Q P) (λ i j x h k e. (joined_shift i j x h k e).1)

-- the joined plan may be used where its sizes may
pub joined_formed : (first : List ℤ) (P : ℕ) (second : List ℤ) (Q rows cols : ℕ) → WellFormed first rows cols (P * Q) → WellFormed (joined_plan first P second Q) rows cols (P * Q)
joined_formed first P second Q rows cols w =
    record {
      some_rows = w.some_rows;
      few_rows = w.few_rows;
      some_cols = w.some_cols;
      few_cols = w.few_cols;
      some_lift = w.some_lift;
      small_lift = w.small_lift;
      few_bits = w.few_bits;
      whole = joined_length first P second Q ∙ w.whole;
      entries = λ place h.
          ap (invalid_entry (P * Q)) (joined_at first P second Q place (omega (arith, joined_length first P second Q)))
          ∙ joined_valid P Q (entry_at first P place) (entry_at second Q place);
    }
