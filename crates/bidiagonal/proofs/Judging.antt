-- Laws of the bi-diagonal shape as it is tested, and of what its test finds. Assumes nothing.
use Prim.Native.Nat.{ℕ, suc, ◌+◌, ◌-◌, ◌≤◌, ◌<◌}
use mathlib.Core.Path.{◌≡◌, refl, ap}
use mathlib.Core.Logic.{inl, inr, ◌≢◌}
use mathlib.Core.Bool.{true, false, not, ◌||◌}
use mathlib.Core.List.{List, [], ◌∷◌}
use Rattle.std.specs.Prelude.{Option, None, Some}
use native.Mathlib.Omega.{arith}
use borrow.Author.Tests.{eqb-true, eq-eqb, ne_eqb, ltb-false, not-false}
use lib.Dec.{eqb, ltb}
use lib.IntN.{ℤ}
use Rattle.graph.specs.Count.{below, is_some, Mem}
use Rattle.graph.specs.Erasure.{any}
use Rattle.graph.proofs.Decide.{neither}
use Rattle.graph.proofs.Peeling.{any_false}
use Rattle.exponent.specs.declared.block.Block.{Block}
use Rattle.exponent.specs.declared.block.Block.TheVariants.{Zero, Shift, Invalid}
use Rattle.exponent.specs.Plan.{block_at}
use Rattle.exponent.proofs.Tanner.{shift_low}
use Rattle.bidiagonal.specs.Shape.{is_identity, is_zero, misplaced, add_shift, shifts_of, third_shift, too_few, some_misplaced, not_bidiagonal}
use Rattle.bidiagonal.proofs.Thirds.{twice, third_mem}

-- the two diagonals of the columns before m − 1
pub record Diagonals (plan : List ℤ) (rows cols lift : ℕ) : Type 0 where
  pub three_rows : 3 ≤ rows
  pub data_column : rows < cols
  pub upper : (k : ℕ) → k < rows - 1 → block_at plan cols lift k k ≡ Shift 0
  pub lower : (k : ℕ) → k < rows - 1 → block_at plan cols lift (suc k) k ≡ Shift 0
  pub empty : (i k : ℕ) → i < rows → k < rows - 1 → i ≢ k → i ≢ suc k → block_at plan cols lift i k ≡ Zero

-- what a block is where it is not misplaced

identity : (b : Block) → is_identity b ≡ true → b ≡ Shift 0
identity Zero e = absurd (let z : ◌≡◌ {A = ℕ} 0 1 = cc in omega arith)
identity (Shift s) e = ap Shift (eqb-true s 0 e)
identity Invalid e = absurd (let z : ◌≡◌ {A = ℕ} 0 1 = cc in omega arith)

zero_block : (b : Block) → is_zero b ≡ true → b ≡ Zero
zero_block Zero e = refl
zero_block (Shift s) e = absurd (let z : ◌≡◌ {A = ℕ} 0 1 = cc in omega arith)
zero_block Invalid e = absurd (let z : ◌≡◌ {A = ℕ} 0 1 = cc in omega arith)

on_diagonal : (i k : ℕ) (b : Block) → (eqb i k || eqb i (k + 1)) ≡ true → misplaced i k b ≡ false → b ≡ Shift 0
on_diagonal i k b t e = identity b (not-false _ (rw t at e))

off_diagonal : (i k : ℕ) (b : Block) → (eqb i k || eqb i (k + 1)) ≡ false → misplaced i k b ≡ false → b ≡ Zero
off_diagonal i k b t e = zero_block b (not-false _ (rw t at e))

-- the two tests of the code
pub misplaced_here : (i k : ℕ) (b : Block) → i ≡ k → misplaced i k b ≡ not (is_identity b)
misplaced_here i k b e = rw (eq-eqb i k e)

pub misplaced_under : (i k : ℕ) (b : Block) → i ≢ k → i ≡ k + 1 → misplaced i k b ≡ not (is_identity b)
misplaced_under i k b d e = rw (ne_eqb i k d, eq-eqb i (k + 1) e)

pub misplaced_else : (i k : ℕ) (b : Block) → i ≢ k → i ≢ k + 1 → misplaced i k b ≡ not (is_zero b)
misplaced_else i k b d e = rw (ne_eqb i k d, ne_eqb i (k + 1) e)

-- the third shift lies below the lift

module _ (plan : List ℤ) (rows cols lift : ℕ) where
  shifts_low : 0 < lift → (j : ℕ) (l : List ℕ) (e : ℕ) → Mem e (shifts_of (λ i. block_at plan cols lift i j) l) → e < lift
  unfolding shifts_of
  shifts_low some_lift j [] e m = absurd m
  shifts_low some_lift j (i ∷ l) e m = step (block_at plan cols lift i j) refl m (shifts_low some_lift j l e)
    where
      step : (b : Block) → block_at plan cols lift i j ≡ b → Mem e (add_shift b (shifts_of (λ i. block_at plan cols lift i j) l))
          → (Mem e (shifts_of (λ i. block_at plan cols lift i j) l) → e < lift) → e < lift
      step Zero q m more = more m
      step (Shift s) q (inl h) more = omega (arith, shift_low plan cols lift i j s some_lift q)
      step (Shift s) q (inr h) more = more h
      step Invalid q m more = more m

  pub third_low : 0 < lift → (e : ℕ) → third_shift plan rows cols lift ≡ Some e → e < lift
  unfolding third_shift
  third_low some_lift e q = shifts_low some_lift (rows - 1) (below rows) e (third_mem (twice (shifts_of (λ i. block_at plan cols lift i (rows - 1)) (below rows)) e q))

  pub many : not_bidiagonal plan rows cols lift ≡ false → (3 ≤ rows) × (rows < cols)
  unfolding not_bidiagonal
  many e =
      let p = (neither (too_few rows cols) (some_misplaced plan rows cols lift || not (is_some (third_shift plan rows cols lift))) e).0 in
      let (q, r) = neither (ltb rows 3) (ltb cols (rows + 1)) p in
      (ltb-false rows 3 q, omega (arith, ltb-false cols (rows + 1) r))

  -- THE SHAPE of a plan that 30 does not fall on
  pub diagonals : not_bidiagonal plan rows cols lift ≡ false → Diagonals plan rows cols lift
  unfolding not_bidiagonal some_misplaced
  diagonals e =
      let rest = (neither (too_few rows cols) (some_misplaced plan rows cols lift || not (is_some (third_shift plan rows cols lift))) e).1 in
      let straight = (neither (some_misplaced plan rows cols lift) (not (is_some (third_shift plan rows cols lift))) rest).0 in
      let sizes = many e in
      let at : (i k : ℕ) → i < rows → k < rows - 1 → misplaced i k (block_at plan cols lift i k) ≡ false =
      λ i k p r. any_false (rows - 1) (λ k. misplaced i k (block_at plan cols lift i k)) (any_false rows (λ i. any (rows - 1) (λ k. misplaced i k (block_at plan cols lift i k))) straight i p) k r in
      record {
        three_rows = sizes.0;
        data_column = sizes.1;
        upper = λ k h. on_diagonal k k _ (rw (eq-eqb k k refl)) (at k k (omega arith) h);
        lower = λ k h. on_diagonal (suc k) k _ (rw (ne_eqb (suc k) k (λ z. omega arith), eq-eqb (suc k) (k + 1) (omega arith))) (at (suc k) k (omega arith) h);
        empty = λ i k p r d f. off_diagonal i k _ (rw (ne_eqb i k d, ne_eqb i (k + 1) (λ z. f (omega arith)))) (at i k p r);
      }

-- where the plan has the shape there is a remaining shift
pub third_some : (plan : List ℤ) (rows cols lift : ℕ) → not_bidiagonal plan rows cols lift ≡ false → (o : Option ℕ) → third_shift plan rows cols lift ≡ o → (e : ℕ) × (third_shift plan rows cols lift ≡ Some e)
unfolding not_bidiagonal
third_some plan rows cols lift shaped None q =
    let p = (neither (too_few rows cols) (some_misplaced plan rows cols lift || not (is_some (third_shift plan rows cols lift))) shaped).1 in
    let r = (neither (some_misplaced plan rows cols lift) (not (is_some (third_shift plan rows cols lift))) p).1 in
    absurd (let z : ◌≡◌ {A = ℕ} 0 1 = never (rw q at r) in omega arith)
  where
    never : true ≡ false → ◌≡◌ {A = ℕ} 0 1
    never h = cc
third_some plan rows cols lift shaped (Some e) q = (e, q)
