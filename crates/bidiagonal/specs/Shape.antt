-- The bi-diagonal shape of a plan (document 02, slip 10; source 003, formula (5)), as it is tested: refusal 30 falls on every other plan. With
-- m rows, m at least 3, column k, for k from 0 to m − 2, has shift 0 in rows k and k + 1 and nothing else; column m − 1 has exactly three filled
-- blocks, at least two of them with the same shift; the columns behind it, at least one, carry data.
use Rattle.std.specs.Prelude.{ℕ, ◌+◌, ◌-◌, Bool, true, false, cond, not, ◌||◌, List, [], ◌∷◌, eqb, ltb, ℤ}
use Rattle.std.specs.Prelude.{Option, None, Some}
use Rattle.graph.specs.Count.{below, is_some}
use Rattle.graph.specs.Erasure.{any}
use Rattle.exponent.specs.declared.block.Block.{Block}
use Rattle.exponent.specs.declared.block.Block.TheVariants.{Zero, Shift, Invalid}
use Rattle.exponent.specs.Plan.{block_at}

-- fewer than three rows, or no column for data
abbrev pub too_few : ℕ → ℕ → Bool
too_few rows cols = ltb rows 3 || ltb cols (rows + 1)

abbrev pub is_identity : Block → Bool
is_identity Zero = false
is_identity (Shift e) = eqb e 0
is_identity Invalid = false

abbrev pub is_zero : Block → Bool
is_zero Zero = true
is_zero (Shift e) = false
is_zero Invalid = false

-- in row i and column k, k below m − 1, block b is another than the shape has there
abbrev pub misplaced : ℕ → ℕ → Block → Bool
misplaced i k b = not (cond (eqb i k || eqb i (k + 1)) (is_identity b) (is_zero b))

unfoldable pub some_misplaced : List ℤ → ℕ → ℕ → ℕ → Bool
some_misplaced plan rows cols lift = any rows (λ i. any (rows - 1) (λ k. misplaced i k (block_at plan cols lift i k)))

-- the shifts of the filled blocks of a column, of the rows of a list
abbrev pub add_shift : Block → List ℕ → List ℕ
add_shift Zero l = l
add_shift (Shift e) l = e ∷ l
add_shift Invalid l = l

unfoldable pub shifts_of : (ℕ → Block) → List ℕ → List ℕ
shifts_of column [] = []
shifts_of column (i ∷ l) = add_shift (column i) (shifts_of column l)

-- of three shifts, at least two of them equal, the third
abbrev pub third_of : ℕ → ℕ → ℕ → Option ℕ
third_of a b c = cond (eqb a b) (Some c) (cond (eqb a c) (Some b) (cond (eqb b c) (Some a) None))

abbrev pub third : List ℕ → Option ℕ
third [] = None
third (a ∷ []) = None
third (a ∷ b ∷ []) = None
third (a ∷ b ∷ c ∷ []) = third_of a b c
third (a ∷ b ∷ c ∷ d ∷ l) = None

-- the third shift of column m − 1
unfoldable pub third_shift : List ℤ → ℕ → ℕ → ℕ → Option ℕ
third_shift plan rows cols lift = third (shifts_of (λ i. block_at plan cols lift i (rows - 1)) (below rows))

-- the plan has another shape
unfoldable pub not_bidiagonal : List ℤ → ℕ → ℕ → ℕ → Bool
not_bidiagonal plan rows cols lift =
    too_few rows cols || (some_misplaced plan rows cols lift || not (is_some (third_shift plan rows cols lift)))
