-- The exponent matrix (document 01, "The plan and its graph"): a list of rows × cols signed numbers, row by row.
use Rattle.std.specs.Prelude.{ℕ, zero, suc, ◌+◌, ◌*◌, ◌%◌, Bool, true, false, List, [], ◌∷◌, ℤ, pos, negsuc, get_or}
use Rattle.exponent.specs.declared.Shape.{Shape}
use Rattle.exponent.specs.declared.block.Block.{Block}
use Rattle.exponent.specs.declared.block.Block.TheVariants.{Zero, Shift, Invalid}

-- What an entry says: −1 is a zero block (document 01: empty); a number from 0 on is the identity with its rows shifted right by the
-- number's remainder by the lift (filled; document 02, slip 4); a number below −1 is invalid.
abbrev pub block_of : ℕ → ℤ → Block
block_of lift (pos e) = Shift (e % lift)
block_of lift (negsuc zero) = Zero
block_of lift (negsuc (suc n)) = Invalid

abbrev pub is_invalid : Block → Bool
is_invalid Zero = false
is_invalid (Shift e) = false
is_invalid Invalid = true

-- the entry that refusal 6 names
abbrev pub invalid_entry : ℕ → ℤ → Bool
invalid_entry lift entry = is_invalid (block_of lift entry)

-- the entry at a place of the list
unfoldable pub entry_at : List ℤ → ℕ → ℕ → Block
entry_at plan lift place = block_of lift (get_or plan place (pos 0))

-- the block in row i and column j
unfoldable pub block_at : List ℤ → ℕ → ℕ → ℕ → ℕ → Block
block_at plan cols lift i j = entry_at plan lift (i * cols + j)

-- the block is filled
abbrev pub filled : Block → Bool
filled Zero = false
filled (Shift e) = true
filled Invalid = false

-- its shift, and 0 where it is not filled
abbrev pub shift_of : Block → ℕ
shift_of Zero = 0
shift_of (Shift e) = e
shift_of Invalid = 0

-- the sizes of a plan as one value
abbrev pub shape_of : ℕ → ℕ → ℕ → Shape
shape_of rows cols lift = record { rows = rows; cols = cols; lift = lift }

-- entries of filled blocks, by their shifts: how the cases write a plan down
abbrev pub shifts : List ℕ → List ℤ
shifts [] = []
shifts (e ∷ l) = pos e ∷ shifts l
