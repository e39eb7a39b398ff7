-- The neighbours of a node, block by block: what a block has for a check or for a bit, and what several blocks have together.
use Rattle.std.specs.Prelude.{ℕ, ◌+◌, ◌-◌, ◌*◌, ◌%◌, List, [], ◌∷◌}
use Rattle.std.specs.Prelude.{Option, None, Some}
use Rattle.exponent.specs.declared.block.Block.{Block}
use Rattle.exponent.specs.declared.block.Block.TheVariants.{Zero, Shift, Invalid}

-- the bit that a block has for check y
abbrev pub bit_in : ℕ → ℕ → Block → Option ℕ
bit_in lift y Zero = None
bit_in lift y (Shift e) = Some ((y + e) % lift)
bit_in lift y Invalid = None

-- the check that a block has for bit z
abbrev pub check_in : ℕ → ℕ → Block → Option ℕ
check_in lift z Zero = None
check_in lift z (Shift e) = Some ((z + (lift - e)) % lift)
check_in lift z Invalid = None

-- the numbers that the blocks of a list have, in order
abbrev pub put : Option ℕ → ℕ → List ℕ → List ℕ
put None base l = l
put (Some x) base l = (base + x) ∷ l

unfoldable pub gather : ℕ → (ℕ → Option ℕ) → List ℕ → List ℕ
gather lift pick [] = []
gather lift pick (j ∷ l) = put (pick j) (j * lift) (gather lift pick l)
