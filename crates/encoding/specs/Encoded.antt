-- The encoded word: the frame of given data bits (document 02, slip 10), for a plan of the bi-diagonal shape with m rows: m columns of parity bits, and behind
-- them the data bits, in the order of their bit numbers.
use Rattle.std.specs.Prelude.{ℕ, ◌+◌, ◌-◌, ◌*◌, ◌/◌, ◌%◌, ◌<◌, ◌≡◌, cond, List, ◌++◌, map, ltb, ℤ, length, get_or}
use Rattle.graph.specs.Count.{range, below, sum}
use Rattle.exponent.specs.declared.block.Block.{Block}
use Rattle.exponent.specs.declared.block.Block.TheVariants.{Zero, Shift, Invalid}
use Rattle.exponent.specs.Plan.{block_at}

-- the bit that a block has for check y, of a column given by its bits; 0 where it has none
abbrev pub bit_for : ℕ → ℕ → (ℕ → ℕ) → Block → ℕ
bit_for lift y column Zero = 0
bit_for lift y column (Shift e) = column ((y + e) % lift)
bit_for lift y column Invalid = 0

-- the sum of the bits that check (i, y) has in the data columns, m, m + 1, …, where bit j z is bit z of column j
unfoldable pub data_sum : List ℤ → ℕ → ℕ → ℕ → (ℕ → ℕ → ℕ) → ℕ → ℕ → ℕ
data_sum plan rows cols lift bit i y = sum (λ j. bit_for lift y (bit j) (block_at plan cols lift i j)) (range rows (cols - rows))

-- The parity bits, by those of the data columns and the third shift of column m − 1.
module _ (plan : List ℤ) (rows cols lift third : ℕ) (bit : ℕ → ℕ → ℕ) where
  -- Column m − 1. The checks (0, y), (1, y), … of all rows together have each bit of a column before it twice or not at all, and two of their
  -- three bits of column m − 1 are the same one. So bit (m − 1, z) is left, z = y + third, and makes the sum of their data bits even.
  unfoldable pub last_bit : ℕ → ℕ
  last_bit z = sum (λ i. data_sum plan rows cols lift bit i ((z + (lift - third)) % lift)) (below rows) % 2

  -- Column k before it. The checks (0, y) to (k, y) together have of the columns before m − 1 bit (k, y) alone once, which makes even what
  -- they have in the other columns.
  unfoldable pub front_bit : ℕ → ℕ → ℕ
  front_bit k y = sum (λ i. data_sum plan rows cols lift bit i y + bit_for lift y last_bit (block_at plan cols lift i (rows - 1))) (below (k + 1)) % 2

  abbrev pub parity_bit : ℕ → ℕ → ℕ
  parity_bit k z = cond (ltb k (rows - 1)) (front_bit k z) (last_bit z)

-- bit z of data column j
abbrev pub data_bit : ℕ → ℕ → List ℕ → ℕ → ℕ → ℕ
data_bit rows lift info j z = get_or info ((j - rows) * lift + z) 0

-- parity bits, then data bits
unfoldable pub encoded_word : List ℤ → ℕ → ℕ → ℕ → ℕ → List ℕ → List ℕ
encoded_word plan rows cols lift third info =
    map (λ n. parity_bit plan rows cols lift third (data_bit rows lift info) (n / lift) (n % lift)) (below (rows * lift)) ++ info

-- a word has the data bits behind its parity bits, in the order of their numbers
pub record Carries (start : ℕ) (info word : List ℕ) : Type 0 where
  pub carried : (d : ℕ) → d < length info → get_or word (start + d) 0 ≡ get_or info d 0
