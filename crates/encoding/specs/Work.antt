-- What the encoder's functions know and leave. A word is looked at column by column: bit z of column j is byte j × lift + z.
use Rattle.std.specs.Prelude.{ℕ, ◌+◌, ◌-◌, ◌*◌, ◌%◌, ◌≤◌, ◌<◌, ◌≡◌, ◌⊎◌, ◌≢◌, List, ℤ, length, get_or}
use Rattle.graph.specs.Count.{below, sum}
use Rattle.exponent.specs.declared.Shape.{Shape}
use Rattle.exponent.specs.Limits.{WellFormed}
use Rattle.encoding.specs.Encoded.{data_sum, last_bit, front_bit}

abbrev pub column : ℕ → List ℕ → ℕ → ℕ → ℕ
column lift w j z = get_or w (j * lift + z) 0

-- every byte is 0 or 1
pub record Bits (w : List ℕ) : Type 0 where
  pub low : (b : ℕ) → get_or w b 0 < 2

-- the greatest of the first n bytes of a list, or 0
pub record Greatest (n : ℕ) (l : List ℕ) (x : ℕ) : Type 0 where
  pub most : (k : ℕ) → k < n → get_or l k 0 ≤ x
  pub met : 0 < x → (k : ℕ) × (k < n) × (get_or l k 0 ≡ x)

-- n bytes of a word that lie apart from n others
pub record Apart (w : List ℕ) (to from n : ℕ) : Type 0 where
  pub to_in : to + n ≤ length w
  pub from_in : from + n ≤ length w
  pub apart : (to + n ≤ from) ⊎ (from + n ≤ to)

-- n bytes are added, modulo 2, to n others
pub record AddedRun (to from n : ℕ) (w v : List ℕ) : Type 0 where
  pub long : length v ≡ length w
  pub there : (k : ℕ) → k < n → get_or v (to + k) 0 ≡ (get_or w (to + k) 0 + get_or w (from + k) 0) % 2
  pub elsewhere : (b : ℕ) → (to ≤ b → b < to + n → ⊥) → get_or v b 0 ≡ get_or w b 0

-- two columns of a word of bits
pub record Columns (lift : ℕ) (w : List ℕ) (to from : ℕ) : Type 0 where
  pub some_lift : 0 < lift
  pub to_in : to * lift + lift ≤ length w
  pub from_in : from * lift + lift ≤ length w
  pub other : to ≢ from
  pub bits : Bits w

-- bits are added, modulo 2, to those of column k
pub record Added (lift k : ℕ) (bit : ℕ → ℕ) (w v : List ℕ) : Type 0 where
  pub long : length v ≡ length w
  pub there : (z : ℕ) → z < lift → column lift v k z ≡ (column lift w k z + bit z) % 2
  pub elsewhere : (j z : ℕ) → z < lift → j ≢ k → column lift v j z ≡ column lift w j z

-- a valid plan with a data column, and a word of bits of its length
pub record Ready (plan : List ℤ) (s : Shape) (w : List ℕ) : Type 0 where
  pub formed : WellFormed plan s.rows s.cols s.lift
  pub data_column : s.rows < s.cols
  pub whole : length w ≡ s.cols * s.lift
  pub bits : Bits w

-- the data columns hold the data bits
abbrev pub Carrying : Shape → (ℕ → ℕ → ℕ) → List ℕ → Type 0
Carrying s bit w = (j z : ℕ) → s.rows ≤ j → z < s.lift → column s.lift w j z ≡ bit j z

-- The columns before i hold the sums of their rows' data bits, column m − 1 those of all these rows together, turned, and the columns
-- between are 0.
pub record Summed (plan : List ℤ) (s : Shape) (turn : ℕ) (bit : ℕ → ℕ → ℕ) (i : ℕ) (w : List ℕ) : Type 0 where
  pub ready : Ready plan s w
  pub carried : Carrying s bit w
  pub done : (k z : ℕ) → k < i → z < s.lift → column s.lift w k z ≡ data_sum plan s.rows s.cols s.lift bit k z % 2
  pub rest : (k z : ℕ) → i ≤ k → k < s.rows - 1 → z < s.lift → column s.lift w k z ≡ 0
  pub last : (z : ℕ) → z < s.lift → column s.lift w (s.rows - 1) z ≡ sum (λ k. data_sum plan s.rows s.cols s.lift bit k ((z + turn) % s.lift)) (below i) % 2

-- The columns before k and column m − 1 hold their parity bits, and the columns between the sums of their rows' data bits.
pub record Settled (plan : List ℤ) (s : Shape) (third : ℕ) (bit : ℕ → ℕ → ℕ) (k : ℕ) (w : List ℕ) : Type 0 where
  pub ready : Ready plan s w
  pub carried : Carrying s bit w
  pub done : (j z : ℕ) → j < k → z < s.lift → column s.lift w j z ≡ front_bit plan s.rows s.cols s.lift third bit j z
  pub rest : (j z : ℕ) → k ≤ j → j < s.rows - 1 → z < s.lift → column s.lift w j z ≡ data_sum plan s.rows s.cols s.lift bit j z % 2
  pub last : (z : ℕ) → z < s.lift → column s.lift w (s.rows - 1) z ≡ last_bit plan s.rows s.cols s.lift third bit z

-- the columns before m − 1 are settled, whatever the third shift is and the data bits whose sums stood there
pub record FrontSettled (plan : List ℤ) (s : Shape) (w v : List ℕ) : Type 0 where
  pub settled : (third : ℕ) (bit : ℕ → ℕ → ℕ) → Settled plan s third bit 0 w → Settled plan s third bit (s.rows - 1) v

-- what the writer of an encoded word is given: a valid plan with a data column, its third shift, data bits, and a word of the right length
pub record Fits (plan : List ℤ) (s : Shape) (third : ℕ) (info word : List ℕ) : Type 0 where
  pub formed : WellFormed plan s.rows s.cols s.lift
  pub data_column : s.rows < s.cols
  pub third_low : third < s.lift
  pub data_whole : length info ≡ (s.cols - s.rows) * s.lift
  pub data_bits : Bits info
  pub whole : length word ≡ s.cols * s.lift

-- data bits behind parity bits that are 0
pub record Laid (plan : List ℤ) (s : Shape) (w : List ℕ) : Type 0 where
  pub ready : Ready plan s w
  pub zero : (b : ℕ) → b < s.rows * s.lift → get_or w b 0 ≡ 0
