-- What the parity bits depend on: the bits of the data columns alone. Assumes nothing.
use Prim.Native.Nat.{ℕ, ◌+◌, ◌-◌, ◌%◌, ◌≤◌, ◌<◌}
use mathlib.Core.Path.{◌≡◌, refl, ap, ap₂}
use mathlib.Core.List.{List}
use native.Mathlib.Nat.{mod-lt}
use lib.IntN.{ℤ}
use Rattle.graph.specs.Count.{range, below}
use Rattle.graph.proofs.Count.{mem_range}
use Rattle.graph.proofs.Sums.{sum_same}
use Rattle.exponent.specs.declared.block.Block.{Block}
use Rattle.exponent.specs.declared.block.Block.TheVariants.{Zero, Shift, Invalid}
use Rattle.exponent.specs.Plan.{block_at}
use Rattle.encoding.specs.Encoded.{bit_for, data_sum, last_bit, front_bit}

-- a block has the same bit in columns that agree
pub bit_for_same : (lift y : ℕ) → 0 < lift → (p q : ℕ → ℕ) → ((z : ℕ) → z < lift → p z ≡ q z) → (b : Block) → bit_for lift y p b ≡ bit_for lift y q b
bit_for_same lift y some_lift p q same Zero = refl
bit_for_same lift y some_lift p q same (Shift e) = same ((y + e) % lift) (mod-lt (y + e) some_lift)
bit_for_same lift y some_lift p q same Invalid = refl

module _ (plan : List ℤ) (rows cols lift : ℕ) (some_lift : 0 < lift) where
  pub data_sum_same : (p q : ℕ → ℕ → ℕ) → ((j z : ℕ) → rows ≤ j → z < lift → p j z ≡ q j z)
      → (i y : ℕ) → data_sum plan rows cols lift p i y ≡ data_sum plan rows cols lift q i y
  unfolding data_sum
  data_sum_same p q same i y =
      sum_same _ _ (range rows (cols - rows)) λ j m.
      bit_for_same lift y some_lift (p j) (q j) (λ z. same j z (mem_range j rows (cols - rows) m).0) (block_at plan cols lift i j)

  pub last_bit_same : (third : ℕ) (p q : ℕ → ℕ → ℕ) → ((j z : ℕ) → rows ≤ j → z < lift → p j z ≡ q j z)
      → (z : ℕ) → last_bit plan rows cols lift third p z ≡ last_bit plan rows cols lift third q z
  unfolding last_bit
  last_bit_same third p q same z = ap (λ (n : ℕ). n % 2) (sum_same _ _ (below rows) λ i m. data_sum_same p q same i ((z + (lift - third)) % lift))

  pub front_bit_same : (third : ℕ) (p q : ℕ → ℕ → ℕ) → ((j z : ℕ) → rows ≤ j → z < lift → p j z ≡ q j z)
      → (k y : ℕ) → front_bit plan rows cols lift third p k y ≡ front_bit plan rows cols lift third q k y
  unfolding front_bit
  front_bit_same third p q same k y =
      ap (λ (n : ℕ). n % 2)
      (sum_same _ _ (below (k + 1)) λ i m.
      ap₂ ◌+◌ (data_sum_same p q same i y)
      (bit_for_same lift y some_lift _ _ (λ z h. last_bit_same third p q same z) (block_at plan cols lift i (rows - 1))))
