-- What a scan of a check's bits finds.
use Rattle.std.specs.Prelude.{ℕ, ◌+◌, ◌≤◌, ◌<◌, ◌≡◌, true, List, [], ◌∷◌, ◌++◌, length, get_or}
use Rattle.graph.specs.Count.{count, Mem}
use Rattle.graph.specs.Erasure.{erased, total}
use Rattle.exponent.specs.declared.block.Block.{Block}
use Rattle.exponent.specs.declared.block.Block.TheVariants.{Shift}
use Rattle.exponent.specs.Neighbours.{gather, bit_in}
use Rattle.exponent.specs.declared.plan.Plan.{Plan}
use Rattle.exponent.specs.Graphs.{bits_in}
use Rattle.syndrome.specs.declared.scan.Scan.{Scan}

-- how many of the bits are erasures, the sum of the bytes, and an erasure, if there is one
pub record Scanned (word bits : List ℕ) (s : Scan) : Type 0 where
  pub erasures : s.erased ≡ count (erased word) bits
  pub sum : s.sum ≡ total word bits
  pub one : 1 ≤ s.erased → Mem s.at bits × (erased word s.at ≡ true)

-- s with one bit more, or none
pub record Grown (s r : Scan) : Type 0 where
  pub erasures : r.erased ≤ s.erased + 1
  pub sum : r.sum ≤ s.sum + 255

pub record AddedBit (s : Scan) (x at : ℕ) (r : Scan) : Type 0 where
  pub grown : Grown s r
  pub scanned : (word bits : List ℕ) → get_or word at 0 ≡ x → Scanned word bits s → Scanned word (bits ++ at ∷ []) r

-- the bit that a block has for check y, behind the bits before it
pub record AddedBlock (word : List ℕ) (b : Block) (lift y j : ℕ) (s r : Scan) : Type 0 where
  pub grown : Grown s r
  pub scanned : (bits : List ℕ) → Scanned word bits s → Scanned word (bits ++ gather lift (λ _. bit_in lift y b) (j ∷ [])) r

-- a shift lies below the lift
unfoldable pub Shifted : Block → ℕ → Type 0
Shifted b lift = (e : ℕ) → b ≡ Shift e → e < lift

-- a word of the plan's length
abbrev pub IsWord : Plan → List ℕ → Type 0
IsWord p word = length word ≡ bits_in p
