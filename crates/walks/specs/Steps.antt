-- A position of the search, and the steps from it to another.
use Rattle.std.specs.Prelude.{Option, Some, None}
use Rattle.std.specs.Prelude.{ℕ, ◌<◌, Bool, true, false, List, eqb, ℤ}
use Rattle.exponent.specs.declared.block.Block.{Block}
use Rattle.exponent.specs.declared.block.Block.TheVariants.{Zero, Shift, Invalid}
use Rattle.exponent.specs.declared.position.Position.{Position}
use Rattle.exponent.specs.declared.Shape.{Shape}
use Rattle.exponent.specs.declared.plan.Plan.{Plan}
use Rattle.exponent.specs.Limits.{WellFormed}
use Rattle.exponent.specs.Plan.{block_at}
use Rattle.exponent.specs.Position.{forward, back}

-- the blocks of a plan, by row and column
pub record Blocks : Type 0 where
  pub rows : ℕ
  pub cols : ℕ
  pub lift : ℕ
  pub block : ℕ → ℕ → Block

abbrev pub blocks_of : List ℤ → Shape → Blocks
blocks_of plan s = record { rows = s.rows; cols = s.cols; lift = s.lift; block = block_at plan s.cols s.lift }

abbrev pub blocks : Plan → Blocks
blocks p = blocks_of p.entries.now p.shape

-- STEPS: over a filled block, and never back over the block just used

abbrev pub over : Block → (ℕ → Position) → Option Position
over Zero f = None
over (Shift e) f = Some (f e)
over Invalid f = None

abbrev pub unless : Bool → Option Position → Option Position
unless true s = None
unless false s = s

-- from the check (row, voltage) of p to its bit in column j; p came from column col
abbrev pub to_column : Blocks → Position → ℕ → Option Position
to_column B p j = unless (eqb j p.col) (over (B.block p.row j) (forward B.lift p j))

-- from the bit (col, voltage) of p to its check in row i; p came from row row
abbrev pub to_row : Blocks → Position → ℕ → Option Position
to_row B p i = unless (eqb i p.row) (over (B.block i p.col) (back B.lift p i))

-- WHAT A POSITION NEEDS, so that a step from it can be taken

pub record AtCheck (plan : List ℤ) (s : Shape) (p : Position) : Type 0 where
  pub formed : WellFormed plan s.rows s.cols s.lift
  pub row : p.row < s.rows
  pub voltage : p.voltage < s.lift

pub record AtBit (plan : List ℤ) (s : Shape) (p : Position) : Type 0 where
  pub formed : WellFormed plan s.rows s.cols s.lift
  pub col : p.col < s.cols
  pub voltage : p.voltage < s.lift
