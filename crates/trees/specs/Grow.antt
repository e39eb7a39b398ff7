-- Growing a tree into a lent list: what it needs, and what is written.
use Rattle.std.specs.Prelude.{Option, Some, None}
use Rattle.std.specs.Prelude.{ℕ, ◌+◌, ◌≤◌, ◌<◌, Bool, cond, List, ℤ, length}
use Rattle.writing.specs.Wrote.{Wrote}
use Rattle.exponent.specs.declared.Shape.{Shape}
use Rattle.exponent.specs.declared.position.Position.{Position}
use Rattle.exponent.specs.Limits.{WellFormed}
use Rattle.index.specs.Index.{filled_at}
use Rattle.trees.specs.Tree.{block, parent}

-- a position in the graph of a plan, at a bit or at a check
pub record Placed (plan : List ℤ) (s : Shape) (bit : Bool) (p : Position) : Type 0 where
  pub formed : WellFormed plan s.rows s.cols s.lift
  pub inside : block bit p < cond bit s.cols s.rows
  pub from : parent bit p ≤ 512
  pub voltage : p.voltage < s.lift

-- the nodes are written from a place on, where the list has places for them; or they go past the limit
pub data Grew (before : List ℕ) (at limit : ℕ) (nodes after : List ℕ) : Option ℕ → Type 0 where
  full : limit < at + length nodes → Grew before at limit nodes after None
  grown : {next : ℕ} → next ≤ limit → Wrote before at nodes next after → Grew before at limit nodes after (Some next)

-- the block of a row of a bit's column, or of a column of a check's row, is filled
abbrev pub open_at : List ℤ → Shape → Bool → Position → ℕ → Bool
open_at plan s bit p k = cond bit (filled_at plan s k p.col) (filled_at plan s p.row k)
