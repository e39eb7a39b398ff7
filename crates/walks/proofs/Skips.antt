-- Where the search skips by an index, no step would be taken. Assumes nothing.
use Rattle.std.specs.Prelude.{None}
use Prim.Native.Nat.{ℕ}
use mathlib.Core.Path.{◌≡◌}
use mathlib.Core.Bool.{false}
use mathlib.Core.List.{List}
use lib.Dec.{eqb}
use lib.IntN.{ℤ}
use Rattle.exponent.specs.declared.Shape.{Shape}
use Rattle.exponent.specs.declared.position.Position.{Position}
use Rattle.exponent.specs.Plan.{block_at}
use Rattle.exponent.specs.Position.{forward, back}
use native.Mathlib.Omega.{arith}
use Rattle.graph.proofs.Decide.{by_le}
use Rattle.index.specs.Index.{NextFrom, NextOf, filled_at}
use Rattle.index.proofs.Onward.{to_limit}
use Rattle.walks.specs.Steps.{blocks_of, to_column, to_row}
use Rattle.walks.specs.Ways.{Way}
use Rattle.walks.specs.Stamps.{Ran}
use Rattle.walks.proofs.Loops.{Left, left_skip, left_end}
use Rattle.walks.proofs.Steps.{stays}

-- no step over a block that is not filled
module _ (plan : List ℤ) (s : Shape) (p : Position) (k : ℕ) where
  pub no_column : filled_at plan s p.row k ≡ false → to_column (blocks_of plan s) p k ≡ None
  no_column = stays (eqb k p.col) (block_at plan s.cols s.lift p.row k) (forward s.lift p k)

  pub no_row : filled_at plan s k p.col ≡ false → to_row (blocks_of plan s) p k ≡ None
  no_row = stays (eqb k p.row) (block_at plan s.cols s.lift k p.col) (back s.lift p k)

-- what is left from where the index leads to, along a row and down a column; and where it leads to nothing more, all is done
module _ {stamp : ℕ} {whole : List Way} {seen₀ : List ℕ} {next : Position → List Way} {seen : List ℕ} (plan : List ℤ) (s : Shape) {i : ℕ} (p : Position) where
  pub skip_columns : {m : ℕ} → NextFrom (filled_at plan s p.row) i s.cols m
      → Left stamp whole seen₀ (to_column (blocks_of plan s) p) next s.cols i seen → Left stamp whole seen₀ (to_column (blocks_of plan s) p) next s.cols m seen
  skip_columns n left = left_skip left n (no_column plan s p)

  pub skip_rows : {m : ℕ} → NextFrom (λ k. filled_at plan s k p.col) i s.rows m
      → Left stamp whole seen₀ (to_row (blocks_of plan s) p) next s.rows i seen → Left stamp whole seen₀ (to_row (blocks_of plan s) p) next s.rows m seen
  skip_rows n left = left_skip left n (no_row plan s p)

  pub no_columns : NextOf (filled_at plan s p.row) i s.cols None → Left stamp whole seen₀ (to_column (blocks_of plan s) p) next s.cols i seen → Ran stamp whole seen₀ None seen
  no_columns n left = by_le s.cols i (λ h. left_end left h) (λ h. left_end (skip_columns (to_limit _ _ _ (omega arith) n) left) (omega arith))

  pub no_rows : NextOf (λ k. filled_at plan s k p.col) i s.rows None → Left stamp whole seen₀ (to_row (blocks_of plan s) p) next s.rows i seen → Ran stamp whole seen₀ None seen
  no_rows n left = by_le s.rows i (λ h. left_end left h) (λ h. left_end (skip_rows (to_limit _ _ _ (omega arith) n) left) (omega arith))
