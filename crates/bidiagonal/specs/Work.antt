-- What the functions that judge the shape find.
use Rattle.std.specs.Prelude.{ℕ, ◌-◌, ◌≡◌, true, false, List, ℤ}
use Rattle.std.specs.Prelude.{Option, None, Some}
use Rattle.graph.specs.Count.{below}
use Rattle.exponent.specs.declared.Shape.{Shape}
use Rattle.exponent.specs.Plan.{block_at}
use Rattle.bidiagonal.specs.Shape.{shifts_of, third_shift, not_bidiagonal}

-- the shifts of column m − 1 in the first i rows
abbrev pub column_shifts : List ℤ → Shape → ℕ → List ℕ
column_shifts plan s i = shifts_of (λ k. block_at plan s.cols s.lift k (s.rows - 1)) (below i)

-- the plan has another shape, or e is the third shift of its column m − 1
abbrev pub Judged : List ℤ → Shape → Option ℕ → Type 0
Judged plan s None = not_bidiagonal plan s.rows s.cols s.lift ≡ true
Judged plan s (Some e) = (not_bidiagonal plan s.rows s.cols s.lift ≡ false) × (third_shift plan s.rows s.cols s.lift ≡ Some e)
