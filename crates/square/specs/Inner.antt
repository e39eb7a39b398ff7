-- What the inner functions require and ensure: squares, numbers by their digits, and lines of the mask.
use Rattle.std.specs.Prelude.{ℕ, ◌+◌, ◌*◌, ◌/◌, ◌%◌, ◌<◌, ◌≡◌, List, eqb, ℤ, length, get_or}
use Rattle.graph.specs.Count.{below, count}
use Rattle.square.specs.declared.search.Quad.{Quad}

-- the lent table is square, of a small order
pub record Square (order : ℕ) (table : List ℤ) : Type 0 where
  pub some_rows : 0 < order
  pub small : order < 8
  pub whole : length table ≡ order * order

-- the numbers to the base order that n is written with: rising n are rising quadruples
abbrev pub quad : ℕ → ℕ → Quad
quad order n = record { i = n / order / order / order; k = n / order / order % order; r = n / order % order; t = n % order }

-- the ones of a line of the mask: of the bytes at from, from + step, …
unfoldable pub line_ones : ℕ → List ℕ → ℕ → ℕ → ℕ
line_ones order mask from step = count (λ k. eqb (get_or mask (from + k * step) 0) 1) (below order)

-- lines that begin at 0, across, 2 * across, … and go on by step lie within the mask
pub record Lines (order : ℕ) (mask : List ℕ) (across step : ℕ) : Type 0 where
  pub small : order < 8
  pub small_across : across < 8
  pub small_step : step < 8
  pub inside : (j k : ℕ) → j < order → k < order → j * across + k * step < length mask
