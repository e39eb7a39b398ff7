-- What the inner functions require and ensure: columns by their digits, and which rows a part has.
use Rattle.std.specs.Prelude.{ℕ, ◌/◌, ◌%◌, ◌<◌, Bool, true}
use Rattle.grid.specs.declared.Part.{Part}
use Rattle.grid.specs.declared.Part.TheVariants.{AJ, AR, JR}
use Rattle.grid.specs.declared.Column.{Column}

-- the numbers to the base order that n is written with: rising n are rising triples
abbrev pub column : ℕ → ℕ → Column
column order n = record { a = n / order / order; j = n / order % order; r = n % order }

-- a column's numbers are below the order
pub record Within (order : ℕ) (q : Column) : Type 0 where
  pub a_in : q.a < order
  pub j_in : q.j < order
  pub r_in : q.r < order

-- a part has the row (u, v): the third only where the mask has a one
abbrev pub keeps : Part → Bool → Bool
keeps AJ one = true
keeps AR one = true
keeps JR one = one
