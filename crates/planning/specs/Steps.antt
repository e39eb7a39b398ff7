-- What the inner functions compute: the side of the lent table, the table in a lent list, and bytes printed into a lent text.
use Rattle.std.specs.Prelude.{ℕ, ◌*◌, min, ◌≡◌, cond, List, ℤ, length}
use Rattle.std.proofs.lemmas.List.Edits.{sets}
use Rattle.refusal.specs.Lowest.{lowest}
use Rattle.exponent.specs.Limits.{outside}
use Rattle.square.specs.declared.supply.Family.TheVariants.{Cyclic}
use Rattle.square.specs.Table.{supplied_table}
use Rattle.refusal.specs.Lent.{lent}
use Rattle.table.specs.Build.{supply_rules}

-- the order, or 0 where it is not allowed
unfoldable pub side_of : ℕ → ℕ
side_of order = cond (outside 4 7 order) 0 order

-- the cyclic table where the list is as long as it, else the list as it is
unfoldable pub table_in : ℕ → List ℤ → List ℤ
table_in order square = lent (lowest (supply_rules order (length square))) (supplied_table Cyclic order) square

-- lists of weights as long as the side needs them
abbrev pub Lists : ℕ → List ℕ → List ℕ → Type 0
Lists n byrow bycol = (length byrow ≡ 3 * (n * n)) × (length bycol ≡ n * (n * n))

-- before, the bytes to be printed; how many are in the text after: as many as there is room for
pub record Printed (before bytes : List ℕ) (count : ℕ) (after : List ℕ) : Type 0 where
  pub counted : count ≡ min (length bytes) (length before)
  pub text : after ≡ sets before 0 bytes
