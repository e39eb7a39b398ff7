-- What the inner functions require and ensure: a lent table and mask in range, and the runs of entries that are written into a
-- lent list.
use Rattle.std.specs.Prelude.{ℕ, ◌*◌, ◌/◌, ◌%◌, ◌<◌, ◌≤◌, ◌≡◌, List, [], ◌∷◌, ℤ, length}
use Rattle.square.specs.Each.{each, upon}
use Rattle.square.specs.Table.{table_at}
use Rattle.square.specs.Mask.{mask_at}
use Rattle.square.specs.Inner.{Square}
use Rattle.grid.specs.declared.Part.{Part}
use Rattle.grid.specs.declared.Row.{Row}
use Rattle.grid.specs.declared.Column.{Column}
use Rattle.grid.specs.Inner.{column, keeps}
use Rattle.grid.specs.Plan.{row_of, entry, table_plan}
use Rattle.table.specs.declared.write.Size.{Size}

-- the lent table, mask and numbers are in range
pub record Ready (size : Size) (table : List ℤ) (mask : List ℕ) : Type 0 where
  pub table_square : Square size.order table
  pub mask_square : length mask ≡ size.order * size.order
  pub most : size.weight ≤ size.order
  pub some_lift : 0 < size.lift
  pub small_lift : size.lift ≤ 4096

-- the plan of these
abbrev pub plan_of : Size → List ℤ → List ℕ → List ℤ
plan_of size table mask = table_plan size.order size.weight size.lift (table_at size.order table) (mask_at size.order mask)

-- the entries of row w: of one column, if the mask has it, and of all
unfoldable pub cell : Size → List ℤ → List ℕ → Row → Column → List ℤ
cell size table mask w q = upon (mask_at size.order mask q.j q.r) (entry size.order size.lift (table_at size.order table) w q ∷ [])

unfoldable pub cells : Size → List ℤ → List ℕ → Row → List ℤ
cells size table mask w = each (size.weight * size.order * size.order) (λ n. cell size table mask w (column size.order n))

-- the entries of row n of a part, if the part has it, and of its first n rows
unfoldable pub line : Size → List ℤ → List ℕ → Part → ℕ → List ℤ
line size table mask part n =
    let u = n / size.order in
    let v = n % size.order in
    upon (keeps part (mask_at size.order mask u v)) (cells size table mask (row_of part u v))

unfoldable pub lines : Size → List ℤ → List ℕ → Part → ℕ → List ℤ
lines size table mask part n = each n (line size table mask part)
