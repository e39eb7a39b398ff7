-- The entries of one column. Assumes nothing.
use Prim.Native.Nat.{ℕ, ◌+◌}
use mathlib.Core.Path.{◌≡◌, ap}
use mathlib.Core.Bool.{Bool, true, false}
use mathlib.Core.List.{List, [], ◌∷◌}
use lib.IntN.{ℤ}
use lib.ListN.{set}
use Rattle.writing.specs.Wrote.{Wrote}
use Rattle.writing.proofs.Wrote.{wrote_none, wrote_one}
use Rattle.square.specs.Each.{upon}
use Rattle.square.specs.Table.{table_at}
use Rattle.square.specs.Mask.{mask_at}
use Rattle.grid.specs.declared.Row.{Row}
use Rattle.grid.specs.declared.Column.{Column}
use Rattle.grid.specs.Plan.{entry}
use Rattle.table.specs.declared.write.Size.{Size}
use Rattle.table.specs.Write.{cell}

-- the entries of one column
module _ (size : Size) (table : List ℤ) (mask : List ℕ) (w : Row) (q : Column) where
  abbrev here : ℤ
  here = entry size.order size.lift (table_at size.order table) w q

  pub cell_is : (b : Bool) → mask_at size.order mask q.j q.r ≡ b → cell size table mask w q ≡ upon b (entry size.order size.lift (table_at size.order table) w q ∷ [])
  unfolding cell
  cell_is b e = ap (λ (b : Bool). upon b (here ∷ [])) e

  pub cell_written : (plan : List ℤ) (at : ℕ) (x : ℤ) → mask_at size.order mask q.j q.r ≡ true → x ≡ entry size.order size.lift (table_at size.order table) w q
      → Wrote plan at (cell size table mask w q) (at + 1) (set plan at x)
  cell_written plan at x h f = rw (cell_is true h) (wrote_one plan at x here f)

  pub cell_skipped : (plan : List ℤ) (at : ℕ) → mask_at size.order mask q.j q.r ≡ false → Wrote plan at (cell size table mask w q) at plan
  cell_skipped plan at h = rw (cell_is false h) (wrote_none plan at)
