-- The runs of all parts, written one after the other, are the plan. Assumes nothing.
use Prim.Native.Nat.{ℕ, ◌+◌, ◌*◌, ◌/◌, ◌%◌, ◌<◌}
use mathlib.Core.Path.{◌≡◌, sym, ◌∙◌, ap, ap₂, fun_ext}
use mathlib.Core.List.{List, [], ◌∷◌, ◌++◌, map}
use native.Mathlib.Omega.{arith}
use lib.IntN.{ℤ}
use lib.ListN.{length, length-append}
use Rattle.writing.specs.Wrote.{Wrote}
use Rattle.writing.proofs.Wrote.{wrote_then, wrote_all}
use Rattle.square.specs.Each.{each, upon, grid}
use Rattle.square.specs.Table.{table_at}
use Rattle.square.specs.Mask.{mask_at}
use Rattle.square.proofs.Each.{each_digits, map_each, map_upon, grid_append, grid_each, grid_upon}
use Rattle.grid.specs.declared.Part.{Part}
use Rattle.grid.specs.declared.Part.TheVariants.{AJ, AR, JR}
use Rattle.grid.specs.declared.Row.{Row}
use Rattle.grid.specs.declared.Column.{Column}
use Rattle.grid.specs.Plan.{columns, rows, row_of, entry, table_plan}
use Rattle.grid.specs.Inner.{column, keeps}
use Rattle.grid.proofs.Columns.{columns_are}
use Rattle.table.specs.declared.write.Size.{Size}
use Rattle.table.specs.Write.{cell, cells, line, lines}

module _ (size : Size) (table : List ℤ) (mask : List ℕ) where
  abbrev J : ℕ
  J = size.order

  abbrev at : Row → Column → ℤ
  at = entry J size.lift (table_at J table)

  abbrev plan_of : List ℤ
  plan_of = table_plan J size.weight size.lift (table_at J table) (mask_at J mask)

  abbrev cols : List Column
  cols = columns J size.weight (mask_at J mask)

  module _ (some : 0 < J) where
    cells_are : (w : Row) → map (at w) cols ≡ cells size table mask w
    unfolding cells cell
    cells_are w =
        ap (map (at w)) (columns_are J some size.weight (mask_at J mask))
        ∙ map_each (at w) (size.weight * J * J) _
        ∙ ap (each (size.weight * J * J)) (fun_ext λ n. map_upon (at w) (mask_at J mask (column J n).j (column J n).r) _)

    lines_are : (k : Part) (n : ℕ) → grid at (each n (λ u. each J (λ v. upon (keeps k (mask_at J mask u v)) (row_of k u v ∷ [])))) cols ≡ lines size table mask k (n * J)
    unfolding lines line
    lines_are k n =
        ap (λ (l : List Row). grid at l cols) (each_digits n J some (λ u v. upon (keeps k (mask_at J mask u v)) (row_of k u v ∷ [])))
        ∙ grid_each at cols (n * J) _
        ∙ ap (each (n * J)) (fun_ext λ x. grid_upon at cols (keeps k (mask_at J mask (x / J) (x % J))) _ ∙ ap (upon (keeps k (mask_at J mask (x / J) (x % J)))) (cells_are _))

    parts_are : lines size table mask AJ (size.weight * J) ++ (lines size table mask AR (size.weight * J) ++ lines size table mask JR (J * J)) ≡ plan_of
    unfolding table_plan rows
    parts_are =
        sym
        (grid_append at cols (each size.weight (λ u. each J (λ v. row_of AJ u v ∷ []))) _
        ∙ ap₂ ◌++◌ (lines_are AJ size.weight)
        (grid_append at cols (each size.weight (λ u. each J (λ v. row_of AR u v ∷ []))) _
        ∙ ap₂ ◌++◌ (lines_are AR size.weight) (lines_are JR J)))

    -- the three parts, one after the other
    module _ (plan : List ℤ) (h : length plan ≡ length (table_plan J size.weight size.lift (table_at J table) (mask_at J mask))) where
      abbrev A₁ : List ℤ
      A₁ = lines size table mask AJ (size.weight * J)

      abbrev A₂ : List ℤ
      A₂ = lines size table mask AR (size.weight * J)

      abbrev A₃ : List ℤ
      A₃ = lines size table mask JR (J * J)

      pub sizes : length A₁ + (length A₂ + length A₃) ≡ length plan
      sizes = omega (arith, ap length parts_are, length-append A₁ (A₂ ++ A₃), length-append A₂ A₃)

      pub all_written : (p₁ p₂ p₃ : List ℤ) (x y z : ℕ) → Wrote plan 0 A₁ x p₁ → Wrote p₁ x A₂ y p₂ → Wrote p₂ y A₃ z p₃
          → p₃ ≡ table_plan J size.weight size.lift (table_at J table) (mask_at J mask)
      all_written p₁ p₂ p₃ x y z a b c =
          wrote_all plan p₃ (A₁ ++ (A₂ ++ A₃)) z (h ∙ ap length (sym parts_are)) (wrote_then a (wrote_then b c)) ∙ parts_are
