-- Each refusal of the builder at its edge, computed: a table of lent values with the answer of the rules. Assumes nothing.
use Prim.Native.Nat.{ℕ, ◌*◌}
use mathlib.Core.Path.{◌≡◌, refl}
use mathlib.Core.List.{List, [], ◌∷◌}
use Rattle.std.specs.Prelude.{Option, None, Some}
use lib.IntN.{ℤ, pos, negsuc}
use lib.ListN.{drop}
use Rattle.refusal.specs.declared.Refusal.{Refusal}
use Rattle.refusal.specs.declared.Refusal.TheVariants.{Lift, Order, TableLength, NegativeEntry, Unsound, MaskByte, MaskWeight, TableBits, PlanPlace, Weights}
use Rattle.refusal.specs.Lowest.{lowest}
use Rattle.refusal.specs.Place.{first_place}
use Rattle.graph.specs.Count.{range, count}
use Rattle.weights.specs.declared.Room.{Room}
use Rattle.square.specs.declared.supply.Family.TheVariants.{Cyclic}
use Rattle.square.specs.Each.{each}
use Rattle.square.specs.Table.{quads, supplied_table}
use Rattle.square.specs.Mask.{row_ones, column_ones, weighs, common, weight}
use Rattle.table.specs.Build.{table_rules, mask_rules, build_rules}

-- the full mask, and the cyclic table of order 4
abbrev full : ℕ → List ℕ
full order = each (order * order) (λ n. 1 ∷ [])

abbrev four : List ℤ
four = supplied_table Cyclic 4

-- how long the three lent lists are, and as long as a plan of order 4 and weight 4 needs them: 48 rows and 64 columns
abbrev long : ℕ → ℕ → ℕ → Room
long plan rows cols = record { plan = plan; rows = rows; cols = cols }

abbrev fitting : Room
fitting = long 3072 48 64

pub record Case : Type 0 where
  pub order : ℕ
  pub lift : ℕ
  pub table : List ℤ
  pub mask : List ℕ
  pub room : Room
  pub answer : Option Refusal

abbrev case : ℕ → ℕ → List ℤ → List ℕ → Room → Option Refusal → Case
case order lift table mask room answer = record { order = order; lift = lift; table = table; mask = mask; room = room; answer = answer }

-- each refusal, and the last values that are taken; the lowest number where several apply
abbrev pub cases : List Case
cases =
    case 4 0 four (full 4) fitting (Some Lift)
    ∷ case 4 4097 four (full 4) fitting (Some Lift)
    ∷ case 3 7 four (full 4) fitting (Some Order)
    ∷ case 8 7 four (full 4) fitting (Some Order)
    ∷ case 5 7 four (full 4) fitting (Some TableLength)
    ∷ case 4 7 (pos 0 ∷ negsuc 0 ∷ drop 2 four) (full 4) fitting (Some (NegativeEntry 1))
    ∷ case 4 7 four (1 ∷ full 4) fitting (Some MaskByte)
    ∷ case 4 7 four (2 ∷ drop 1 (full 4)) fitting (Some MaskByte)
    ∷ case 4 7 four (0 ∷ drop 1 (full 4)) fitting (Some MaskWeight)
    ∷ case 4 1024 four (full 4) fitting None
    ∷ case 4 1025 four (full 4) fitting (Some TableBits)
    ∷ case 4 7 four (full 4) (long 3071 48 64) (Some PlanPlace)
    ∷ case 4 7 four (full 4) (long 3071 0 0) (Some PlanPlace)
    ∷ case 4 7 four (full 4) (long 3072 47 64) (Some Weights)
    ∷ case 4 7 four (full 4) (long 3072 48 65) (Some Weights)
    ∷ case 4 7 four (full 4) (long 3072 64 48) (Some Weights)
    ∷ case 4 7 four (full 4) (long 3072 0 0) (Some Weights)
    ∷ case 4 0 [] [] (long 0 0 0) (Some Lift)
    ∷ case 4 6 four [] (long 0 0 0) (Some (Unsound 0 2 1 3))
    ∷ []

abbrev Hold : List Case → Type 0
Hold [] = Unit {0}
Hold (c ∷ l) = (lowest (build_rules c.order c.lift c.table c.mask c.room) ≡ c.answer) × Hold l

pub cases_hold : Hold cases
unfolding lowest build_rules table_rules mask_rules first_place quads supplied_table range count row_ones column_ones weighs common weight
cases_hold = (refl, (refl, (refl, (refl, (refl, (refl, (refl, (refl, (refl, (refl, (refl, (refl, (refl, (refl, (refl, (refl, (refl, (refl, (refl, tt)))))))))))))))))))
