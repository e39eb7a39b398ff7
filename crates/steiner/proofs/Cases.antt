-- Computed cases: each refusal of the builder at its edge, as a table of lent values with the answer of the rules; and a plan of order 7.
-- Assumes nothing.
use Prim.Native.Nat.{ℕ}
use mathlib.Core.Path.{◌≡◌, refl}
use mathlib.Core.Bool.{cond}
use mathlib.Core.List.{List, [], ◌∷◌, map}
use Rattle.std.specs.Prelude.{Option, None, Some}
use lib.Dec.{ltb}
use lib.IntN.{ℤ, pos, negsuc}
use lib.ListN.{replicate}
use Rattle.refusal.specs.declared.Refusal.{Refusal}
use Rattle.refusal.specs.declared.Refusal.TheVariants.{Lift, Bits, Entry, SteinerOrder, SteinerLength, Weights}
use Rattle.refusal.specs.Lowest.{lowest}
use Rattle.refusal.specs.Place.{first_place}
use Rattle.graph.specs.Count.{range, below, member}
use Rattle.weights.specs.declared.Room.{Room}
use Rattle.steiner.specs.Points.{points}
use Rattle.steiner.specs.System.{is_order, cols, start_among, start, triple_at}
use Rattle.steiner.specs.Build.{build_rules, entry, steiner_plan}

abbrev zeros : ℕ → List ℤ
zeros n = replicate n (pos 0)

-- how long the three lent lists are
abbrev long : ℕ → ℕ → ℕ → Room
long plan rows columns = record { plan = plan; rows = rows; cols = columns }

pub record Case : Type 0 where
  pub order : ℕ
  pub lift : ℕ
  pub voltages : List ℤ
  pub room : Room
  pub answer : Option Refusal

abbrev case : ℕ → ℕ → List ℤ → Room → Option Refusal → Case
case order lift voltages room answer = record { order = order; lift = lift; voltages = voltages; room = room; answer = answer }

-- each refusal, and the last values that are taken; the lowest number where several apply
abbrev pub cases : List Case
cases =
    case 7 1 (zeros 21) (long 49 7 7) None
    ∷ case 9 4096 (zeros 36) (long 108 9 12) None
    ∷ case 13 2520 (zeros 78) (long 338 13 26) None
    ∷ case 13 2521 (zeros 78) (long 338 13 26) (Some Bits)
    ∷ case 15 1872 (zeros 105) (long 525 15 35) None
    ∷ case 15 1873 (zeros 105) (long 525 15 35) (Some Bits)
    ∷ case 19 1149 (zeros 171) (long 1083 19 57) None
    ∷ case 19 1150 (zeros 171) (long 1083 19 57) (Some Bits)
    ∷ case 19 0 (zeros 171) (long 1083 19 57) (Some Lift)
    ∷ case 19 4097 (negsuc 0 ∷ []) (long 0 0 0) (Some Lift)
    ∷ case 19 1150 (negsuc 0 ∷ []) (long 0 0 0) (Some Bits)
    ∷ case 20 4096 (pos 0 ∷ negsuc 0 ∷ []) (long 0 0 0) (Some (Entry 1))
    ∷ case 20 4096 (zeros 3) (long 0 0 0) (Some SteinerOrder)
    ∷ case 8 1 (zeros 27) (long 72 0 0) (Some SteinerOrder)
    ∷ case 7 1 (zeros 20) (long 49 7 7) (Some SteinerLength)
    ∷ case 7 1 (zeros 21) (long 48 7 7) (Some SteinerLength)
    ∷ case 7 1 (zeros 21) (long 48 0 0) (Some SteinerLength)
    ∷ case 9 1 (zeros 36) (long 108 8 12) (Some Weights)
    ∷ case 9 1 (zeros 36) (long 108 9 13) (Some Weights)
    ∷ case 9 1 (zeros 36) (long 108 12 9) (Some Weights)
    ∷ case 9 1 (zeros 36) (long 108 0 0) (Some Weights)
    ∷ []

abbrev Hold : List Case → Type 0
Hold [] = Unit {0}
Hold (c ∷ l) = (lowest (build_rules c.order c.lift c.voltages c.room) ≡ c.answer) × Hold l

pub cases_hold : Hold cases
unfolding lowest build_rules is_order member cols first_place
cases_hold = (refl, (refl, (refl, (refl, (refl, (refl, (refl, (refl, (refl, (refl, (refl, (refl, (refl, (refl, (refl, (refl, (refl, (refl, (refl, (refl, (refl, tt)))))))))))))))))))))

-- the plan of order 7 at lift 5 with the voltages 0 to 20, row by row, where 9 stands for an empty block. Its triples are
-- 0 1 3, 0 2 6, 0 4 5, 1 2 4, 1 5 6, 2 3 5, 3 4 6
abbrev shown : ℕ → ℤ
shown n = cond (ltb n 5) (pos n) (negsuc 0)

abbrev seven : List ℕ
seven =
    0 ∷ 3 ∷ 1 ∷ 9 ∷ 9 ∷ 9 ∷ 9
    ∷ 1 ∷ 9 ∷ 9 ∷ 4 ∷ 2 ∷ 9 ∷ 9
    ∷ 9 ∷ 4 ∷ 9 ∷ 0 ∷ 9 ∷ 0 ∷ 9
    ∷ 2 ∷ 9 ∷ 9 ∷ 9 ∷ 9 ∷ 1 ∷ 3
    ∷ 9 ∷ 9 ∷ 2 ∷ 1 ∷ 9 ∷ 9 ∷ 4
    ∷ 9 ∷ 9 ∷ 3 ∷ 9 ∷ 3 ∷ 2 ∷ 9
    ∷ 9 ∷ 0 ∷ 9 ∷ 9 ∷ 4 ∷ 9 ∷ 0 ∷ []

pub plan_7 : steiner_plan 7 5 (map pos (below 21)) ≡ map shown seven
unfolding steiner_plan entry cols start_among start triple_at points range
plan_7 = refl
