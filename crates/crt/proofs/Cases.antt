-- Two plans joined, computed: the plan 0 0 / 0 1 of document 01 at P = 2 and P = 3, and each refusal of the call. Assumes nothing.
use Prim.Native.Nat.{ℕ}
use mathlib.Core.Path.{◌≡◌, refl}
use mathlib.Core.Bool.{true, false}
use mathlib.Core.List.{List, [], ◌∷◌, map}
use Rattle.std.specs.Prelude.{Option, None, Some}
use lib.IntN.{ℤ, pos, negsuc}
use Rattle.refusal.specs.declared.Refusal.{Refusal}
use Rattle.refusal.specs.declared.Refusal.TheVariants.{Rows, Cols, Lift, Bits, PlanLength, Entry, SharedDivisor, PlansDiffer, JoinedPlace}
use Rattle.refusal.specs.Lowest.{lowest}
use Rattle.refusal.specs.Place.{first_place}
use Rattle.graph.specs.Count.{range}
use Rattle.graph.specs.Erasure.{any}
use Rattle.exponent.specs.Plan.{shifts, entry_at}
use Rattle.exponent.specs.Limits.{plan_rules}
use Rattle.crt.specs.Remainders.{shared, remainders}
use Rattle.crt.specs.Join.{joined_plan, Sized, sized, both_refusal, differ, join_rules, join_refusal}

-- the sizes 4 and 9, 4 and 6, 1 and 1, 7 and 7; the number that leaves 1 by 2 and 2 by 3, 32,767 by 4 and 10 by 5, anything by 1 and 1
pub divisors : (shared 4 9 ≡ false) × (shared 4 6 ≡ true) × (shared 1 1 ≡ false) × (shared 7 7 ≡ true)
unfolding shared any
divisors = (refl, refl, refl, refl)

pub numbers : (remainders 2 3 1 2 ≡ 5) × (remainders 4 5 32767 10 ≡ 15) × (remainders 1 1 9 8 ≡ 0)
unfolding remainders first_place range
numbers = (refl, refl, refl)

-- 0 0 / 0 1 at 2 and at 3; with 2 in the place of 1; with voltages at and above the lift and an empty block
abbrev corner : ℕ → List ℤ
corner e = shifts (0 ∷ 0 ∷ 0 ∷ e ∷ [])

pub joined :
    (joined_plan (corner 1) 2 (corner 1) 3 ≡ corner 1)
    × (joined_plan (corner 1) 2 (corner 2) 3 ≡ corner 5)
    × (joined_plan (pos 32767 ∷ negsuc 0 ∷ pos 4 ∷ []) 4 (pos 10 ∷ negsuc 0 ∷ pos 4096 ∷ []) 5 ≡ pos 15 ∷ negsuc 0 ∷ pos 16 ∷ [])
unfolding joined_plan entry_at remainders first_place range
joined = (refl, refl, refl)

-- REFUSED, or not: two plans, the places of the joined one, and the answer
record Case : Type 0 where
  first : Sized
  second : Sized
  room : ℕ
  answer : Option Refusal

abbrev square : List ℤ → ℕ → Sized
square plan lift = sized plan 2 2 lift

abbrev row : List ℤ → ℕ → ℕ → Sized
row plan cols lift = sized plan 1 cols lift

abbrev cases : List Case
cases =
    -- 1 and 2 of either; 3 of either, and of the product alone
    record { first = sized [] 0 0 0; second = sized [] 0 0 0; room = 9; answer = Some Rows }
    ∷ record { first = square (corner 1) 2; second = sized [] 193 0 0; room = 9; answer = Some Rows }
    ∷ record { first = square (corner 1) 2; second = sized [] 1 513 0; room = 9; answer = Some Cols }
    ∷ record { first = square [] 2; second = square [] 4097; room = 9; answer = Some Lift }
    ∷ record { first = square [] 17; second = square [] 241; room = 9; answer = Some Lift }
    -- 4 of either, and of the product with the first plan's columns alone; 5 of either
    ∷ record { first = row [] 17 1; second = row [] 17 4096; room = 9; answer = Some Bits }
    ∷ record { first = row [] 17 16; second = row [] 16 256; room = 9; answer = Some Bits }
    ∷ record { first = row [] 16 16; second = row [] 17 256; room = 9; answer = Some PlanLength }
    ∷ record { first = square (corner 1) 2; second = square [] 3; room = 9; answer = Some PlanLength }
    -- 6 of both: the first plan's place; of the second alone; before 27
    ∷ record { first = square (pos 0 ∷ pos 0 ∷ pos 0 ∷ negsuc 1 ∷ []) 2; second = square (negsuc 1 ∷ pos 0 ∷ pos 0 ∷ pos 1 ∷ []) 3; room = 9; answer = Some (Entry 3) }
    ∷ record { first = square (corner 1) 2; second = square (pos 0 ∷ negsuc 1 ∷ pos 0 ∷ pos 1 ∷ []) 2; room = 9; answer = Some (Entry 1) }
    -- 27, 28 of rows and columns and of an empty block, 29 of a place that is longer and of one that is shorter; each before the next
    ∷ record { first = square (corner 1) 4; second = row (corner 1) 4 6; room = 9; answer = Some SharedDivisor }
    ∷ record { first = square (corner 1) 2; second = row (corner 1) 4 3; room = 9; answer = Some PlansDiffer }
    ∷ record { first = square (corner 1) 2; second = square (pos 0 ∷ pos 0 ∷ pos 0 ∷ negsuc 0 ∷ []) 3; room = 9; answer = Some PlansDiffer }
    ∷ record { first = square (corner 1) 2; second = square (corner 1) 3; room = 5; answer = Some JoinedPlace }
    ∷ record { first = square (corner 1) 2; second = square (corner 1) 3; room = 3; answer = Some JoinedPlace }
    -- and two that are joined
    ∷ record { first = square (corner 1) 2; second = square (corner 1) 3; room = 4; answer = None }
    ∷ record { first = square (corner 1) 1; second = square (corner 7) 4096; room = 4; answer = None }
    ∷ []

pub refused : map (λ c. join_refusal c.first c.second c.room) cases ≡ map (λ c. c.answer) cases
unfolding join_refusal both_refusal join_rules differ shared any lowest plan_rules first_place entry_at
refused = refl
