-- Each number of documents 01 and 02 stands for one case, in their order. Assumes nothing.
use Prim.Native.Nat.{ℕ, ◌≤◌}
use mathlib.Core.Path.{◌≡◌, refl}
use mathlib.Core.List.{List, [], ◌∷◌, map}
use native.Mathlib.Omega.{arith}
use Rattle.refusal.specs.declared.Refusal.{Refusal}
use Rattle.refusal.specs.declared.Refusal.TheVariants.{Rows, Cols, Lift, Bits, PlanLength, Entry, Order, TableLength, NegativeEntry, Unsound, MaskByte, MaskWeight, TableBits, Target, PlanPlace, WordLength, TextPlace, Byte, Erasure, NoSolution, Token, SteinerOrder, SteinerLength, BlockPlace, Weights, WorkPlace, SharedDivisor, PlansDiffer, JoinedPlace, NotBidiagonal, DataBits, ColumnWeight}
use Rattle.refusal.specs.Number.{number}

-- the cases in order, whatever the values are
abbrev pub cases : ℕ → List Refusal
cases v =
    Rows
    ∷ Cols
    ∷ Lift
    ∷ Bits
    ∷ PlanLength
    ∷ Entry v
    ∷ Order
    ∷ TableLength
    ∷ NegativeEntry v
    ∷ Unsound v v v v
    ∷ MaskByte
    ∷ MaskWeight
    ∷ TableBits
    ∷ Target
    ∷ PlanPlace
    ∷ WordLength
    ∷ TextPlace v
    ∷ Byte v
    ∷ Erasure v
    ∷ NoSolution
    ∷ Token v
    ∷ SteinerOrder
    ∷ SteinerLength
    ∷ BlockPlace
    ∷ Weights
    ∷ WorkPlace
    ∷ SharedDivisor
    ∷ PlansDiffer
    ∷ JoinedPlace
    ∷ NotBidiagonal
    ∷ DataBits
    ∷ ColumnWeight
    ∷ []

pub numbered : (v : ℕ) → map number (cases v) ≡ 1 ∷ 2 ∷ 3 ∷ 4 ∷ 5 ∷ 6 ∷ 7 ∷ 8 ∷ 9 ∷ 10 ∷ 11 ∷ 12 ∷ 13 ∷ 14 ∷ 15 ∷ 16 ∷ 17 ∷ 18 ∷ 19 ∷ 20 ∷ 21 ∷ 22 ∷ 23 ∷ 24 ∷ 25 ∷ 26 ∷ 27 ∷ 28 ∷ 29 ∷ 30 ∷ 31 ∷ 32 ∷ []
numbered v = refl

-- so every number is one of 1 to 32
pub number_range : (r : Refusal) → (1 ≤ number r) × (number r ≤ 32)
number_range Rows = omega arith
number_range Cols = omega arith
number_range Lift = omega arith
number_range Bits = omega arith
number_range PlanLength = omega arith
number_range (Entry p) = omega arith
number_range Order = omega arith
number_range TableLength = omega arith
number_range (NegativeEntry p) = omega arith
number_range (Unsound i k r t) = omega arith
number_range MaskByte = omega arith
number_range MaskWeight = omega arith
number_range TableBits = omega arith
number_range Target = omega arith
number_range PlanPlace = omega arith
number_range WordLength = omega arith
number_range (TextPlace n) = omega arith
number_range (Byte p) = omega arith
number_range (Erasure p) = omega arith
number_range NoSolution = omega arith
number_range (Token p) = omega arith
number_range SteinerOrder = omega arith
number_range SteinerLength = omega arith
number_range BlockPlace = omega arith
number_range Weights = omega arith
number_range WorkPlace = omega arith
number_range SharedDivisor = omega arith
number_range PlansDiffer = omega arith
number_range JoinedPlace = omega arith
number_range NotBidiagonal = omega arith
number_range DataBits = omega arith
number_range ColumnWeight = omega arith
