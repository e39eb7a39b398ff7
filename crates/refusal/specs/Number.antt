-- The number and the values of each refusal (document 01, "Turned away", and document 02's slips).
use Rattle.std.specs.Prelude.{ℕ, List, [], ◌∷◌}
use Rattle.refusal.specs.declared.Refusal.{Refusal}
use Rattle.refusal.specs.declared.Refusal.TheVariants.{Rows, Cols, Lift, Bits, PlanLength, Entry, Order, TableLength, NegativeEntry, Unsound, MaskByte, MaskWeight, TableBits, Target, PlanPlace, WordLength, TextPlace, Byte, Erasure, NoSolution, Token, SteinerOrder, SteinerLength, BlockPlace, Weights, WorkPlace, SharedDivisor, PlansDiffer, JoinedPlace, NotBidiagonal, DataBits, ColumnWeight}

abbrev pub number : Refusal → ℕ
number Rows = 1
number Cols = 2
number Lift = 3
number Bits = 4
number PlanLength = 5
number (Entry place) = 6
number Order = 7
number TableLength = 8
number (NegativeEntry place) = 9
number (Unsound i k r t) = 10
number MaskByte = 11
number MaskWeight = 12
number TableBits = 13
number Target = 14
number PlanPlace = 15
number WordLength = 16
number (TextPlace needed) = 17
number (Byte place) = 18
number (Erasure place) = 19
number NoSolution = 20
number (Token place) = 21
number SteinerOrder = 22
number SteinerLength = 23
number BlockPlace = 24
number Weights = 25
number WorkPlace = 26
number SharedDivisor = 27
number PlansDiffer = 28
number JoinedPlace = 29
number NotBidiagonal = 30
number DataBits = 31
number ColumnWeight = 32

-- a place, the four numbers i, k, r, t of refusal 10, or the length needed
abbrev pub values : Refusal → List ℕ
values Rows = []
values Cols = []
values Lift = []
values Bits = []
values PlanLength = []
values (Entry place) = place ∷ []
values Order = []
values TableLength = []
values (NegativeEntry place) = place ∷ []
values (Unsound i k r t) = i ∷ k ∷ r ∷ t ∷ []
values MaskByte = []
values MaskWeight = []
values TableBits = []
values Target = []
values PlanPlace = []
values WordLength = []
values (TextPlace needed) = needed ∷ []
values (Byte place) = place ∷ []
values (Erasure place) = place ∷ []
values NoSolution = []
values (Token place) = place ∷ []
values SteinerOrder = []
values SteinerLength = []
values BlockPlace = []
values Weights = []
values WorkPlace = []
values SharedDivisor = []
values PlansDiffer = []
values JoinedPlace = []
values NotBidiagonal = []
values DataBits = []
values ColumnWeight = []
