-- Encoded words computed, and each refusal of the encoder. They are the only codewords among all 512 parity words, as a separate computation
-- showed. Assumes nothing.
use Prim.Native.Nat.{ℕ}
use mathlib.Core.Path.{◌≡◌, refl}
use mathlib.Core.List.{List, [], ◌∷◌, map}
use Rattle.std.specs.Prelude.{Option, None, Some}
use lib.IntN.{ℤ, pos, negsuc}
use Rattle.refusal.specs.declared.Refusal.{Refusal}
use Rattle.refusal.specs.declared.Refusal.TheVariants.{Rows, Lift, PlanLength, Entry, WordLength, NotBidiagonal, DataBits}
use Rattle.refusal.specs.Lowest.{lowest}
use Rattle.refusal.specs.Place.{first_place}
use Rattle.graph.specs.Count.{range, sum}
use Rattle.graph.specs.Erasure.{any}
use Rattle.exponent.specs.Plan.{entry_at, block_at}
use Rattle.exponent.specs.Limits.{plan_rules}
use Rattle.bidiagonal.specs.Shape.{some_misplaced, shifts_of, third_shift, not_bidiagonal}
use Rattle.encoding.specs.Encoded.{data_sum, last_bit, front_bit, encoded_word}
use Rattle.encoding.specs.Encode.{coding_rules, encode_rules}

-- three rows and two data columns at P = 3, with voltages 3 and 4 for 0 and 1; the third shift is 2
abbrev example : List ℤ
example =
    pos 0 ∷ negsuc 0 ∷ pos 1 ∷ pos 0 ∷ pos 2
    ∷ pos 3 ∷ pos 0 ∷ pos 4 ∷ pos 1 ∷ negsuc 0
    ∷ negsuc 0 ∷ pos 0 ∷ pos 2 ∷ negsuc 0 ∷ pos 1
    ∷ []

abbrev one_bit : List ℕ
one_bit = 1 ∷ 0 ∷ 0 ∷ 0 ∷ 0 ∷ 0 ∷ []

abbrev some_bits : List ℕ
some_bits = 0 ∷ 1 ∷ 1 ∷ 1 ∷ 0 ∷ 1 ∷ []

abbrev all_bits : List ℕ
all_bits = 1 ∷ 1 ∷ 1 ∷ 1 ∷ 1 ∷ 1 ∷ []

pub words :
    (encoded_word example 3 5 3 2 one_bit ≡ 0 ∷ 1 ∷ 0 ∷ 1 ∷ 0 ∷ 1 ∷ 0 ∷ 1 ∷ 1 ∷ one_bit)
    × (encoded_word example 3 5 3 2 some_bits ≡ 1 ∷ 0 ∷ 1 ∷ 0 ∷ 1 ∷ 1 ∷ 0 ∷ 0 ∷ 0 ∷ some_bits)
    × (encoded_word example 3 5 3 2 all_bits ≡ 0 ∷ 0 ∷ 0 ∷ 1 ∷ 1 ∷ 1 ∷ 0 ∷ 0 ∷ 0 ∷ all_bits)
unfolding encoded_word front_bit last_bit data_sum sum range block_at entry_at
words = (refl, refl, refl)

pub third : third_shift example 3 5 3 ≡ Some 2
unfolding third_shift shifts_of range block_at entry_at
third = refl

-- REFUSED, or not: a plan, its sizes, the data, the bytes of the lent word, and the answer
record Case : Type 0 where
  plan : List ℤ
  rows : ℕ
  cols : ℕ
  lift : ℕ
  info : List ℕ
  room : ℕ
  answer : Option Refusal

-- the example with another last column before the data
abbrev with_last : ℤ → ℤ → ℤ → List ℤ
with_last a b c =
    pos 0 ∷ negsuc 0 ∷ a ∷ pos 0 ∷ pos 2
    ∷ pos 3 ∷ pos 0 ∷ b ∷ pos 1 ∷ negsuc 0
    ∷ negsuc 0 ∷ pos 0 ∷ c ∷ negsuc 0 ∷ pos 1
    ∷ []

-- and with other blocks in its first two columns
abbrev with_front : ℤ → ℤ → ℤ → List ℤ
with_front a b c =
    pos 0 ∷ a ∷ pos 1 ∷ pos 0 ∷ pos 2
    ∷ b ∷ pos 0 ∷ pos 1 ∷ pos 1 ∷ negsuc 0
    ∷ c ∷ pos 0 ∷ pos 2 ∷ negsuc 0 ∷ pos 1
    ∷ []

abbrev of : List ℤ → List ℕ → ℕ → Option Refusal → Case
of plan info room answer = record { plan = plan; rows = 3; cols = 5; lift = 3; info = info; room = room; answer = answer }

-- four rows: four filled blocks in column 3, and two
abbrev four_rows : ℤ → ℤ → List ℤ
four_rows a b =
    pos 0 ∷ negsuc 0 ∷ negsuc 0 ∷ pos 0 ∷ pos 0
    ∷ pos 0 ∷ pos 0 ∷ negsuc 0 ∷ a ∷ pos 0
    ∷ negsuc 0 ∷ pos 0 ∷ pos 0 ∷ pos 0 ∷ pos 0
    ∷ negsuc 0 ∷ negsuc 0 ∷ pos 0 ∷ b ∷ pos 0
    ∷ []

abbrev at_one : List ℤ → List ℕ → Option Refusal → Case
at_one plan info answer = record { plan = plan; rows = 4; cols = 5; lift = 1; info = info; room = 5; answer = answer }

abbrev cases : List Case
cases =
    -- those of the plan before all others; then 16, 30 and 31, each before the next
    record { plan = []; rows = 0; cols = 5; lift = 0; info = []; room = 0; answer = Some Rows }
    ∷ record { plan = []; rows = 3; cols = 5; lift = 0; info = []; room = 0; answer = Some Lift }
    ∷ of [] [] 0 (Some PlanLength)
    ∷ of (with_last (pos 1) (pos 1) (negsuc 1)) [] 0 (Some (Entry 12))
    ∷ of (with_last (pos 0) (pos 1) (pos 2)) [] 14 (Some WordLength)
    ∷ of (with_last (pos 0) (pos 1) (pos 2)) [] 16 (Some WordLength)
    ∷ of (with_last (pos 0) (pos 1) (pos 2)) [] 15 (Some NotBidiagonal)
    ∷ of example [] 15 (Some DataBits)
    -- 30: two rows; no data column; a block off the diagonals, a remainder on them that is not 0, an empty block on them; two filled blocks in
    -- column m − 1, and four; three different remainders
    ∷ record { plan = pos 0 ∷ pos 0 ∷ pos 0 ∷ pos 0 ∷ pos 0 ∷ pos 0 ∷ []; rows = 2; cols = 3; lift = 1; info = 0 ∷ []; room = 3; answer = Some NotBidiagonal }
    ∷ record { plan = pos 0 ∷ negsuc 0 ∷ pos 0 ∷ pos 0 ∷ pos 0 ∷ pos 0 ∷ negsuc 0 ∷ pos 0 ∷ pos 0 ∷ []; rows = 3; cols = 3; lift = 1; info = []; room = 3; answer = Some NotBidiagonal }
    ∷ of (with_front (pos 0) (pos 0) (negsuc 0)) one_bit 15 (Some NotBidiagonal)
    ∷ of (with_front (negsuc 0) (pos 4) (negsuc 0)) one_bit 15 (Some NotBidiagonal)
    ∷ of (with_front (negsuc 0) (negsuc 0) (negsuc 0)) one_bit 15 (Some NotBidiagonal)
    ∷ of (with_front (negsuc 0) (pos 0) (pos 0)) one_bit 15 (Some NotBidiagonal)
    ∷ of (with_last (pos 1) (pos 1) (negsuc 0)) one_bit 15 (Some NotBidiagonal)
    ∷ at_one (four_rows (pos 0) (pos 0)) (0 ∷ []) (Some NotBidiagonal)
    ∷ of (with_last (pos 0) (pos 1) (pos 2)) one_bit 15 (Some NotBidiagonal)
    -- 31: a bit too few, a bit too many, a byte of 2
    ∷ of example (1 ∷ 0 ∷ 0 ∷ 0 ∷ 0 ∷ []) 15 (Some DataBits)
    ∷ of example (1 ∷ 0 ∷ 0 ∷ 0 ∷ 0 ∷ 0 ∷ 0 ∷ []) 15 (Some DataBits)
    ∷ of example (1 ∷ 0 ∷ 0 ∷ 0 ∷ 0 ∷ 2 ∷ []) 15 (Some DataBits)
    -- encoded: the example; equal remainders in other places, and three of them; 0 written as P; an empty block in column m − 1
    ∷ of example one_bit 15 None
    ∷ of (with_last (pos 1) (pos 2) (pos 4)) one_bit 15 None
    ∷ of (with_last (pos 2) (pos 1) (pos 4)) one_bit 15 None
    ∷ of (with_last (pos 1) (pos 4) (pos 7)) one_bit 15 None
    ∷ of (with_front (negsuc 0) (pos 6) (negsuc 0)) one_bit 15 None
    ∷ at_one (four_rows (negsuc 0) (pos 0)) (0 ∷ []) None
    ∷ []

pub refused : map (λ c. lowest (encode_rules c.plan c.rows c.cols c.lift c.info c.room)) cases ≡ map (λ c. c.answer) cases
unfolding encode_rules coding_rules lowest plan_rules first_place not_bidiagonal some_misplaced third_shift shifts_of any range block_at entry_at
refused = refl
