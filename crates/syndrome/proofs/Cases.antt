-- Answers of the syndrome check to a few words, and the erasures of a list of any bytes, computed. Assumes nothing.
use Rattle.std.specs.Prelude.{Option, None, Result, Ok, Err}
use Rattle.refusal.specs.declared.Refusal.{Refusal}
use Prim.Native.Nat.{ℕ}
use mathlib.Core.Path.{◌≡◌, refl}
use mathlib.Core.List.{List, [], ◌∷◌}
use lib.IntN.{pos}
use Rattle.refusal.specs.declared.Refusal.TheVariants.{WordLength, Byte, Erasure}
use Rattle.refusal.specs.Lowest.{lowest}
use Rattle.refusal.specs.Place.{first_place}
use Rattle.graph.specs.Count.{range, select, count}
use Rattle.graph.specs.Graph.{bits_of}
use Rattle.graph.specs.Erasure.{total, parity}
use Rattle.graph.specs.Filling.{erasures}
use Rattle.exponent.specs.Plan.{entry_at, block_at}
use Rattle.exponent.specs.Limits.{plan_rules}
use Rattle.exponent.specs.Tanner.{tanner}
use Rattle.syndrome.specs.Word.{byte_rules, word_rules}
use Rattle.syndrome.specs.Check.{check_rules, lowest_odd, syndrome_of}
use Rattle.syndrome.specs.Lanes.{bytes_of}

-- a word for the one-row plan 0 1 at lift 2, whose checks join the bits 0 3 and 1 2
pub record Case : Type 0 where
  pub word : List ℕ
  pub answer : Result (Option ℕ) Refusal

abbrev given : List ℕ → Result (Option ℕ) Refusal → Case
given word answer = record { word = word; answer = answer }

abbrev pub cases : List Case
cases =
    given (1 ∷ 0 ∷ 0 ∷ 1 ∷ []) (Ok None)
    ∷ given (1 ∷ 0 ∷ 0 ∷ 2 ∷ []) (Err (Erasure 3))
    ∷ given (1 ∷ 3 ∷ 2 ∷ 4 ∷ []) (Err (Byte 1))
    ∷ given (1 ∷ 3 ∷ 2 ∷ []) (Err WordLength)
    ∷ []

abbrev Hold : List Case → Type 0
Hold [] = Unit {0}
Hold (c ∷ l) = (syndrome_of (pos 0 ∷ pos 1 ∷ []) 1 2 2 c.word ≡ c.answer) × Hold l

pub cases_hold : Hold cases
unfolding syndrome_of check_rules word_rules byte_rules plan_rules lowest first_place lowest_odd parity total bits_of tanner select range block_at entry_at
cases_hold = (refl, (refl, (refl, (refl, tt))))

-- the bytes of a number, lowest first; of them two are 2, and 130, 3 and 255 are not
mixed : bytes_of 8 0x02_ff_03_01_82_00_02_01 ≡ 1 ∷ 2 ∷ 0 ∷ 130 ∷ 1 ∷ 3 ∷ 255 ∷ 2 ∷ []
unfolding bytes_of
mixed = refl

two_lost : erasures (bytes_of 8 0x02_ff_03_01_82_00_02_01) ≡ 2
unfolding bytes_of erasures count
two_lost = refl
