-- The encoder (document 02, slip 10): its refusals, its answer, and what the lent word then holds.
use Rattle.std.specs.Prelude.{ℕ, ◌-◌, ◌*◌, Bool, not, ◌||◌, List, [], ◌∷◌, ◌++◌, eqb, ltb, ℤ, length}
use Rattle.std.specs.Prelude.{Option, None, Some}
use Rattle.refusal.specs.declared.Refusal.{Refusal}
use Rattle.refusal.specs.declared.Refusal.TheVariants.{WordLength, NotBidiagonal, DataBits}
use Rattle.refusal.specs.Lowest.{Rule, refuse, lowest}
use Rattle.refusal.specs.Place.{somewhere}
use Rattle.refusal.specs.Lent.{lent}
use Rattle.exponent.specs.Limits.{plan_rules}
use Rattle.bidiagonal.specs.Shape.{third_shift, not_bidiagonal}
use Rattle.encoding.specs.Encoded.{encoded_word}

-- the data are not n bytes, or have a byte above 1
abbrev pub bad_data : ℕ → List ℕ → Bool
bad_data n info = not (eqb (length info) n) || somewhere (ltb 1) info

-- 16 where the lent word, of which only the length is looked at, has not cols × lift bytes; 30 where the plan has another shape; 31
unfoldable pub coding_rules : List ℤ → ℕ → ℕ → ℕ → List ℕ → ℕ → List Rule
coding_rules plan rows cols lift info room =
    refuse WordLength (not (eqb room (cols * lift)))
    ∷ refuse NotBidiagonal (not_bidiagonal plan rows cols lift)
    ∷ refuse DataBits (bad_data ((cols - rows) * lift) info)
    ∷ []

-- after those of the plan, 1 to 6
unfoldable pub encode_rules : List ℤ → ℕ → ℕ → ℕ → List ℕ → ℕ → List Rule
encode_rules plan rows cols lift info room = plan_rules plan rows cols lift ++ coding_rules plan rows cols lift info room

-- the third shift of a plan that has the shape
abbrev pub or_zero : Option ℕ → ℕ
or_zero None = 0
or_zero (Some e) = e

abbrev pub word_of : List ℤ → ℕ → ℕ → ℕ → List ℕ → List ℕ
word_of plan rows cols lift info = encoded_word plan rows cols lift (or_zero (third_shift plan rows cols lift)) info

-- THE CALL, of what the lent word holds: why it is refused, if it is; the answer; what the word then holds
abbrev pub encode_refusal : List ℤ → ℕ → ℕ → ℕ → List ℕ → List ℕ → Option Refusal
encode_refusal plan rows cols lift info word = lowest (encode_rules plan rows cols lift info (length word))

abbrev pub after_encode : List ℤ → ℕ → ℕ → ℕ → List ℕ → List ℕ → List ℕ
after_encode plan rows cols lift info word = lent (encode_refusal plan rows cols lift info word) (word_of plan rows cols lift info) word
