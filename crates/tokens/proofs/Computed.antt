-- Texts held to the items of an alist in its two forms, and numbers in decimal, computed. Assumes nothing.
use Prim.Native.Nat.{ℕ}
use Prim.Native.String.{String}
use mathlib.Core.Path.{◌≡◌, refl}
use mathlib.Core.List.{List, [], ◌∷◌, ◌++◌, map}
use Rattle.std.specs.Prelude.{Option, None, Some}
use Rattle.decimal.specs.Decimal.{digits, decimal}
use Rattle.tokens.specs.declared.Form.{Form}
use Rattle.tokens.specs.declared.Form.TheVariants.{Padded, Unpadded}
use Rattle.tokens.specs.Tokens.{blank, between, blanks, token, start, token_at, same, Item, numeral, line_end, mismatch}
use Rattle.tokens.specs.Bytes.{bytes}

-- a text, and where it first differs
pub record Held : Type 0 where
  pub text : List ℕ
  pub answer : Option ℕ

abbrev held : String → String → Option ℕ → Held
held begin rest answer = record { text = bytes begin ++ bytes rest; answer = answer }

abbrev AllHeld : Form → List Item → List Held → Type 0
AllHeld form xs [] = Unit {0}
AllHeld form xs (h ∷ l) = (mismatch form h.text 0 xs ≡ h.answer) × AllHeld form xs l

-- the numbers of the alist of the one-row plan 0 1 at lift 2, and its text but for the last line
abbrev pub pair_numbers : List ℕ
pair_numbers = 4 ∷ 2 ∷ 1 ∷ 2 ∷ 1 ∷ 1 ∷ 1 ∷ 1 ∷ 2 ∷ 2 ∷ 1 ∷ 2 ∷ 2 ∷ 1 ∷ 1 ∷ 4 ∷ 2 ∷ 3 ∷ []

abbrev pair : String
pair = "4 2\n1 2\n1 1 1 1\n2 2\n1\n2\n2\n1\n1 4\n"

-- the padded form: right, with other blank bytes, with a leading zero, with one token more, ended early
pub padded_held : AllHeld Padded (map numeral pair_numbers)
    (held pair "2 3\n" None
    ∷ held pair "\t2\r\n3" None
    ∷ held pair "2 03\n" (Some 34)
    ∷ held pair "2 3\n 0" (Some 37)
    ∷ held pair "2 " (Some 34)
    ∷ held "" "" (Some 0)
    ∷ [])
unfolding mismatch blank between blanks token start token_at same decimal digits
padded_held = (refl, (refl, (refl, (refl, (refl, (refl, tt))))))

-- the unpadded alist of the one-row plan 0 −1 at lift 1, whose second bit has an empty list, and its text but for the last two lines
abbrev pub short_items : List Item
short_items =
    numeral 2
    ∷ numeral 1
    ∷ line_end
    ∷ numeral 1
    ∷ numeral 1
    ∷ line_end
    ∷ numeral 1
    ∷ numeral 0
    ∷ line_end
    ∷ numeral 1
    ∷ line_end
    ∷ numeral 1
    ∷ line_end
    ∷ line_end
    ∷ numeral 1
    ∷ line_end
    ∷ []

abbrev pub short : String
short = "2 1\n1 1\n1 0\n1\n1\n"

-- the unpadded form: right, with blanks before line feeds, without the last line feed, without the blank line, with one line feed
-- more, with the list filled up, and with a line feed inside a line
pub unpadded_held : AllHeld Unpadded short_items
    (held short "\n1\n" None
    ∷ held short " \r\n\t1\r\n " None
    ∷ held short "\n1" (Some 18)
    ∷ held short "1\n" (Some 16)
    ∷ held short "\n1\n\n" (Some 19)
    ∷ held short "0\n1\n" (Some 16)
    ∷ held "2\n1" "" (Some 1)
    ∷ [])
unfolding mismatch blank between blanks token start token_at same decimal digits
unpadded_held = (refl, (refl, (refl, (refl, (refl, (refl, (refl, tt)))))))

pub numbers_in_decimal : (decimal 0 ≡ 48 ∷ []) × (decimal 10 ≡ 49 ∷ 48 ∷ []) × (decimal 786432 ≡ 55 ∷ 56 ∷ 54 ∷ 52 ∷ 51 ∷ 50 ∷ [])
unfolding decimal digits
numbers_in_decimal = (refl, refl, refl)
