-- The tokens of a text (document 01, "alist text") in the two forms of an alist (document 02, slip 1), and the place at which they first
-- differ from what is expected.
use Rattle.std.specs.Prelude.{ℕ, suc, ◌+◌, Bool, true, false, cond, List, [], ◌∷◌, eqb, ltb, length, get_or, drop, Option, None, Some}
use Rattle.decimal.specs.Decimal.{decimal}
use Rattle.tokens.specs.declared.Form.{Form}
use Rattle.tokens.specs.declared.Form.TheVariants.{Padded, Unpadded}

-- tab, line feed, carriage return, space: what no number holds
unfoldable pub blank : ℕ → Bool
blank b = cond (eqb b 9) true (cond (eqb b 10) true (cond (eqb b 13) true (eqb b 32)))

-- what stands between tokens: these bytes, but in the unpadded form no line feed, which is a token there
unfoldable pub between : Form → ℕ → Bool
between Padded b = blank b
between Unpadded b = cond (eqb b 10) false (blank b)

-- how many such bytes stand first
unfoldable pub blanks : Form → List ℕ → ℕ
blanks form [] = 0
blanks form (b ∷ bytes) = cond (between form b) (suc (blanks form bytes)) 0

-- the run of bytes that are not blank that stands first
unfoldable pub token : List ℕ → List ℕ
token [] = []
token (b ∷ bytes) = cond (blank b) [] (b ∷ token bytes)

-- the first byte of the next token from a place on, or the text's length where there is none (past the text's end, the place itself)
unfoldable pub start : Form → List ℕ → ℕ → ℕ
start form text at = at + blanks form (drop at text)

-- the run that begins at a place: the token there, unless that is a line feed
unfoldable pub token_at : List ℕ → ℕ → List ℕ
token_at text at = token (drop at text)

-- the place behind the next run
abbrev pub stop : Form → List ℕ → ℕ → ℕ
stop form text at = start form text at + length (token_at text (start form text at))

-- two runs of bytes are the same
unfoldable pub same : List ℕ → List ℕ → Bool
same [] [] = true
same [] (y ∷ ys) = false
same (x ∷ xs) [] = false
same (x ∷ xs) (y ∷ ys) = cond (eqb x y) (same xs ys) false

-- what a token is held to: a number, in decimal without leading zeros, or a line's end
pub data Item : Type 0 where
  numeral : ℕ → Item
  line_end : Item

-- what is expected at a line's end: a line feed in the unpadded form, nothing in the padded one
abbrev pub ending : Form → List Item
ending Padded = []
ending Unpadded = line_end ∷ []

-- the next token from a place on is the item
abbrev pub right : Form → List ℕ → ℕ → Item → Bool
right form text at (numeral n) = same (token_at text (start form text at)) (decimal n)
right form text at line_end = eqb (get_or text (start form text at) 0) 10

-- the place behind it
abbrev pub behind : Form → List ℕ → ℕ → Item → ℕ
behind form text at (numeral n) = stop form text at
behind form text at line_end = start form text at + 1

-- the first byte of the first wrong or extra token from a place on, or the text's length where it ends early
unfoldable pub mismatch : Form → List ℕ → ℕ → List Item → Option ℕ
mismatch form text at [] = cond (ltb (start form text at) (length text)) (Some (start form text at)) None
mismatch form text at (x ∷ xs) =
    let later = mismatch form text (behind form text at x) xs in
    cond (right form text at x) later (Some (start form text at))
