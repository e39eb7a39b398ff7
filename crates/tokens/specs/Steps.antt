-- A text's tokens held to items from a place on: one item, the items of a line in turn, and what is left behind them.
use Rattle.std.specs.Prelude.{Result, Ok, Err, ℕ, cond, List, [], ◌∷◌, Option, Some}
use Rattle.tokens.specs.declared.Cursor.{Cursor}
use Rattle.tokens.specs.declared.Form.{Form}
use Rattle.tokens.specs.Tokens.{Item, start, right, behind, mismatch}

-- the next token is the item, and reading goes on behind it; or it is wrong, or missing, at its place
unfoldable pub expect_at : Form → List ℕ → ℕ → Item → Result Cursor ℕ
expect_at form text at x = cond (right form text at x) (Ok (record { at = behind form text at x })) (Err (start form text at))

-- the items of a line in turn, as far as they are right
abbrev pub and_then : Result Cursor ℕ → (ℕ → Result Cursor ℕ) → Result Cursor ℕ
and_then (Ok c) go = go c.at
and_then (Err p) go = Err p

unfoldable pub read_line : Form → List ℕ → ℕ → List Item → Result Cursor ℕ
read_line form text at [] = Ok (record { at = at })
read_line form text at (x ∷ xs) = and_then (expect_at form text at x) (λ p. read_line form text p xs)

-- before the first item; behind a step, one item more, and several
abbrev pub at_start : Result Cursor ℕ
at_start = Ok (record { at = 0 })

abbrev pub expect_after : Form → List ℕ → Result Cursor ℕ → Item → Result Cursor ℕ
expect_after form text step x = and_then step (λ at. expect_at form text at x)

abbrev pub read_after : Form → List ℕ → Result Cursor ℕ → List Item → Result Cursor ℕ
read_after form text step xs = and_then step (λ at. read_line form text at xs)

-- where the text first differs from the items that come behind a step: at a wrong token, if the step has met one
abbrev pub mismatch_after : Form → List ℕ → Result Cursor ℕ → List Item → Option ℕ
mismatch_after form text (Ok c) xs = mismatch form text c.at xs
mismatch_after form text (Err p) xs = Some p
