-- Lines of numbers as text, and as what a text's tokens are held to: the two places where lines are taken apart.
use Rattle.std.specs.Prelude.{ℕ, zero, suc, List, [], ◌∷◌, ◌++◌, map}
use Rattle.decimal.specs.Decimal.{decimal}
use Rattle.tokens.specs.declared.Form.{Form}
use Rattle.tokens.specs.Tokens.{Item, numeral, ending}

-- the k-th number of a line, from 0: a space before each but the first
unfoldable pub item : ℕ → ℕ → List ℕ
item zero n = decimal n
item (suc k) n = 32 ∷ decimal n

-- a line from its k-th number on: no space at its end, and a line feed after it
unfoldable pub line_from : ℕ → List ℕ → List ℕ
line_from k [] = 10 ∷ []
line_from k (n ∷ ns) = item k n ++ line_from (suc k) ns

unfoldable pub text_of : List (List ℕ) → List ℕ
text_of [] = []
text_of (line ∷ lines) = line_from 0 line ++ text_of lines

-- what a text's tokens are held to, for a line and for lines in their order: the numbers and, in the unpadded form, the end of each line
abbrev pub line_items : Form → List ℕ → List Item
line_items form line = map numeral line ++ ending form

unfoldable pub items_of : Form → List (List ℕ) → List Item
items_of form [] = []
items_of form (line ∷ lines) = line_items form line ++ items_of form lines
