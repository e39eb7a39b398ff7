-- What is printed, whatever is read and lent: it ends with a line feed, so it is never empty. And a bench case. Assumes nothing.
use Prim.Native.Nat.{ℕ}
use mathlib.Core.Path.{◌≡◌, refl, sym, ap, ◌∙◌}
use mathlib.Core.List.{List, [], ◌∷◌, ◌++◌, append_assoc, append-nil}
use Rattle.std.specs.Prelude.{Option, None, Some}
use lib.IntN.{ℤ}
use Rattle.refusal.specs.declared.Refusal.{Refusal}
use Rattle.refusal.specs.Number.{number}
use Rattle.refusal.specs.Lowest.{lowest}
use Rattle.refusal.specs.Place.{first_place}
use Rattle.square.specs.Table.{quads, supplied_table}
use Rattle.table.specs.Build.{table_rules, mask_rules, build_rules}
use Rattle.decimal.specs.Decimal.{digits, decimal}
use Rattle.tokens.specs.Tokens.{blank, between, blanks, token, start, token_at}
use Rattle.lines.specs.Alist.{lines_in}
use Rattle.lines.specs.Text.{item, line_from, text_of}
use Rattle.alist.specs.Calls.{alist_text, write_rules}
use Rattle.planning.specs.Request.{value_from, number_of, request_in, request_of}
use Rattle.weights.specs.declared.Side.TheVariants.{Bits, Checks}
use Rattle.planning.specs.Output.{rows_of, cols_of, cyclic_rules, cyclic_plan, cyclic_weights, refused_line, printed, output_for, output}

-- a line feed is the last byte
pub record Ends (text : List ℕ) : Type 0 where
  pub before : List ℕ
  pub is : text ≡ before ++ 10 ∷ []

ends_after : (first text : List ℕ) → Ends text → Ends (first ++ text)
ends_after first text e = record { before = first ++ e.before; is = ap (λ (l : List ℕ). first ++ l) e.is ∙ sym (append_assoc first e.before (10 ∷ [])) }

line_ends : (k : ℕ) (line : List ℕ) → Ends (line_from k line)
unfolding line_from
line_ends k [] = record { before = []; is = refl }
line_ends k (n ∷ ns) = ends_after (item k n) (line_from _ ns) (line_ends _ ns)

text_ends : (line : List ℕ) (lines : List (List ℕ)) → Ends (text_of (line ∷ lines))
unfolding text_of
text_ends line [] = let e = line_ends 0 line in record { before = e.before; is = append-nil (line_from 0 line) ∙ e.is }
text_ends line (next ∷ lines) = ends_after (line_from 0 line) (text_of (next ∷ lines)) (text_ends next lines)

printed_ends : (o : Option Refusal) (text : List ℕ) → Ends text → Ends (printed o text)
unfolding refused_line
printed_ends None text e = e
printed_ends (Some r) text e = ends_after (114 ∷ 101 ∷ 102 ∷ 117 ∷ 115 ∷ 101 ∷ 100 ∷ 32 ∷ []) _ (ends_after (decimal (number r)) (10 ∷ []) (record { before = []; is = refl }))

alist_ends : (plan : List ℤ) (rows cols lift : ℕ) → Ends (alist_text plan rows cols lift)
unfolding lines_in
alist_ends plan rows cols lift = text_ends _ _

pub output_ends : (input : List ℕ) (room : ℕ) (place : List ℕ) → Ends (output input room place)
unfolding output_for
output_ends input room place =
    let q = request_of input in
    printed_ends (lowest (cyclic_rules q room)) _
    (printed_ends (lowest (write_rules (cyclic_plan q) (rows_of q) (cols_of q) q.lift (cyclic_weights q Checks) (cyclic_weights q Bits) place)) (alist_text (cyclic_plan q) (rows_of q) (cols_of q) q.lift)
    (alist_ends (cyclic_plan q) (rows_of q) (cols_of q) q.lift))

-- the input "4 6" prints "refused 10", whatever is lent
pub four_six : (room : ℕ) (place : List ℕ) → output (52 ∷ 32 ∷ 54 ∷ []) room place ≡ 114 ∷ 101 ∷ 102 ∷ 117 ∷ 115 ∷ 101 ∷ 100 ∷ 32 ∷ 49 ∷ 48 ∷ 10 ∷ []
unfolding output_for cyclic_rules request_of request_in number_of value_from first_place blank between blanks token start token_at lowest build_rules table_rules mask_rules quads supplied_table refused_line decimal digits
four_six room place = refl
