-- The text of a plan begins with the line of its two sizes, C × P and R × P. Assumes nothing.
use Prim.Native.Nat.{ℕ, ◌*◌}
use mathlib.Core.Path.{◌≡◌}
use mathlib.Core.List.{List, [], ◌∷◌}
use lib.IntN.{ℤ}
use lib.ListN.{length, take}
use lib.Seq.{take-append_seam}
use Rattle.exponent.specs.Tanner.{tanner}
use Rattle.lines.specs.Alist.{lines_in}
use Rattle.lines.specs.Text.{line_from, text_of}
use Rattle.alist.specs.Calls.{alist_text}

-- the first line, with its line feed
abbrev pub sizes_line : ℕ → ℕ → ℕ → List ℕ
sizes_line rows cols lift = line_from 0 (cols * lift ∷ rows * lift ∷ [])

pub text_begins : (plan : List ℤ) (rows cols lift : ℕ) → take (length (sizes_line rows cols lift)) (alist_text plan rows cols lift) ≡ sizes_line rows cols lift
unfolding text_of lines_in tanner
text_begins plan rows cols lift = take-append_seam (sizes_line rows cols lift) _
