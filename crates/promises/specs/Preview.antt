-- Document 02, slip 5: for every frame a preview equals what filling reports on a copy, refusal 20 included. It is said of the two contracts:
-- whatever that of `preview` lets it answer for a word, and that of `fill` for a copy of the word, is the same.
use Rattle.std.specs.Prelude.{Result}
use Rattle.refusal.specs.declared.Refusal.{Refusal}
use Rattle.peeling.specs.declared.Filling.{Filling}
use Rattle.std.specs.Prelude.{ℕ, ◌≡◌, List, ℤ}
use Rattle.peeling.specs.Fill.{Fills, Previews}

-- whatever the plan, its sizes and the word are, and whatever filling leaves in the copy
abbrev pub PreviewedAsFilled : Type 0
PreviewedAsFilled =
    (plan : List ℤ) (rows cols lift : ℕ) (word copy left : List ℕ) (previewed filled : Result Filling Refusal)
    → copy ≡ word
    → Previews plan rows cols lift word previewed
    → Fills plan rows cols lift copy filled left
    → previewed ≡ filled
