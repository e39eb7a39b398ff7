-- Values written into a lent list from a place on.
use Rattle.std.specs.Prelude.{ℕ, ◌+◌, ◌≡◌, List, length}
use Rattle.std.proofs.lemmas.List.Edits.{sets}

-- before, the place, the values; the place after, and the list after: `sets` stores one value after the other, and a store past
-- the end is none
pub record Wrote {A : Type 0} (before : List A) (at : ℕ) (values : List A) (next : ℕ) (after : List A) : Type 0 where
  pub place : next ≡ at + length values
  pub list : after ≡ sets before at values
