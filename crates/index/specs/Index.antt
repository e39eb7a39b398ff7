-- Two index lists over a plan: for each place (i, j) the next filled row of its column, and the next filled column of its row.
-- They make work faster and change nothing of its meaning.
use Rattle.std.specs.Prelude.{Option, Some, None, ℕ, ◌+◌, ◌*◌, ◌≤◌, ◌<◌, ◌≡◌, Bool, true, false, cond, List, ltb, eqb, ℤ, length, get_or}
use Rattle.exponent.specs.declared.Shape.{Shape}
use Rattle.exponent.specs.Plan.{block_at, filled}

-- m is the first number from i on that passes the test, or the limit where none does below it
pub record NextFrom (test : ℕ → Bool) (i limit m : ℕ) : Type 0 where
  pub from_here : i ≤ m
  pub inside : m ≤ limit
  pub none_between : (k : ℕ) → i ≤ k → k < m → test k ≡ false
  pub passes : m < limit → test m ≡ true

-- the same as an answer: that number, or nothing where none passes below the limit
abbrev pub NextOf : (ℕ → Bool) → ℕ → ℕ → Option ℕ → Type 0
NextOf test i limit None = (k : ℕ) → i ≤ k → k < limit → test k ≡ false
NextOf test i limit (Some m) = NextFrom test i limit m × (m < limit)

abbrev pub filled_at : List ℤ → Shape → ℕ → ℕ → Bool
filled_at plan s i j = filled (block_at plan s.cols s.lift i j)

-- what an index says of place (i, j), where `full` tells which blocks are filled: the next filled row of its column, or the
-- next filled column of its row
abbrev pub DownNext : (ℕ → ℕ → Bool) → Shape → ℕ → ℕ → ℕ → Type 0
DownNext full s i j m = NextFrom (λ k. full k j) i s.rows m

abbrev pub AlongNext : (ℕ → ℕ → Bool) → Shape → ℕ → ℕ → ℕ → Type 0
AlongNext full s i j m = NextFrom (full i) j s.cols m

-- the lists as their users know them
pub record DownIndex (plan : List ℤ) (s : Shape) (down : List ℕ) : Type 0 where
  pub whole : s.rows * s.cols ≤ length down
  pub next : (i j : ℕ) → i < s.rows → j < s.cols → DownNext (filled_at plan s) s i j (get_or down (i * s.cols + j) 0)

pub record AlongIndex (plan : List ℤ) (s : Shape) (along : List ℕ) : Type 0 where
  pub whole : s.rows * s.cols ≤ length along
  pub next : (i j : ℕ) → i < s.rows → j < s.cols → AlongNext (filled_at plan s) s i j (get_or along (i * s.cols + j) 0)

-- HOW THE LISTS ARE MADE, from the last place to the first

-- a list has a place for each block, of which there are few
pub record Room (s : Shape) (list : List ℕ) : Type 0 where
  pub few_rows : s.rows ≤ 192
  pub few_cols : s.cols ≤ 512
  pub whole : s.rows * s.cols ≤ length list

-- a list says what it is to say of every place from `place` on
unfoldable pub IndexedFrom : (ℕ → ℕ → ℕ → Type 0) → Shape → List ℕ → ℕ → Type 0
IndexedFrom Says s list place = (i j : ℕ) → i < s.rows → j < s.cols → place ≤ i * s.cols + j → Says i j (get_or list (i * s.cols + j) 0)

-- row i of a list can be filled in: there is room, and the rows after it are done
pub record AtRow (s : Shape) (Says : ℕ → ℕ → ℕ → Type 0) (list : List ℕ) (i : ℕ) : Type 0 where
  pub room : Room s list
  pub row : i < s.rows
  pub later : IndexedFrom Says s list ((i + 1) * s.cols)

-- the next filled row after row i, as the list that is right from the next row on has it
abbrev pub under : List ℕ → Shape → ℕ → ℕ → ℕ
under down s i place = cond (ltb (i + 1) s.rows) (get_or down (place + s.cols) 0) s.rows

-- the index along the rows names this place's own column: exactly where its block is filled
abbrev pub named : List ℕ → Shape → ℕ → ℕ → Bool
named along s i j = eqb (get_or along (i * s.cols + j) 0) j
