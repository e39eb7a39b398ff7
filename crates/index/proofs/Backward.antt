-- Laws of a list that is filled in from the last place to the first: each place is right once the places after it are.
-- Assumes nothing.
use Prim.Native.Nat.{ℕ, ◌+◌, ◌-◌, ◌*◌, ◌≤◌, ◌<◌}
use mathlib.Core.Path.{◌≡◌, refl, sym, ap, subst, ◌∙◌}
use mathlib.Core.Bool.{Bool}
use mathlib.Core.List.{List}
use native.Mathlib.Omega.{arith}
use native.Mathlib.Nat.{suc-mul, zero-mul, mul-le-mul_right}
use native.Mathlib.Numerals.{add-one}
use borrow.Author.Tests.{lt-ltb, le-ltb}
use lib.ListN.{length, get_or, set, length-set}
use lib.Seq.{get_or-set_same, get_or-set_other}
use Rattle.graph.proofs.Decide.{by_eq, by_le}
use Rattle.exponent.specs.declared.Shape.{Shape}
use Rattle.exponent.proofs.Numbers.{number_low, place_small}
use Rattle.index.specs.Index.{NextFrom, DownNext, IndexedFrom, Room, AtRow, under}
use Rattle.index.proofs.Skips.{next_end}

pub next_row : (i cols : ℕ) → (i + 1) * cols ≡ i * cols + cols
next_row i cols = ap (λ (x : ℕ). x * cols) (add-one i) ∙ suc-mul i cols

-- a place determines its row and column
same_row : (i k j m cols : ℕ) → j < cols → m < cols → i * cols + j ≡ k * cols + m → k ≤ i
same_row i k j m cols p q e = by_le k i (λ h. h) (λ h. absurd (omega (arith, suc-mul i cols, mul-le-mul_right cols h)))

same_place : (i k j m cols : ℕ) → j < cols → m < cols → i * cols + j ≡ k * cols + m → (i ≡ k) × (j ≡ m)
same_place i k j m cols p q e =
    let rows : i ≡ k = omega (arith, same_row i k j m cols p q e, same_row k i m j cols q p (sym e)) in
    (rows, omega (arith, ap (λ (x : ℕ). x * cols) rows))

-- where a row begins
pub row_small : {s : Shape} {Says : ℕ → ℕ → ℕ → Type 0} {list : List ℕ} {i : ℕ} → AtRow s Says list i → i * s.cols ≤ 98304
row_small {s = s} {i = i} at = place_small i s.cols (omega (arith, at.row, at.room.few_rows)) at.room.few_cols

-- THE PLACES: what a list says of those from one on
module _ (Says : ℕ → ℕ → ℕ → Type 0) (s : Shape) (list : List ℕ) where
  pub from_end : IndexedFrom Says s list (s.rows * s.cols)
  unfolding IndexedFrom
  from_end i j p q h = absurd (omega (arith, number_low i j s.rows s.cols p q))

  -- before the first column of row i + 1 stands the end of row i
  pub from_row : (i : ℕ) → IndexedFrom Says s list ((i + 1) * s.cols) → IndexedFrom Says s list (i * s.cols + s.cols)
  from_row i = subst (IndexedFrom Says s list) (next_row i s.cols)

  -- THE STEP: the list with one place more
  pub from_step : (i j next m : ℕ) → j + 1 ≡ next → j < s.cols → i * s.cols + j < length list → IndexedFrom Says s list (i * s.cols + next) → Says i j m
      → IndexedFrom Says s (set list (i * s.cols + j) m) (i * s.cols + j)
  unfolding IndexedFrom
  from_step i j next m after j_in room later here k l p q h =
      by_eq (k * s.cols + l) (i * s.cols + j)
      (λ e. let same = same_place k i l j s.cols q j_in e in rw (same.0, same.1, get_or-set_same list (i * s.cols + j) m 0 room) here)
      (λ d. rw (get_or-set_other list (i * s.cols + j) (k * s.cols + l) m 0 d) (later k l p q (omega arith)))

-- THE COLUMNS of a row: those from `next` on are done, in a list as long as before
pub record Columns (Says : ℕ → ℕ → ℕ → Type 0) (s : Shape) (old list : List ℕ) (i next : ℕ) : Type 0 where
  pub inside : next ≤ s.cols
  pub same_length : length list ≡ length old
  pub right : IndexedFrom Says s list (i * s.cols + next)

module _ {Says : ℕ → ℕ → ℕ → Type 0} {s : Shape} {old : List ℕ} {i : ℕ} (at : AtRow s Says old i) where
  pub columns_start : Columns Says s old old i s.cols
  columns_start = record { inside = omega arith; same_length = refl; right = from_row Says s old i at.later }

  module _ {list : List ℕ} {next : ℕ} (c : Columns Says s old list i next) where
    pub columns_step : 0 < next → (m : ℕ) → Says i (next - 1) m → Columns Says s old (set list (i * s.cols + (next - 1)) m) i (next - 1)
    columns_step h m here =
        record {
          inside = omega (arith, c.inside);
          same_length = simp length-set c.same_length;
          right =
              from_step Says s list i (next - 1) next m (omega arith) (omega (arith, c.inside))
              (omega (arith, number_low i (next - 1) s.rows s.cols at.row (omega (arith, c.inside)), at.room.whole, c.same_length)) c.right here;
        }

-- THE ROWS: those from i on are done, in a list as long as before
pub record Rows (Says : ℕ → ℕ → ℕ → Type 0) (s : Shape) (old list : List ℕ) (i : ℕ) : Type 0 where
  pub inside : i ≤ s.rows
  pub same_length : length list ≡ length old
  pub right : IndexedFrom Says s list (i * s.cols)

module _ (Says : ℕ → ℕ → ℕ → Type 0) (s : Shape) where
  pub rows_start : (list : List ℕ) → Rows Says s list list s.rows
  rows_start list = record { inside = omega arith; same_length = refl; right = from_end Says s list }

  module _ (old list : List ℕ) (i : ℕ) (rows : Rows Says s old list i) where
    -- what the row before them asks
    pub rows_turn : Room s old → 0 < i → AtRow s Says list (i - 1)
    rows_turn r h =
        let e : i ≡ i - 1 + 1 = omega arith in
        record {
          room = record { few_rows = r.few_rows; few_cols = r.few_cols; whole = omega (arith, rows.same_length, r.whole) };
          row = omega (arith, rows.inside);
          later = subst (λ (n : ℕ). IndexedFrom Says s list (n * s.cols)) e rows.right;
        }

    pub rows_next : (new : List ℕ) → length new ≡ length list → IndexedFrom Says s new ((i - 1) * s.cols) → Rows Says s old new (i - 1)
    rows_next new e d = record { inside = omega (arith, rows.inside); same_length = e ∙ rows.same_length; right = d }

    -- all are done
    pub rows_end : i ≤ 0 → IndexedFrom Says s list 0
    rows_end h =
        let none : i ≡ 0 = omega arith in
        subst (IndexedFrom Says s list) (ap (λ (n : ℕ). n * s.cols) none ∙ zero-mul s.cols) rows.right

-- the row after row i, as the index down the columns has it
pub under_next : (full : ℕ → ℕ → Bool) (s : Shape) (down : List ℕ) (i j next : ℕ) → i < s.rows → j < s.cols → next ≤ s.cols → IndexedFrom (DownNext full s) s down (i * s.cols + next)
    → NextFrom (λ k. full k j) (i + 1) s.rows (under down s i (i * s.cols + j))
unfolding IndexedFrom
under_next full s down i j next i_in j_in n later =
    by_le s.rows (i + 1)
    (λ h. rw (le-ltb (i + 1) s.rows h) (subst (λ (x : ℕ). NextFrom (λ k. full k j) x s.rows s.rows) (let e : s.rows ≡ i + 1 = omega arith in e) (next_end (λ k. full k j) s.rows)))
    (λ h.
    rw (lt-ltb (i + 1) s.rows h)
    (subst (λ (x : ℕ). NextFrom (λ k. full k j) (i + 1) s.rows (get_or down x 0)) (below i j s.cols)
    (later (i + 1) j h j_in (omega (arith, below i j s.cols)))))
  where
    below : (i j cols : ℕ) → (i + 1) * cols + j ≡ i * cols + j + cols
    below i j cols = omega (arith, next_row i cols)
