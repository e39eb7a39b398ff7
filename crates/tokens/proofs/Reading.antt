-- Laws of reading: an item, and the items of a line in turn. Assumes nothing.
use Rattle.std.specs.Prelude.{Result, Ok, Err, Some}
use Prim.Native.Nat.{ℕ, ◌≤◌, ◌<◌}
use mathlib.Core.Path.{◌≡◌, refl, sym, ap, ◌∙◌}
use mathlib.Core.Bool.{Bool, true, false, cond}
use mathlib.Core.List.{List, [], ◌∷◌, ◌++◌}
use native.Mathlib.Omega.{arith}
use lib.ListN.{length, get_or, get_or-eq_default}
use borrow.Author.Tests.{eqb-true}
use Rattle.graph.proofs.Decide.{by_bool, by_le}
use Rattle.tokens.specs.declared.Cursor.{Cursor}
use Rattle.tokens.specs.declared.Form.{Form}
use Rattle.tokens.specs.declared.Form.TheVariants.{Padded}
use Rattle.tokens.specs.Tokens.{Item, numeral, line_end, ending, start, token_at, right, behind, mismatch}
use Rattle.tokens.specs.Steps.{expect_at, and_then, read_line, expect_after, read_after, mismatch_after}
use Rattle.tokens.proofs.Runs.{start_le, start_end, token_at_le, token_end, number_none}

-- the place where an answer goes on, or 0
abbrev goes : Result Cursor ℕ → ℕ
goes (Ok c) = c.at
goes (Err p) = 0

-- a right token lies within the text
behind_le : (form : Form) (text : List ℕ) (at : ℕ) (x : Item) → at ≤ length text → right form text at x ≡ true → behind form text at x ≤ length text
behind_le form text at (numeral n) h e = token_at_le text (start form text at) (start_le form text at h)
behind_le form text at line_end h e =
    by_le (length text) (start form text at)
    (λ k. absurd (omega (arith, sym (get_or-eq_default text 0 k) ∙ eqb-true (get_or text (start form text at) 0) 10 e)))
    (λ k. omega arith)

expect_goes : (form : Form) (text : List ℕ) (at : ℕ) (x : Item) → at ≤ length text → goes (expect_at form text at x) ≤ length text
unfolding expect_at
expect_goes form text at x h = by_bool (right form text at x) (λ e. rw e (behind_le form text at x h e)) (λ e. rw e (omega arith))

module _ (form : Form) (text : List ℕ) where
  -- an item that is right, and one that is wrong or missing
  module _ (at : ℕ) (x : Item) where
    pub expect_le : (c : Cursor) → Ok c ≡ expect_at form text at x → at ≤ length text → c.at ≤ length text
    expect_le c e h = rw (sym e) at (expect_goes form text at x h)

    module _ (rest xs : List Item) (q : rest ≡ x ∷ xs) where
      pub read_next : (c : Cursor) → Ok c ≡ expect_at form text at x → read_line form text at rest ≡ read_line form text c.at xs
      unfolding read_line
      read_next c e = rw (q, ← e) refl

      pub read_wrong : (k : ℕ) → Err k ≡ expect_at form text at x → read_line form text at rest ≡ Err k
      unfolding read_line
      read_wrong k e = rw (q, ← e) refl

  pub read_end : (at : ℕ) (rest : List Item) → rest ≡ [] → read_line form text at rest ≡ Ok (record { at = at })
  unfolding read_line
  read_end at rest e = ap (read_line form text at) e

  -- a line
  line_goes : (xs : List Item) (at : ℕ) → at ≤ length text → goes (read_line form text at xs) ≤ length text
  unfolding read_line
  line_goes [] at h = h
  line_goes (x ∷ xs) at h = go (expect_at form text at x) (expect_goes form text at x h) (λ p. line_goes xs p)
    where
      go : (s : Result Cursor ℕ) → goes s ≤ length text → ((p : ℕ) → p ≤ length text → goes (read_line form text p xs) ≤ length text) → goes (and_then s (λ p. read_line form text p xs)) ≤ length text
      go (Ok c) e f = f c.at e
      go (Err p) e f = e

  pub step_mismatch : (at : ℕ) (x : Item) (xs : List Item) → mismatch form text at (x ∷ xs) ≡ mismatch_after form text (expect_at form text at x) xs
  unfolding mismatch expect_at
  step_mismatch at x xs = go (right form text at x)
    where
      go : (t : Bool) → cond t (mismatch form text (behind form text at x) xs) (Some (start form text at))
          ≡ mismatch_after form text (cond t (Ok (record { at = behind form text at x })) (Err (start form text at))) xs
      go true = refl
      go false = refl

  -- an item read behind a step is the first of those that come
  pub after_item : (s : Result Cursor ℕ) (x : Item) (xs : List Item) → mismatch_after form text (expect_after form text s x) xs ≡ mismatch_after form text s (x ∷ xs)
  after_item (Ok c) x xs = sym (step_mismatch c.at x xs)
  after_item (Err p) x xs = refl

  pub read_append : (xs ys : List Item) (at : ℕ) → mismatch form text at (xs ++ ys) ≡ mismatch_after form text (read_line form text at xs) ys
  unfolding read_line
  read_append [] ys at = refl
  read_append (x ∷ xs) ys at = step_mismatch at x (xs ++ ys) ∙ go (expect_at form text at x) (λ p. read_append xs ys p)
    where
      go : (s : Result Cursor ℕ) → ((p : ℕ) → mismatch form text p (xs ++ ys) ≡ mismatch_after form text (read_line form text p xs) ys)
          → mismatch_after form text s (xs ++ ys) ≡ mismatch_after form text (and_then s (λ p. read_line form text p xs)) ys
      go (Ok c) f = f c.at
      go (Err p) f = refl

  -- the same behind a step
  pub after_items : (s : Result Cursor ℕ) (xs ys : List Item) → mismatch_after form text (read_after form text s xs) ys ≡ mismatch_after form text s (xs ++ ys)
  after_items (Ok c) xs ys = sym (read_append xs ys c.at)
  after_items (Err p) xs ys = refl

  -- a line read in two parts
  pub line_append : (xs ys : List Item) (at : ℕ) → read_line form text at (xs ++ ys) ≡ read_after form text (read_line form text at xs) ys
  unfolding read_line
  line_append [] ys at = refl
  line_append (x ∷ xs) ys at = go (expect_at form text at x) (λ p. line_append xs ys p)
    where
      go : (s : Result Cursor ℕ) → ((p : ℕ) → read_line form text p (xs ++ ys) ≡ read_after form text (read_line form text p xs) ys)
          → read_after form text s (xs ++ ys) ≡ read_after form text (read_after form text s xs) ys
      go (Ok c) f = f c.at
      go (Err p) f = refl

  pub line_le : (at : ℕ) (line : List Item) (c : Cursor) → Ok c ≡ read_line form text at line → at ≤ length text → c.at ≤ length text
  line_le at line c e h = rw (sym e) at (line_goes line at h)

  -- past the text's end the first number is missing
  pub past_number : (at n : ℕ) → length text < at → Err at ≡ expect_at form text at (numeral n)
  unfolding expect_at
  past_number at n h =
      let q : start form text at ≡ at = start_end form text at (omega arith) in
      let e : token_at text at ≡ [] = token_end text at (omega arith) in
      rw (q, e, sym (number_none [] n refl))

-- THE END OF A LINE, behind a step f

only : (s : Result Cursor ℕ) → and_then s (λ p. Ok (record { at = p })) ≡ s
only (Ok c) = refl
only (Err p) = refl

module _ (form : Form) (text : List ℕ) (f : Result Cursor ℕ) where
  pub end_padded : form ≡ Padded → f ≡ read_after form text f (ending form)
  unfolding read_line
  end_padded e = rw e (sym (only f))

-- a line of one item
pub read_one : (form : Form) (text : List ℕ) (at : ℕ) (x : Item) → read_line form text at (x ∷ []) ≡ expect_at form text at x
unfolding read_line
read_one form text at x = only (expect_at form text at x)
