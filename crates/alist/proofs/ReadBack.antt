-- Lines as text read back as themselves, in either form. Assumes nothing.
use Prim.Native.Nat.{ℕ, zero, suc, ◌+◌, ◌/◌, ◌%◌, ◌≤◌}
use mathlib.Core.Path.{◌≡◌, refl, sym, ap, ◌∙◌}
use mathlib.Core.Bool.{true, false}
use mathlib.Core.List.{List, [], ◌∷◌, ◌++◌, append_assoc, append-nil}
use Rattle.std.specs.Prelude.{None}
use native.Mathlib.Omega.{arith}
use lib.ListN.{length, get_or, drop, length-append, length-drop}
use lib.Seq.{drop-drop, drop-append_seam, get_or-drop, get_or-append_seam}
use borrow.Author.Tests.{ne_eqb, lt-ltb, le-ltb}
use Rattle.graph.proofs.Decide.{by_le}
use Rattle.decimal.specs.Decimal.{digit, digits, decimal}
use Rattle.tokens.specs.declared.Form.{Form}
use Rattle.tokens.specs.declared.Form.TheVariants.{Padded, Unpadded}
use Rattle.tokens.specs.Tokens.{blank, between, blanks, token, start, token_at, stop, Item, numeral, line_end, right, mismatch}
use Rattle.tokens.proofs.Runs.{same_exactly}
use Rattle.lines.specs.Text.{item, line_from, text_of, line_items, items_of}

-- Gaps, which are runs of bytes between tokens, and runs of digits, which hold none.

abbrev Gap : Form → List ℕ → Type 0
Gap form [] = Unit {0}
Gap form (b ∷ bytes) = (between form b ≡ true) × Gap form bytes

gap_more : (form : Form) (bytes : List ℕ) (b : ℕ) → Gap form bytes → between form b ≡ true → Gap form (bytes ++ b ∷ [])
gap_more form [] b p q = (q, tt)
gap_more form (x ∷ bytes) b p q = (p.0, gap_more form bytes b p.1 q)

abbrev High : List ℕ → Type 0
High [] = Unit {0}
High (b ∷ bytes) = (48 ≤ b) × High bytes

high_more : (bytes : List ℕ) (b : ℕ) → High bytes → 48 ≤ b → High (bytes ++ b ∷ [])
high_more [] b p q = (q, tt)
high_more (x ∷ bytes) b p q = (p.0, high_more bytes b p.1 q)

high_blank : (b : ℕ) → 48 ≤ b → blank b ≡ false
unfolding blank
high_blank b h = rw (ne_eqb b 9 (omega arith), ne_eqb b 10 (omega arith), ne_eqb b 13 (omega arith)) (ne_eqb b 32 (omega arith))

high_between : (form : Form) (b : ℕ) → 48 ≤ b → between form b ≡ false
unfolding between
high_between Padded b h = high_blank b h
high_between Unpadded b h = rw (ne_eqb b 10 (omega arith)) (high_blank b h)

digits_high : (k n : ℕ) → High (digits k n) × (1 ≤ length (digits k n))
unfolding digits
digits_high zero n = ((omega arith, tt), omega arith)
digits_high (suc k) n =
    by_le 10 n
    (λ h. rw (le-ltb n 10 h) (high_more (digits k (n / 10)) (digit (n % 10)) (digits_high k (n / 10)).0 (omega arith), omega (arith, length-append (digits k (n / 10)) (digit (n % 10) ∷ []))))
    (λ h. rw (lt-ltb n 10 h) ((omega arith, tt), omega arith))

-- what follows a token
abbrev Ends : List ℕ → Type 0
Ends [] = Unit {0}
Ends (b ∷ bytes) = blank b ≡ true

blanks_run : (form : Form) (bytes rest : List ℕ) → Gap form bytes → blanks form (bytes ++ rest) ≡ length bytes + blanks form rest
unfolding blanks
blanks_run form [] rest p = omega arith
blanks_run form (b ∷ bytes) rest p = rw p.0 (omega (arith, blanks_run form bytes rest p.1))

blanks_none : (form : Form) (bytes rest : List ℕ) → High bytes → 1 ≤ length bytes → blanks form (bytes ++ rest) ≡ 0
unfolding blanks
blanks_none form [] rest p h = absurd (omega arith)
blanks_none form (b ∷ bytes) rest p h = rw (high_between form b p.0)

token_run : (bytes rest : List ℕ) → High bytes → Ends rest → token (bytes ++ rest) ≡ bytes
unfolding token
token_run [] [] p q = refl
token_run [] (b ∷ rest) p q = rw q
token_run (b ∷ bytes) rest p q = rw (high_blank b p.0) (ap (λ (l : List ℕ). b ∷ l) (token_run bytes rest p.1 q))

-- ONE ITEM. From a place on stand a gap, the number, and what ends it: the token is right, and reading goes on at what ends it.

module _ (form : Form) (text : List ℕ) (at : ℕ) where
  past : (bytes rest : List ℕ) → drop at text ≡ bytes ++ rest → drop (at + length bytes) text ≡ rest
  past bytes rest e = sym (drop-drop (length bytes) at text) ∙ ap (drop (length bytes)) e ∙ drop-append_seam bytes rest

  module _ (before rest : List ℕ) (n : ℕ) (b : Gap form before) (q : Ends rest) (e : drop at text ≡ before ++ (decimal n ++ rest)) where
    start_is : start form text at ≡ at + length before
    unfolding start decimal
    start_is =
        rw e
        (omega (arith, blanks_run form before (decimal n ++ rest) b, blanks_none form (decimal n) rest (digits_high n n).0 (digits_high n n).1))

    token_is : token_at text (start form text at) ≡ decimal n
    unfolding token_at decimal
    token_is = rw (start_is, past before (decimal n ++ rest) e) (token_run (decimal n) rest (digits_high n n).0 q)

    right_is : right form text at (numeral n) ≡ true
    right_is = rw token_is ((same_exactly (decimal n) (decimal n)).1 refl)

    stop_is : stop form text at ≡ at + length (before ++ decimal n)
    stop_is = rw token_is (omega (arith, start_is, length-append before (decimal n)))

    goes_on : drop (stop form text at) text ≡ rest
    goes_on = rw stop_is (past (before ++ decimal n) rest (e ∙ sym (append_assoc before (decimal n) rest)))

    pub read_one : (xs : List Item) → mismatch form text at (numeral n ∷ xs) ≡ mismatch form text (stop form text at) xs
    unfolding mismatch
    read_one xs = rw right_is

-- the same of a line feed, in the unpadded form
module _ (text : List ℕ) (at : ℕ) (before rest : List ℕ) (b : Gap Unpadded before) (e : drop at text ≡ before ++ 10 ∷ rest) where
  feed_is : start Unpadded text at ≡ at + length before
  unfolding start blanks between
  feed_is = rw e (omega (arith, blanks_run Unpadded before (10 ∷ rest) b))

  feed_byte : get_or text (at + length before) 0 ≡ 10
  feed_byte = sym (get_or-drop at text (length before) 0) ∙ ap (λ (l : List ℕ). get_or l (length before) 0) e ∙ get_or-append_seam before 10 rest 0

  feed_past : drop (start Unpadded text at + 1) text ≡ rest
  feed_past =
      let n : start Unpadded text at + 1 ≡ at + length (before ++ 10 ∷ []) = omega (arith, feed_is, length-append before (10 ∷ [])) in
      rw n (past Unpadded text at (before ++ 10 ∷ []) rest (e ∙ sym (append_assoc before (10 ∷ []) rest)))

  pub read_feed : (xs : List Item) → mismatch Unpadded text at (line_end ∷ xs) ≡ mismatch Unpadded text (start Unpadded text at + 1) xs
  unfolding mismatch
  read_feed xs = rw (ap (λ (k : ℕ). get_or text k 0) feed_is ∙ feed_byte)

-- THE LINES

line_from_ends : (k : ℕ) (ns rest : List ℕ) → Ends (line_from (suc k) ns ++ rest)
unfolding line_from item blank
line_from_ends k [] rest = refl
line_from_ends k (n ∷ ns) rest = refl

module _ (form : Form) (text : List ℕ) where
  Reads : List ℕ → List Item → Type 0
  Reads left xs = (at : ℕ) (before : List ℕ) → Gap form before → drop at text ≡ before ++ left → mismatch form text at xs ≡ None

  -- a number that a line goes on after
  reads_number : (n k : ℕ) (ns rest : List ℕ) (xs : List Item) → Reads (line_from (suc k) ns ++ rest) (line_items form ns ++ xs) → Reads (decimal n ++ (line_from (suc k) ns ++ rest)) (line_items form (n ∷ ns) ++ xs)
  unfolding Reads
  reads_number n k ns rest xs more at before b e =
      let left = line_from (suc k) ns ++ rest in
      let ends = line_from_ends k ns rest in
      read_one form text at before left n b ends e (line_items form ns ++ xs) ∙ more (stop form text at) [] tt (goes_on form text at before left n b ends e)

  -- one byte more in the gap before what is left
  reads_blank : (c : ℕ) (left : List ℕ) (xs : List Item) → between form c ≡ true → Reads left xs → Reads (c ∷ left) xs
  unfolding Reads
  reads_blank c left xs q more at before b e = more at (before ++ c ∷ []) (gap_more form before c b q) (e ∙ sym (append_assoc before (c ∷ []) left))

-- the end of a line
reads_end : (form : Form) (text rest : List ℕ) (xs : List Item) → Reads form text rest xs → Reads form text (10 ∷ rest) (line_items form [] ++ xs)
unfolding between blank Reads
reads_end Padded text rest xs more at before b e = reads_blank Padded text 10 rest xs refl more at before b e
reads_end Unpadded text rest xs more at before b e =
    read_feed text at before rest b e xs ∙ more (start Unpadded text at + 1) [] tt (feed_past text at before rest b e)

space_between : (form : Form) → between form 32 ≡ true
unfolding between blank
space_between Padded = refl
space_between Unpadded = refl

module _ (form : Form) (text : List ℕ) where
  reads_line : (rest : List ℕ) (xs : List Item) → Reads form text rest xs → (ns : List ℕ) (k : ℕ) → Reads form text (line_from k ns ++ rest) (line_items form ns ++ xs)
  unfolding line_from item
  reads_line rest xs more [] k = reads_end form text rest xs more
  reads_line rest xs more (n ∷ ns) zero =
      rw (append_assoc (decimal n) (line_from 1 ns) rest) (reads_number form text n 0 ns rest xs (reads_line rest xs more ns 1))
  reads_line rest xs more (n ∷ ns) (suc k) =
      reads_blank form text 32 ((decimal n ++ line_from (suc (suc k)) ns) ++ rest) (line_items form (n ∷ ns) ++ xs) (space_between form)
      (rw (append_assoc (decimal n) (line_from (suc (suc k)) ns) rest) (reads_number form text n (suc k) ns rest xs (reads_line rest xs more ns (suc (suc k)))))

  reads_lines : (lines : List (List ℕ)) → Reads form text (text_of lines) (items_of form lines)
  unfolding Reads text_of items_of mismatch start blanks
  reads_lines [] at before b e =
      let whole = length-drop at text in
      let same = ap length (e ∙ append-nil before) in
      let run = ap (blanks form) e ∙ blanks_run form before [] b in
      rw (le-ltb (at + blanks form (drop at text)) (length text) (omega (arith, whole, same, run)))
  reads_lines (line ∷ lines) at before b e = reads_line (text_of lines) (items_of form lines) (reads_lines lines) line 0 at before b e

-- any lines read back as themselves, in either form
pub reads_back : (form : Form) (lines : List (List ℕ)) → mismatch form (text_of lines) 0 (items_of form lines) ≡ None
unfolding Reads
reads_back form lines = reads_lines form (text_of lines) lines 0 [] tt refl
