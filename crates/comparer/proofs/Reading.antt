-- Laws of reading: the lines in turn, the first one through a reader. Assumes nothing.
use Rattle.std.specs.Prelude.{Result, Ok, Err, None, Some}
use Rattle.refusal.specs.Answer.{ok_unless}
use Prim.Native.Nat.{ℕ, ◌≤◌, ◌<◌}
use mathlib.Core.Path.{◌≡◌, refl, sym, ap, ◌∙◌}
use mathlib.Core.Bool.{Bool, cond}
use mathlib.Core.List.{List, [], ◌∷◌, ◌++◌}
use native.Mathlib.Omega.{arith}
use lib.Dec.{ltb}
use lib.IntN.{ℤ}
use lib.ListN.{length, drop}
use borrow.Author.Tests.{lt-ltb, le-ltb}
use Rattle.graph.specs.Graph.{Bipartite}
use Rattle.exponent.specs.declared.Shape.{Shape}
use Rattle.exponent.specs.Tanner.{graph_of}
use Rattle.tokens.specs.declared.Form.{Form}
use Rattle.tokens.specs.declared.Cursor.{Cursor}
use Rattle.tokens.specs.Tokens.{Item, numeral, ending, start, mismatch}
use Rattle.tokens.specs.Steps.{read_line, mismatch_after}
use Rattle.tokens.proofs.Reading.{step_mismatch, read_append, past_number}
use Rattle.weights.specs.declared.Side.TheVariants.{Bits, Checks}
use Rattle.lines.specs.declared.Line.TheVariants.{Sizes}
use Rattle.lines.specs.Alist.{degrees, greatest, lines_in}
use Rattle.lines.specs.Sides.{node_count}
use Rattle.lines.specs.Lines.{order}
use Rattle.lines.specs.Text.{line_items, items_of}
use Rattle.lines.proofs.Lanes.{nodes_of_law}
use Rattle.lines.proofs.Rest.{lines_from, lines_start, lines_next}
use Rattle.comparer.specs.Later.{later_lines}

module _ (form : Form) (text : List ℕ) where
  -- a line that is right, and one with a token that is wrong or missing
  module _ (at : ℕ) (line : List ℕ) (left later : List (List ℕ)) (q : left ≡ line ∷ later) where
    by_line : mismatch form text at (items_of form left) ≡ mismatch_after form text (read_line form text at (line_items form line)) (items_of form later)
    unfolding items_of
    by_line = rw q (read_append form text (line_items form line) (items_of form later) at)

    pub line_right : (c : Cursor) → Ok c ≡ read_line form text at (line_items form line) → mismatch form text at (items_of form left) ≡ mismatch form text c.at (items_of form later)
    line_right c e = by_line ∙ ap (λ (s : Result Cursor ℕ). mismatch_after form text s (items_of form later)) (sym e)

    pub line_wrong : (k : ℕ) → Err k ≡ read_line form text at (line_items form line) → mismatch form text at (items_of form left) ≡ Some k
    line_wrong k e = by_line ∙ ap (λ (s : Result Cursor ℕ). mismatch_after form text s (items_of form later)) (sym e)

  -- past the last line
  module _ (at s : ℕ) (p : s ≡ start form text at) (left : List (List ℕ)) (q : left ≡ []) where
    at_end : mismatch form text at (items_of form left) ≡ cond (ltb s (length text)) (Some s) None
    unfolding mismatch items_of
    at_end = ap (λ (ls : List (List ℕ)). mismatch form text at (items_of form ls)) q ∙ ap (λ (k : ℕ). cond (ltb k (length text)) (Some k) None) (sym p)

    pub extra : s < length text → mismatch form text at (items_of form left) ≡ Some s
    extra h = at_end ∙ ap (λ (t : Bool). cond t (Some s) None) (lt-ltb s (length text) h)

    pub agrees : length text ≤ s → mismatch form text at (items_of form left) ≡ None
    agrees h = at_end ∙ ap (λ (t : Bool). cond t (Some s) None) (le-ltb s (length text) h)

  -- past the text's end the first number is missing
  past_first : (at n : ℕ) (xs : List Item) → length text < at → Err at ≡ ok_unless (mismatch form text at (numeral n ∷ xs))
  past_first at n xs h =
      ap ok_unless (ap (λ (s : Result Cursor ℕ). mismatch_after form text s xs) (past_number form text at n h) ∙ sym (step_mismatch form text at (numeral n) xs))

  pub past_end : (at : ℕ) (G : Bipartite) → length text < at → Err at ≡ ok_unless (mismatch form text at (items_of form (later_lines form G)))
  unfolding items_of lines_in
  past_end at G h = past_first at (greatest (degrees G Bits)) _ h

-- THE FIRST LINE, and the lines behind it.

module _ (form : Form) (plan : List ℤ) (s : Shape) where
  pub lines_later : lines_from form plan s 1 ≡ later_lines form (graph_of plan s)
  unfolding order
  lines_later = ap (drop 1) (sym (lines_next form plan s 0 Sizes (omega arith) refl) ∙ lines_start form plan s)

  pub first_line : (bits checks : ℕ) → bits ≡ node_count s Bits → checks ≡ node_count s Checks
      → numeral bits ∷ numeral checks ∷ ending form ++ items_of form (later_lines form (graph_of plan s)) ≡ items_of form (lines_in form (graph_of plan s))
  unfolding items_of lines_in
  first_line bits checks p q = rw (p ∙ sym (nodes_of_law plan s Bits), q ∙ sym (nodes_of_law plan s Checks))
