-- Laws of marks, one block at a time, and of all the bits of a check. Assumes nothing.
use Prim.Native.Nat.{ℕ, ◌+◌, ◌-◌, ◌*◌, ◌/◌, ◌%◌, ◌≤◌, ◌<◌}
use mathlib.Core.Path.{◌≡◌, refl, sym, ap, subst, ◌∙◌}
use mathlib.Core.List.{List, [], ◌∷◌, ◌++◌}
use Rattle.std.specs.Prelude.{Option}
use native.Mathlib.Omega.{arith}
use native.Mathlib.Nat.{mod-lt, div-add-mod'}
use borrow.Author.Tests.{eq-eqb, ne_eqb}
use lib.Dec.{eqb}
use lib.IntN.{ℤ}
use lib.ListN.{length, get_or, set, length-set}
use lib.Seq.{get_or-set_same, get_or-set_other}
use Rattle.graph.specs.Count.{range, below, one, count, member, Nodup}
use Rattle.graph.specs.Graph.{bits_of}
use Rattle.graph.proofs.Decide.{by_bool, by_eq}
use Rattle.graph.proofs.Lists.{nodup_left}
use Rattle.graph.proofs.Count.{range_append, count_append, count_is}
use Rattle.graph.proofs.Neighbours.{bits_nodup}
use Rattle.exponent.specs.declared.block.Block.{Block}
use Rattle.exponent.specs.declared.block.Block.TheVariants.{Shift}
use Rattle.exponent.specs.declared.Shape.{Shape}
use Rattle.exponent.specs.Plan.{block_at}
use Rattle.exponent.specs.Tanner.{graph_of}
use Rattle.exponent.specs.Neighbours.{gather, bit_in}
use Rattle.exponent.proofs.Blocks.{gather_append, gather_last, gather_skip}
use Rattle.exponent.proofs.Tanner.{bits_of_check}
use Rattle.index.specs.Index.{NextFrom, filled_at}
use Rattle.syndrome.proofs.Scanning.{pick, row_bits, no_bit, not_filled}
use Rattle.flipping.specs.Work.{AtMost, Marked}

pub marked_none : (p : List ℕ) → Marked p [] p
unfolding count
marked_none p = record { same_length = refl; bytes = λ b h. omega arith }

marked_one : (p : List ℕ) (at : ℕ) → at < length p → Marked p (at ∷ []) (set p at (get_or p at 0 + 2))
unfolding count
marked_one p at low =
    let x = get_or p at 0 + 2 in
    record {
      same_length = length-set p at x;
      bytes = λ b h.
          by_eq at b
          (λ e. rw (eq-eqb at b e) (subst (λ (k : ℕ). get_or (set p at x) k 0 ≡ get_or p k 0 + 2 * (1 + 0)) e (get_or-set_same p at x 0 low ∙ omega arith)))
          (λ e. rw (ne_eqb at b e) (get_or-set_other p at b x 0 (λ q. e (sym q)) ∙ omega arith));
    }

marked_then : (p q r xs ys : List ℕ) → Marked p xs q → Marked q ys r → Marked p (xs ++ ys) r
marked_then p q r xs ys m n =
    record {
      same_length = n.same_length ∙ m.same_length;
      bytes = λ b h. omega (arith, m.bytes b h, n.bytes b (omega (arith, m.same_length)), count_append (λ x. eqb x b) xs ys);
    }

-- one block: nothing where it is not filled, else the bit that it has
pub marked_empty : (p : List ℕ) (b : Block) (lift y j : ℕ) → ((e : ℕ) → b ≡ Shift e → ⊥) → Marked p (gather lift (λ _. bit_in lift y b) (j ∷ [])) p
unfolding gather
marked_empty p b lift y j n =
    subst (λ (o : Option ℕ). Marked p (gather lift (λ _. o) (j ∷ [])) p) (sym (no_bit lift y b (not_filled b n))) (marked_none p)

pub marked_shift : (p : List ℕ) (b : Block) (lift y j e : ℕ) → b ≡ Shift e → j * lift + (y + e) % lift < length p
    → Marked p (gather lift (λ _. bit_in lift y b) (j ∷ [])) (set p (j * lift + (y + e) % lift) (get_or p (j * lift + (y + e) % lift) 0 + 2))
unfolding gather
marked_shift p b lift y j e q h = rw q (marked_one p (j * lift + (y + e) % lift) h)

module _ (plan : List ℤ) (s : Shape) (p q : List ℕ) where
  -- columns that are not filled are passed over
  pub marked_skip : (i y j col : ℕ) → NextFrom (filled_at plan s i) j s.cols col → Marked p (row_bits plan s i y j) q → Marked p (row_bits plan s i y col) q
  marked_skip i y j col n =
      subst (λ (l : List ℕ). Marked p l q)
      (sym (gather_skip s.lift (pick plan s i y) j col n.from_here (λ k a b. no_bit s.lift y (block_at plan s.cols s.lift i k) (n.none_between k a b))))

  -- one column more
  pub marked_block : (i y j : ℕ) (b : Block) (r : List ℕ) → b ≡ block_at plan s.cols s.lift i j → Marked q (gather s.lift (λ _. bit_in s.lift y b) (j ∷ [])) r
      → Marked p (row_bits plan s i y j) q → Marked p (row_bits plan s i y (j + 1)) r
  unfolding gather
  marked_block i y j b r e m before =
      subst (λ (l : List ℕ). Marked p l r) (sym (gather_last s.lift (pick plan s i y) j))
      (marked_then p q r (row_bits plan s i y j) (gather s.lift (pick plan s i y) (j ∷ [])) before
      (subst (λ (x : Block). Marked q (gather s.lift (λ _. bit_in s.lift y x) (j ∷ [])) r) e m))

  -- all columns
  pub marked_row : (c j : ℕ) → 0 < s.lift → j ≡ s.cols → Marked p (row_bits plan s (c / s.lift) (c % s.lift) j) q → Marked p (bits_of (graph_of plan s) c) q
  marked_row c j h e =
      subst (λ (l : List ℕ). Marked p l q)
      (ap (row_bits plan s (c / s.lift) (c % s.lift)) e
      ∙ sym (bits_of_check plan s.rows s.cols s.lift h (c / s.lift) (c % s.lift) (mod-lt c h))
      ∙ ap (bits_of (graph_of plan s)) (div-add-mod' c s.lift))

  -- a check has no bit twice, so no byte has more than one mark more
  pub row_room : (i y j n : ℕ) → 0 < s.lift → y < s.lift → j ≤ s.cols → AtMost n p → Marked p (row_bits plan s i y j) q → AtMost (n + 2) q
  row_room i y j n h y-low k most m b l =
      let row : List ℕ = row_bits plan s i y j in
      let rest : List ℕ = gather s.lift (pick plan s i y) (range (0 + j) (s.cols - j)) in
      let split : row_bits plan s i y s.cols ≡ row ++ rest =
      ap (λ (n : ℕ). gather s.lift (pick plan s i y) (range 0 n)) (let e : s.cols ≡ j + (s.cols - j) = omega arith in e)
      ∙ ap (gather s.lift (pick plan s i y)) (range_append 0 j (s.cols - j))
      ∙ gather_append s.lift (pick plan s i y) (below j) (range (0 + j) (s.cols - j)) in
      let distinct : Nodup (row ++ rest) =
      subst Nodup (bits_of_check plan s.rows s.cols s.lift h i y y-low ∙ split) (bits_nodup (graph_of plan s) (i * s.lift + y)) in
      let low : b < length p = omega (arith, m.same_length) in
      let times = count_is b row (nodup_left row rest distinct) in
      by_bool (member b row)
      (λ e. omega (arith, m.bytes b low, most b low, times, ap one e))
      (λ e. omega (arith, m.bytes b low, most b low, times, ap one e))
