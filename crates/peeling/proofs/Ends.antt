-- The end of the work: without its marks the word is what it was, where a check without an erasure is odd, and else the filled word.
-- Assumes nothing.
use Rattle.std.specs.Prelude.{Result, Ok, Err}
use Prim.Native.Nat.{ℕ, ◌%◌, ◌≤◌}
use mathlib.Core.Path.{◌≡◌, refl, sym, ap, ap₂, ◌∙◌, fun_ext}
use mathlib.Core.Logic.{◌≢◌}
use mathlib.Core.Bool.{Bool, true, false, ◌&&◌}
use mathlib.Core.List.{List}
use native.Mathlib.Omega.{arith}
use borrow.Author.Tests.{eqb-false, ne_eqb}
use lib.Dec.{eqb}
use lib.ListN.{length, get_or}
use lib.Seq.{ext_get_or}
use Rattle.refusal.specs.declared.Refusal.TheVariants.{NoSolution}
use Rattle.graph.specs.Count.{below, count}
use Rattle.graph.specs.Graph.{Bipartite, bits_of}
use Rattle.graph.specs.Stopping.{Stopping}
use Rattle.graph.specs.Erasure.{erased, parity, any, largest}
use Rattle.graph.specs.Filling.{Derived, filled_word, odd_check, clash, erasures, filled_count, left_count}
use Rattle.graph.proofs.Decide.{by_le}
use Rattle.graph.proofs.Count.{count_none}
use Rattle.graph.proofs.Peeling.{erasures_count, filled_and_left}
use Rattle.graph.proofs.Filling.{Completes, total_none, derived_start, left_largest, ends_filled, ends_clash}
use Rattle.worklist.specs.Work.{unmarked, Working, Peeled}
use Rattle.worklist.proofs.Unmarking.{unmarked_low, unmarked_high}
use Rattle.refusal.specs.declared.Refusal.{Refusal}
use Rattle.peeling.specs.declared.Filling.{Filling}
use Rattle.peeling.specs.Fill.{filling, filled_or}

-- the answer with two counts
abbrev pub counted : ℕ → ℕ → Result Filling Refusal
counted n m = Ok (record { filled = n; left = m })

-- a byte of the work, kept: it is an erasure where it was, its parity stays, and it is what it was or a filled erasure
record Kept (x : ℕ) : Type 0 where
  erasure : eqb (unmarked true x) 2 ≡ eqb x 2
  bit : unmarked true x % 2 ≡ x % 2
  known : unmarked false x ≢ 2 → unmarked true x ≡ unmarked false x
  small : unmarked false x ≤ 2 → unmarked true x ≤ 2

kept_byte : (x : ℕ) → x ≤ 5 → Kept x
kept_byte x h =
    by_le 4 x
    (λ l.
    let on = unmarked_high true x l in
    let off = unmarked_high false x l in
    record {
      erasure = ne_eqb (unmarked true x) 2 (λ e. omega arith) ∙ sym (ne_eqb x 2 (λ e. omega arith));
      bit = omega arith;
      known = λ n. absurd (n off);
      small = λ s. omega arith;
    })
    (λ l.
    let on = unmarked_low true x l in
    let off = unmarked_low false x l in
    record {
      erasure = ap (λ (y : ℕ). eqb y 2) on;
      bit = omega arith;
      known = λ n. on ∙ sym off;
      small = λ s. omega arith;
    })

-- a word whose erasures are U has as many as are left
erasures_left : (G : Bipartite) (w u : List ℕ) → erased u ≡ largest G w → length u ≡ length w → erasures u ≡ left_count G w
unfolding left_count
erasures_left G w u e l = erasures_count u ∙ ap₂ (λ (f : ℕ → Bool) (k : ℕ). count f (below k)) e l

module _ {G : Bipartite} {w p : List ℕ} {n : ℕ} (done : Peeled G w p n 0) (bytes : (b : ℕ) → get_or w b 0 ≤ 2) where
  work : Working G w p
  work =
      done.worked.work w
      (record {
        derived = derived_start G w;
        marks = λ b. let s = bytes b in unmarked_low false (get_or w b 0) (omega arith);
        small = λ b. let s = bytes b in omega arith;
      })

  -- the erasures that stay are U
  lost : erased p ≡ largest G w
  unfolding Stopping
  lost = left_largest G w p work.derived (done.stops refl)

  -- a clash: the answer is refusal 20, and the word is put back
  module _ (e : clash G p ≡ true) where
    pub refused_answer : Err NoSolution ≡ filling G w
    unfolding filling
    refused_answer = rw (ends_clash G w p work.derived e)

    pub refused_word : (q : List ℕ) → length q ≡ length p → ((b : ℕ) → get_or q b 0 ≡ unmarked false (get_or p b 0)) → q ≡ filled_or G w
    unfolding filled_or
    refused_word q len h =
        rw (ends_clash G w p work.derived e)
        (ext_get_or 0 q w (len ∙ done.worked.same_length) (λ b l. h b ∙ work.marks b))

  -- no clash: the marked bytes become bits
  module _ (e : clash G p ≡ false) (q : List ℕ) (len : length q ≡ length p) (h : (b : ℕ) → get_or q b 0 ≡ unmarked true (get_or p b 0)) where
    kept : (b : ℕ) → Kept (get_or p b 0)
    kept b = kept_byte (get_or p b 0) (work.small b)

    erased_same : erased q ≡ erased p
    erased_same = fun_ext λ b. ap (λ (x : ℕ). eqb x 2) (h b) ∙ (kept b).erasure

    bit_same : (b : ℕ) → get_or q b 0 % 2 ≡ get_or p b 0 % 2
    bit_same b = ap (λ (x : ℕ). x % 2) (h b) ∙ (kept b).bit

    derived_same : Derived G w q
    derived_same =
        let d = work.derived in
        let same : (b : ℕ) → erased q b ≡ erased p b = λ b. ap (λ (f : ℕ → Bool). f b) erased_same in
        record {
          same_length = len ∙ d.same_length;
          within = λ b l. d.within b (sym (same b) ∙ l);
          keeps = λ b s. same b ∙ d.keeps b s;
          agrees = λ v sol b l. d.agrees v sol b (sym (same b) ∙ l) ∙ sym (bit_same b);
        }

    completes : Completes w q
    completes =
        record {
          kept = λ b l. h b ∙ (kept b).known (λ z. eqb-false (get_or w b 0) 2 l (sym (work.marks b) ∙ z)) ∙ work.marks b;
          small = λ b l. omega (arith, h b, (kept b).small (omega (arith, work.marks b, bytes b)));
        }

    parity_same : (c : ℕ) → parity G q c ≡ parity G p c
    unfolding parity
    parity_same c = total_none q p (λ _. false) (λ b _. bit_same b) (bits_of G c) (count_none (λ _. false) (bits_of G c) (λ b _. refl))

    clash_same : clash G q ≡ clash G p
    unfolding clash odd_check
    clash_same =
        ap (any G.checks) (fun_ext λ c.
        ap₂ (λ (f : ℕ → Bool) (x : ℕ). eqb (count f (bits_of G c)) 0 && eqb x 1) erased_same (parity_same c))

    stops : Stopping G (erased q)
    unfolding Stopping
    stops = rw erased_same (done.stops refl)

    ends : (clash G (filled_word G w) ≡ false) × (q ≡ filled_word G w)
    ends = ends_filled G w q derived_same completes stops (clash_same ∙ e)

    pub filled_word_law : q ≡ filled_or G w
    unfolding filled_or
    filled_word_law = ends.1 ∙ rw ends.0

    pub filled_answer : counted n (erasures q) ≡ filling G w
    unfolding filling
    filled_answer =
        let left = erasures_left G w q (erased_same ∙ lost) (len ∙ done.worked.same_length) in
        let filled : n ≡ filled_count G w =
        omega (arith, filled_and_left G w, done.worked.fewer, erasures_left G w p lost done.worked.same_length) in
        ap₂ counted filled left ∙ rw ends.0
