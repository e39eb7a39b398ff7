-- Laws of the end of a round: a marked byte says whether its bit is turned and what it becomes. Assumes nothing.
use Prim.Native.Nat.{ℕ, ◌+◌, ◌*◌, ◌%◌, ◌≤◌, ◌<◌}
use mathlib.Core.Path.{◌≡◌, refl, sym, ap, ◌∙◌}
use mathlib.Core.Bool.{Bool}
use mathlib.Core.List.{List, map}
use native.Mathlib.Omega.{arith}
use borrow.Author.Tests.{lt-ltb, le-ltb}
use lib.Dec.{ltb}
use lib.ListN.{length, get_or, set, length-set}
use lib.Seq.{get_or-set_same, get_or-set_other, ext_get_or}
use Rattle.graph.specs.Count.{range, below, one, count}
use Rattle.graph.specs.Graph.{Bipartite}
use Rattle.graph.specs.Flipping.{odd_checks, flips, flipped_bit, flipped_word, flipped_count}
use Rattle.graph.proofs.Decide.{by_eq, by_le}
use Rattle.graph.proofs.Count.{length_range, count_le, count_same, count_last, get_or_map_below, length_map_below}
use Rattle.graph.proofs.Neighbours.{mem_below}
use Rattle.graph.proofs.Flipping.{odd_count}
use Rattle.flipping.specs.Work.{MarkedTo, is_flipped, unmarked, Unmarked}

pub unmarked_none : (p : List ℕ) → Unmarked p p 0 0
unfolding count range
unmarked_none p = record { same_length = refl; front = λ b h. absurd (omega arith); back = λ b h. refl; number = refl }

pub unmarked_few : {p q : List ℕ} {n k : ℕ} → Unmarked p q n k → n ≤ k
unmarked_few {p} {k = k} u = omega (arith, u.number, count_le (λ b. is_flipped (get_or p b 0)) (below k), length_range 0 k)

-- one byte more
pub unmarked_more : (p q : List ℕ) (n k x m : ℕ) → Unmarked p q n k → k < length q → x ≡ unmarked (get_or q k 0) → m ≡ n + one (is_flipped (get_or q k 0))
    → Unmarked p (set q k x) m (k + 1)
unmarked_more p q n k x m u h e f =
    let here = u.back k (omega arith) in
    record {
      same_length = length-set q k x ∙ u.same_length;
      front = λ b l.
          by_eq b k
          (λ s. rw s (get_or-set_same q k x 0 h ∙ e ∙ ap unmarked here))
          (λ s. get_or-set_other q k b x 0 s ∙ u.front b (omega arith));
      back = λ b l. get_or-set_other q k b x 0 (λ s. omega arith) ∙ u.back b (omega arith);
      number = f ∙ ap (λ (y : ℕ). n + one (is_flipped y)) here ∙ omega (arith, u.number, count_last (λ b. is_flipped (get_or p b 0)) k);
    }

-- a bit v with k marks
told : (v k x : ℕ) → v < 2 → x ≡ v + 2 * k → is_flipped x ≡ ltb 1 k
told v k x h e =
    by_le k 1
    (λ l. le-ltb 3 x (omega arith) ∙ sym (le-ltb 1 k l))
    (λ l. lt-ltb 3 x (omega arith) ∙ sym (lt-ltb 1 k l))

becomes : (v k x : ℕ) → v < 2 → x ≡ v + 2 * k → unmarked x ≡ flipped_bit (ltb 1 k) v
becomes v k x h e =
    let bit : x % 2 ≡ v = omega arith in
    ap (λ (t : Bool). flipped_bit t (x % 2)) (told v k x h e) ∙ ap (flipped_bit (ltb 1 k)) bit

-- THE ROUND: once all checks have been looked at, what is left is the flipped word, and the count that of the turned bits
module _ (G : Bipartite) (w q r : List ℕ) (n : ℕ) (known : (b : ℕ) → b < length w → get_or w b 0 < 2) (m : MarkedTo G w q G.checks) (u : Unmarked q r n (length q)) where
  marks : (b : ℕ) → b < length w → get_or q b 0 ≡ get_or w b 0 + 2 * odd_checks G w b
  marks b h = omega (arith, m.bytes b h, odd_count G w b)

  pub round_count : n ≡ flipped_count G w
  unfolding flipped_count
  round_count =
      u.number
      ∙ ap (λ (n : ℕ). count (λ b. is_flipped (get_or q b 0)) (below n)) m.same_length
      ∙ count_same (λ b. is_flipped (get_or q b 0)) (flips G w) (below (length w)) λ b i.
      let h = mem_below b (length w) i in
      told (get_or w b 0) (odd_checks G w b) (get_or q b 0) (known b h) (marks b h)

  pub round_word : r ≡ flipped_word G w
  unfolding flipped_word
  round_word =
      let bit : ℕ → ℕ = λ b. flipped_bit (flips G w b) (get_or w b 0) in
      ext_get_or 0 r (map bit (below (length w))) (u.same_length ∙ m.same_length ∙ sym (length_map_below bit (length w))) λ b h.
      let k : b < length w = omega (arith, u.same_length, m.same_length) in
      u.front b (omega (arith, m.same_length)) ∙ becomes (get_or w b 0) (odd_checks G w b) (get_or q b 0) (known b k) (marks b k) ∙ sym (get_or_map_below 0 bit (length w) b k)
