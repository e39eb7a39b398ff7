-- Steps of the work: filling one forced erasure, and what steps one after another, checks and passes come to.
-- Assumes nothing.
use Prim.Native.Nat.{ℕ, ◌+◌, ◌%◌, ◌≤◌, ◌<◌}
use mathlib.Core.Path.{◌≡◌, refl, sym, ap, ◌∙◌}
use mathlib.Core.Logic.{◌≢◌}
use mathlib.Core.Bool.{false, true}
use mathlib.Core.List.{List}
use native.Mathlib.Omega.{arith}
use borrow.Author.Tests.{eqb-true, ne_eqb}
use lib.Dec.{eqb}
use lib.ListN.{length, get_or, set, length-set}
use lib.Seq.{get_or-set_same, get_or-set_other}
use Rattle.graph.specs.Count.{below, count, Mem}
use Rattle.graph.specs.Graph.{Bipartite, bits_of}
use Rattle.graph.specs.Erasure.{erased, total, parity}
use Rattle.graph.specs.Filling.{erasures}
use Rattle.graph.proofs.Decide.{by_eq, by_le}
use Rattle.graph.proofs.Count.{nodup_range, count_le, count_less}
use Rattle.graph.proofs.Neighbours.{below_mem}
use Rattle.graph.proofs.Peeling.{erased_low, erasures_count}
use Rattle.graph.proofs.Filling.{derived_set}
use Rattle.worklist.specs.Work.{unmarked, Worked, Passed, Peeled}
use Rattle.worklist.proofs.Unmarking.{unmarked_high}

module _ {G : Bipartite} where
  pub worked_none : {p : List ℕ} → Worked G p p 0
  worked_none = record { same_length = refl; work = λ w h. h; fewer = omega arith }

  pub worked_then : {p q r : List ℕ} {m n : ℕ} → Worked G p q m → Worked G q r n → Worked G p r (m + n)
  worked_then x y =
      record {
        same_length = y.same_length ∙ x.same_length;
        work = λ w h. y.work w (x.work w h);
        fewer = omega (arith, x.fewer, y.fewer);
      }

  -- no more bits are filled than there are
  pub worked_few : {p q : List ℕ} {n : ℕ} → Worked G p q n → n ≤ length p
  unfolding erasures
  worked_few {p} x = omega (arith, x.fewer, count_le (λ b. eqb b 2) p)

  pub worked_room : {p q r : List ℕ} {m n : ℕ} → Worked G p q m → Worked G q r n → m + n ≤ length p
  worked_room x y = worked_few (worked_then x y)

  -- the only erasure of a check is filled with the check's parity
  pub fill_one : (c b : ℕ) {p : List ℕ} → c < G.checks → count (erased p) (bits_of G c) ≡ 1 → Mem b (bits_of G c) → erased p b ≡ true
      → Worked G p (set p b (4 + total p (bits_of G c) % 2)) 1
  unfolding parity
  fill_one c b {p} low once m l =
      record {
        same_length = length-set p b x;
        work = λ w h.
            record {
              derived = derived_set G w p h.derived c low once b m x l (omega arith);
              marks = λ a.
                  by_eq a b
                  (λ e. rw e (ap (unmarked false) here ∙ unmarked_high false x (omega arith) ∙ sym (ap (unmarked false) (eqb-true (get_or p b 0) 2 l)) ∙ h.marks b))
                  (λ e. rw (other a e) (h.marks a));
              small = λ a. by_eq a b (λ e. rw (e, here) (omega arith)) (λ e. rw (other a e) (h.small a));
            };
        fewer =
            omega (
              arith,
              erasures_count p,
              erasures_count q,
              ap (λ (k : ℕ). count (erased q) (below k)) (length-set p b x),
              count_less (erased p) (erased q) b l (ne_eqb (get_or q b 0) 2 (λ e. omega (arith, here))) (λ a e. ap (λ (y : ℕ). eqb y 2) (other a e))
                  (below (length p)) (nodup_range 0 (length p)) (below_mem b (length p) (erased_low p b l)),
            );
      }
    where
      x : ℕ
      x = 4 + total p (bits_of G c) % 2

      q : List ℕ
      q = set p b x

      here : get_or q b 0 ≡ x
      here = get_or-set_same p b x 0 (erased_low p b l)

      other : (a : ℕ) → a ≢ b → get_or q a 0 ≡ get_or p a 0
      other a e = get_or-set_other p b a x 0 e

  -- Checks looked at

  pub passed_skip : {a : ℕ} {p q : List ℕ} → count (erased p) (bits_of G a) ≢ 1 → q ≡ p → Passed G a (a + 1) p q 0
  passed_skip {a} {p} n e =
      rw e
      (record {
        worked = worked_none;
        idle = λ z. (refl, λ c l h k. n (ap (λ (i : ℕ). count (erased p) (bits_of G i)) (let q : a ≡ c = omega arith in q) ∙ k));
      })

  pub passed_filled : {a b n : ℕ} {p q : List ℕ} → Worked G p q n → 0 < n → Passed G a b p q n
  passed_filled x h = record { worked = x; idle = λ z. absurd (omega arith) }

  pub passed_then : {a b d : ℕ} {p q r : List ℕ} {m n : ℕ} → Passed G a b p q m → Passed G b d q r n → Passed G a d p r (m + n)
  passed_then {b = b} x y =
      record {
        worked = worked_then x.worked y.worked;
        idle = λ z.
            let xi = x.idle (omega arith) in
            let yi = y.idle (omega arith) in (
              yi.0 ∙ xi.0,
              λ c l h e.
                  by_le b c
                  (λ k. yi.1 c k h (ap (λ (s : List ℕ). count (erased s) (bits_of G c)) xi.0 ∙ e))
                  (λ k. xi.1 c l k e),
            );
      }

  -- Passes

  pub peeled_then : {p q r : List ℕ} {n m k : ℕ} → Peeled G p q n m → Passed G 0 G.checks q r k → Peeled G p r (n + k) k
  peeled_then x y =
      record {
        worked = worked_then x.worked y.worked;
        stops = λ z c h e.
            let i = y.idle z in
            i.1 c (omega arith) h (ap (λ (s : List ℕ). count (erased s) (bits_of G c)) (sym i.0) ∙ e);
      }
