-- Pairs of nodes: in a sorted list they stand side by side. Assumes nothing.
use Prim.Native.Nat.{ℕ, zero, suc, ◌+◌, ◌-◌, ◌/◌, ◌≤◌, ◌<◌}
use mathlib.Core.Path.{◌≡◌, sym, ap, subst, ◌∙◌}
use mathlib.Core.Logic.{◌≢◌}
use mathlib.Core.Bool.{Bool, true, false, not}
use mathlib.Core.List.{List}
use native.Mathlib.Omega.{arith}
use borrow.Author.Tests.{eqb-true, eqb-false, eq-eqb, ne_eqb, not-true, not-false}
use lib.Dec.{eqb}
use lib.ListN.{length, get_or}
use Rattle.graph.proofs.Lists.{get_or_mem}
use Rattle.graph.proofs.Decide.{by_eq, by_le, and_left, and_right}
use Rattle.sorting.specs.Sorted.{Rising, Same, Sorted}
use Rattle.sorting.proofs.Members.{mem_at, same_back, same_member}
use Rattle.trees.specs.Pairs.{Pair, meet, Decides}

-- ONE PAIR

pub meet_same : (x y : ℕ) → x / 1024 ≡ y / 1024 → meet x y ≡ not (eqb x y)
meet_same x y h = rw (eq-eqb (x / 1024) (y / 1024) h)

pub meet_other : (x y : ℕ) → (x / 1024 ≡ y / 1024 → ⊥) → meet x y ≡ false
meet_other x y h = rw (ne_eqb (x / 1024) (y / 1024) h)

met : (x y : ℕ) → meet x y ≡ true → (x / 1024 ≡ y / 1024) × (x ≢ y)
met x y e =
    let same = and_left (eqb (x / 1024) (y / 1024)) (not (eqb x y)) e in
    let other = and_right (eqb (x / 1024) (y / 1024)) (not (eqb x y)) e in
    (eqb-true (x / 1024) (y / 1024) same, eqb-false x y (not-true (eqb x y) other))

unmet : (x y : ℕ) → meet x y ≡ false → x / 1024 ≡ y / 1024 → x ≡ y
unmet x y e h = eqb-true x y (not-false (eqb x y) (sym (meet_same x y h) ∙ e))

-- ONE LIST

pub pair_at : (l : List ℕ) (i k : ℕ) → i < length l → k < length l → meet (get_or l i 0) (get_or l k 0) ≡ true → Pair l
pair_at l i k h q e =
    let m = met (get_or l i 0) (get_or l k 0) e in
    record { one = get_or l i 0; other = get_or l k 0; one_in = get_or_mem l i 0 h; other_in = get_or_mem l k 0 q; same = m.0; differ = m.1 }

module _ (l : List ℕ) (rising : Rising l) (none : (k : ℕ) → k + 1 < length l → meet (get_or l k 0) (get_or l (k + 1) 0) ≡ false) where
  rises : (i k : ℕ) → i ≤ k → k < length l → get_or l i 0 ≤ get_or l k 0
  rises i k h q = by_eq i k (λ e. rw e (omega arith)) (λ d. rising.rises i k (omega arith) q)

  level : (d i : ℕ) → i + d < length l → get_or l i 0 / 1024 ≡ get_or l (i + d) 0 / 1024 → get_or l i 0 ≡ get_or l (i + d) 0
  level zero i h e = ap (λ (n : ℕ). get_or l n 0) (let z : i ≡ i + 0 = omega arith in z)
  level (suc d) i h e =
      let next : i + d + 1 ≡ i + suc d = omega arith in
      let a = rises i (i + d) (omega arith) (omega arith) in
      let b = rises (i + d) (i + suc d) (omega arith) h in
      let p : get_or l i 0 / 1024 ≡ get_or l (i + d) 0 / 1024 = omega arith in
      level d i (omega arith) p
      ∙ unmet (get_or l (i + d) 0) (get_or l (i + suc d) 0)
      (subst (λ (n : ℕ). meet (get_or l (i + d) 0) (get_or l n 0) ≡ false) next (none (i + d) (omega arith))) (sym p ∙ e)

  ordered : (i k : ℕ) → i ≤ k → k < length l → get_or l i 0 / 1024 ≡ get_or l k 0 / 1024 → get_or l i 0 ≡ get_or l k 0
  ordered i k h q e =
      let n : i + (k - i) ≡ k = omega arith in
      subst (λ (j : ℕ). get_or l i 0 ≡ get_or l j 0) n (level (k - i) i (omega arith) (subst (λ (j : ℕ). get_or l i 0 / 1024 ≡ get_or l j 0 / 1024) (sym n) e))

  pub no_pair : Pair l → ⊥
  no_pair p =
      let (i, h, e) = mem_at p.one l p.one_in in
      let (k, q, f) = mem_at p.other l p.other_in in
      let same : get_or l i 0 / 1024 ≡ get_or l k 0 / 1024 = ap (λ (x : ℕ). x / 1024) e ∙ p.same ∙ ap (λ (x : ℕ). x / 1024) (sym f) in
      p.differ (by_le i k (λ z. sym e ∙ ordered i k z q same ∙ f) (λ z. sym e ∙ sym (ordered k i (omega arith) h (sym same)) ∙ f))

-- LISTS OF THE SAME NUMBERS

pair_same : {l m : List ℕ} → Same l m → Pair l → Pair m
pair_same s p =
    record { one = p.one; other = p.other; one_in = same_member s p.one p.one_in; other_in = same_member s p.other p.other_in; same = p.same; differ = p.differ }

-- a list that is sorted tells whether there is a pair by the nodes side by side
pub sorted_pair : {l m : List ℕ} {r : Bool} → Sorted l m → (r ≡ true → (k : ℕ) × (k + 1 < length m) × (meet (get_or m k 0) (get_or m (k + 1) 0) ≡ true))
    → (r ≡ false → (k : ℕ) → k + 1 < length m → meet (get_or m k 0) (get_or m (k + 1) 0) ≡ false) → Decides r (Pair l)
sorted_pair {m = m} s found none =
    record {
      yes = λ e. let (k, h, t) = found e in pair_same (same_back s.same) (pair_at m k (k + 1) (omega arith) h t);
      no = λ e p. no_pair m s.rising (none e) (pair_same s.same p);
    }
