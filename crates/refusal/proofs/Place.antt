-- Laws of `first_place`: it is the first place at which the test holds, or the length. Assumes nothing.
use Prim.Native.Nat.{ℕ, zero, suc, ◌≤◌, ◌<◌}
use mathlib.Core.Path.{◌≡◌, refl, sym, ap, subst, ◌∙◌}
use mathlib.Core.Logic.{◌↔◌}
use mathlib.Core.Bool.{Bool, true, false, true≢false}
use mathlib.Core.List.{List, [], ◌∷◌}
use native.Mathlib.Omega.{arith}
use borrow.Author.Tests.{lt-ltb, le-ltb, ltb-true, ltb-false}
use lib.ListN.{length, get_or}
use Rattle.std.specs.Prelude.{None, Some}
use Rattle.std.specs.Prelude.{cond, ◌+◌}
use Rattle.std.specs.List.{position, position_or_len}
use Rattle.std.proofs.lemmas.Option.{none-some}
use Rattle.std.proofs.lemmas.List.Recursion.{is_position_or_len}
use lib.Dec.{ltb}
use Rattle.refusal.specs.Place.{first_place, somewhere, First}

by_bool : {C : Type 0} (t : Bool) → (t ≡ true → C) → (t ≡ false → C) → C
by_bool true f g = f refl
by_bool false f g = g refl

fails : (t : Bool) → (t ≡ true → ⊥) → t ≡ false
fails true h = absurd (h refl)
fails false h = refl

both_ways : {t : Bool} → t ≡ true → t ≡ false → ⊥
both_ways p q = true≢false (sym p ∙ q)

module _ {A : Type 0} (test : A → Bool) (d : A) where
  -- the test holds at k and at no place before
  pub first_at : (l : List A) (k : ℕ) → ((i : ℕ) → i < k → test (get_or l i d) ≡ false) → k < length l → test (get_or l k d) ≡ true
      → first_place test l ≡ k
  unfolding first_place
  first_at [] k before h e = absurd (omega arith)
  first_at (x ∷ l) zero before h e = rw e
  first_at (x ∷ l) (suc k) before h e =
      rw (before 0 (omega arith)) (ap suc (first_at l k (λ i q. before (suc i) (omega arith)) (omega arith) e))

  -- the test holds nowhere
  pub first_none : (l : List A) → ((i : ℕ) → i < length l → test (get_or l i d) ≡ false) → first_place test l ≡ length l
  unfolding first_place
  first_none [] all = refl
  first_none (x ∷ l) all = rw (all 0 (omega arith)) (ap suc (first_none l (λ i q. all (suc i) (omega arith))))

  pub first_le : (l : List A) → first_place test l ≤ length l
  unfolding first_place
  first_le [] = omega arith
  first_le (x ∷ l) = by_bool (test x) (λ e. rw e (omega arith)) (λ e. rw e (omega (arith, first_le l)))

  -- before its first place the test does not hold
  pub before_first : (l : List A) (i : ℕ) → i < first_place test l → test (get_or l i d) ≡ false
  unfolding first_place
  before_first [] i h = absurd (omega arith)
  before_first (x ∷ l) i h = by_bool (test x) (λ e. absurd (let z = rw e at h in omega arith)) (λ e. step e i (rw e at h) (before_first l))
    where
      step : test x ≡ false → (i : ℕ) → i < suc (first_place test l) → ((k : ℕ) → k < first_place test l → test (get_or l k d) ≡ false) → test (get_or (x ∷ l) i d) ≡ false
      step e zero h more = e
      step e (suc k) h more = more k (omega arith)

  pub at_first : (l : List A) → first_place test l < length l → test (get_or l (first_place test l) d) ≡ true
  unfolding first_place
  at_first [] h = absurd (omega arith)
  at_first (x ∷ l) h = by_bool (test x) (λ e. rw e e) (λ e. rw e (at_first l (let z = rw e at h in omega arith)))

  -- the two answers of `somewhere`
  pub somewhere_no : (l : List A) → somewhere test l ≡ false → (i : ℕ) → i < length l → test (get_or l i d) ≡ false
  somewhere_no l e i h = before_first l i (omega (arith, ltb-false (first_place test l) (length l) e))

  pub somewhere_none : (l : List A) → ((i : ℕ) → i < length l → test (get_or l i d) ≡ false) → somewhere test l ≡ false
  somewhere_none l all = le-ltb (first_place test l) (length l) (omega (arith, first_none l all))

  pub somewhere_at : (l : List A) (k : ℕ) → first_place test l ≡ k → k < length l → somewhere test l ≡ true
  somewhere_at l k e h = lt-ltb (first_place test l) (length l) (omega arith)

  -- THE LAW: where the test tells what Holds, its first place is the first place where that holds
  module _ (Holds : A → Type 0) (tells : (x : A) → (test x ≡ true) ↔ Holds x) (l : List A) (k : ℕ) where
    pub first_exactly : ((somewhere test l ≡ true) × (first_place test l ≡ k)) ↔ First (length l) (λ i. Holds (get_or l i d)) k
    first_exactly = (
      λ (t, e).
          let h : first_place test l < length l = ltb-true (first_place test l) (length l) t in
          record {
            inside = omega arith;
            holds = (tells (get_or l k d)).0 (subst (λ (i : ℕ). test (get_or l i d) ≡ true) e (at_first l h));
            nowhere_before = λ i q x. both_ways ((tells (get_or l i d)).1 x) (before_first l i (omega arith));
          },
      λ w.
          let e = first_at l k (λ i q. fails (test (get_or l i d)) (λ t. w.nowhere_before i q ((tells (get_or l i d)).0 t))) w.inside ((tells (get_or l k d)).1 w.holds) in
          (somewhere_at l k e w.inside, e),
    )

-- std's `position` names the same place
pub first_position : {A : Type 0} (test : A → Bool) (l : List A) → first_place test l ≡ position_or_len test l
unfolding first_place
first_position test l = is_position_or_len (first_place test) test refl step l
  where
    step : (x : _) (xs : _) → first_place test (x ∷ xs) ≡ cond (test x) 0 (1 + first_place test xs)
    step x xs = by_bool (test x) (λ e. rw e refl) (λ e. rw e (omega arith))

some_same : (a b : ℕ) → Some a ≡ Some b → a ≡ b
some_same a b e = cc

pub position_some : {A : Type 0} (test : A → Bool) (l : List A) (k : ℕ) → position test l ≡ Some k → (somewhere test l ≡ true) × (first_place test l ≡ k)
position_some test l k e =
    by_bool (ltb (position_or_len test l) (length l))
    (λ t. let p = first_position test l in let q = rw t at e in (rw p t, p ∙ some_same (position_or_len test l) k q))
    (λ t. absurd (none-some k (rw t at e)))

pub position_none : {A : Type 0} (test : A → Bool) (l : List A) → position test l ≡ None → somewhere test l ≡ false
position_none test l e =
    by_bool (ltb (position_or_len test l) (length l))
    (λ t. absurd (none-some (position_or_len test l) (sym (rw t at e))))
    (λ t. let p = first_position test l in rw p t)
