-- Laws of ranges, selections and counts, the pigeonhole among them. Assumes nothing.
use Prim.Native.Nat.{ℕ, zero, suc, ◌+◌, ◌≤◌, ◌<◌}
use mathlib.Core.Path.{◌≡◌, refl, sym, ap, ap₂, subst, ◌∙◌}
use mathlib.Core.Logic.{inl, inr, ◌≢◌}
use mathlib.Core.Bool.{Bool, true, false, not, ◌&&◌, ◌||◌, and-true}
use mathlib.Core.List.{List, [], ◌∷◌, ◌++◌, map}
use native.Mathlib.Omega.{arith}
use native.Mathlib.Nat.{zero-add, add-zero}
use borrow.Author.Tests.{eqb-true, eq-eqb, ne_eqb}
use lib.Dec.{eqb}
use lib.ListN.{length, get_or, length-map}
use Rattle.graph.specs.Count.{range, below, select, one, count, member, Mem, Nodup}
use Rattle.graph.proofs.Decide.{by_bool, by_eq, by_le, both_ways}

-- Ranges

pub mem_range : (x s n : ℕ) → Mem x (range s n) → (s ≤ x) × (x < s + n)
unfolding range
mem_range x s zero m = absurd m
mem_range x s (suc n) (inl e) = (omega arith, omega arith)
mem_range x s (suc n) (inr m) = let r = mem_range x (suc s) n m in (omega arith, omega arith)

pub range_mem : (x s n : ℕ) → s ≤ x → x < s + n → Mem x (range s n)
unfolding range
range_mem x s zero h k = absurd (let z : ⊥ = omega arith in z)
range_mem x s (suc n) h k = by_eq x s (λ e. inl e) (λ d. inr (range_mem x (suc s) n (omega arith) (omega arith)))

pub nodup_range : (s n : ℕ) → Nodup (range s n)
unfolding range
nodup_range s zero = tt
nodup_range s (suc n) = (λ m. let r = mem_range s (suc s) n m in omega arith, nodup_range (suc s) n)

pub length_range : (s n : ℕ) → length (range s n) ≡ n
unfolding range
length_range s zero = refl
length_range s (suc n) = ap suc (length_range (suc s) n)

-- a range in two parts
pub get_or_range : (s n i : ℕ) → i < n → get_or (range s n) i 0 ≡ s + i
unfolding range
get_or_range s zero i h = absurd (let z : ⊥ = omega arith in z)
get_or_range s (suc n) zero h = omega arith
get_or_range s (suc n) (suc i) h = omega (arith, get_or_range (suc s) n i (omega arith))

pub range_append : (s m n : ℕ) → range s (m + n) ≡ range s m ++ range (s + m) n
unfolding range
range_append s zero n = ap₂ range (sym (add-zero s)) (let e : 0 + n ≡ n = omega arith in e)
range_append s (suc m) n =
    ap (range s) (let e : suc m + n ≡ suc (m + n) = omega arith in e)
    ∙ ap (λ (l : List ℕ). s ∷ l) (range_append (suc s) m n ∙ ap (λ (k : ℕ). range (suc s) m ++ range k n) (let e : suc s + m ≡ s + suc m = omega arith in e))

pub below_last : (n : ℕ) → below (n + 1) ≡ below n ++ n ∷ []
unfolding range
below_last n = range_append 0 n 1 ∙ ap (λ (k : ℕ). below n ++ k ∷ []) (zero-add n)

-- Selections

module _ (f : ℕ → Bool) where
  pub mem_select : (x : ℕ) (l : List ℕ) → Mem x (select f l) → Mem x l × (f x ≡ true)
  unfolding select
  mem_select x [] m = absurd m
  mem_select x (y ∷ l) m =
      by_bool (f y)
      (λ e. taken e (rw e at m) (mem_select x l))
      (λ e. let r = mem_select x l (rw e at m) in (inr r.0, r.1))
    where
      taken : f y ≡ true → Mem x (y ∷ select f l) → (Mem x (select f l) → Mem x l × (f x ≡ true)) → Mem x (y ∷ l) × (f x ≡ true)
      taken e (inl q) more = (inl q, ap f q ∙ e)
      taken e (inr i) more = (inr (more i).0, (more i).1)

  pub select_mem : (x : ℕ) (l : List ℕ) → Mem x l → f x ≡ true → Mem x (select f l)
  unfolding select
  select_mem x [] m e = absurd m
  select_mem x (y ∷ l) (inl q) e = rw (sym (ap f q) ∙ e) (inl q)
  select_mem x (y ∷ l) (inr m) e = by_bool (f y) (λ k. rw k (inr (select_mem x l m e))) (λ k. rw k (select_mem x l m e))

  pub nodup_select : (l : List ℕ) → Nodup l → Nodup (select f l)
  unfolding select
  nodup_select [] d = tt
  nodup_select (y ∷ l) d =
      by_bool (f y)
      (λ e. rw e (λ m. d.0 (mem_select y l m).0, nodup_select l d.1))
      (λ e. rw e (nodup_select l d.1))

  pub select_append : (p q : List ℕ) → select f (p ++ q) ≡ select f p ++ select f q
  unfolding select
  select_append [] q = refl
  select_append (y ∷ p) q =
      by_bool (f y)
      (λ e. rw e (ap (λ (l : List ℕ). y ∷ l) (select_append p q)))
      (λ e. rw e (select_append p q))

  pub length_select : (l : List ℕ) → length (select f l) ≡ count f l
  unfolding select count
  length_select [] = refl
  length_select (y ∷ l) =
      by_bool (f y)
      (λ e. rw e (omega (arith, length_select l)))
      (λ e. rw e (omega (arith, length_select l)))

-- Membership as a test

pub member_mem : (x : ℕ) (l : List ℕ) → member x l ≡ true → Mem x l
unfolding member
member_mem x [] e = both_ways {t = false} e refl
member_mem x (y ∷ l) e = by_bool (eqb x y) (λ q. inl (eqb-true x y q)) (λ q. inr (member_mem x l (rw q at e)))

pub mem_member : (x : ℕ) (l : List ℕ) → Mem x l → member x l ≡ true
unfolding member
mem_member x [] m = absurd m
mem_member x (y ∷ l) (inl e) = rw (eq-eqb x y e)
mem_member x (y ∷ l) (inr m) = by_bool (eqb x y) (λ q. rw q) (λ q. rw q (mem_member x l m))

-- Counts

pub count_same : (f g : ℕ → Bool) (l : List ℕ) → ((x : ℕ) → Mem x l → f x ≡ g x) → count f l ≡ count g l
unfolding count
count_same f g [] h = refl
count_same f g (x ∷ l) h = rw (h x (inl refl)) (ap (λ (k : ℕ). one (g x) + k) (count_same f g l (λ y m. h y (inr m))))

pub count_mono : (f g : ℕ → Bool) (l : List ℕ) → ((x : ℕ) → Mem x l → f x ≡ true → g x ≡ true) → count f l ≤ count g l
unfolding count
count_mono f g [] h = omega arith
count_mono f g (x ∷ l) h =
    let ih = count_mono f g l (λ y m. h y (inr m)) in
    by_bool (f x) (λ e. omega (arith, ap one e, ap one (h x (inl refl) e))) (λ e. omega (arith, ap one e))

pub count_le : (f : ℕ → Bool) (l : List ℕ) → count f l ≤ length l
unfolding count
count_le f [] = omega arith
count_le f (x ∷ l) = let ih = count_le f l in by_bool (f x) (λ e. omega (arith, ap one e)) (λ e. omega (arith, ap one e))

pub count_append : (f : ℕ → Bool) (p q : List ℕ) → count f (p ++ q) ≡ count f p + count f q
unfolding count
count_append f [] q = omega arith
count_append f (x ∷ p) q = omega (arith, count_append f p q)

pub count_last : (f : ℕ → Bool) (n : ℕ) → count f (below (n + 1)) ≡ count f (below n) + one (f n)
unfolding count
count_last f n = ap (count f) (below_last n) ∙ omega (arith, count_append f (below n) (n ∷ []))

-- members that pass one of two tests
pub count_or : (f g : ℕ → Bool) (l : List ℕ) → count (λ x. f x || g x) l ≤ count f l + count g l
unfolding count
count_or f g [] = omega arith
count_or f g (x ∷ l) = by_bool (f x) (λ e. rw e (omega (arith, count_or f g l))) (λ e. rw e (omega (arith, count_or f g l)))

-- among selected members
pub count_select : (f g : ℕ → Bool) (l : List ℕ) → count f (select g l) ≡ count (λ x. g x && f x) l
unfolding count select
count_select f g [] = refl
count_select f g (x ∷ l) =
    by_bool (g x)
    (λ e. rw e (ap (λ (n : ℕ). one (f x) + n) (count_select f g l)))
    (λ e. rw e (omega (arith, count_select f g l)))

-- a member that passes, and back
pub count_mem : (f : ℕ → Bool) (x : ℕ) (l : List ℕ) → Mem x l → f x ≡ true → 1 ≤ count f l
unfolding count
count_mem f x [] m e = absurd m
count_mem f x (y ∷ l) (inl q) e = omega (arith, ap one (sym (ap f q) ∙ e))
count_mem f x (y ∷ l) (inr m) e = omega (arith, count_mem f x l m e)

pub count_some : (f : ℕ → Bool) (l : List ℕ) → 1 ≤ count f l → (x : ℕ) × Mem x l × (f x ≡ true)
unfolding count
count_some f [] h = absurd (omega arith)
count_some f (x ∷ l) h =
    by_bool (f x)
    (λ e. (x, inl refl, e))
    (λ e. let r = count_some f l (omega (arith, ap one e)) in (r.0, inr r.1, r.2))

-- a part of g that is as large as g is g
pub count_full : (f g : ℕ → Bool) (l : List ℕ) → ((x : ℕ) → f x ≡ true → g x ≡ true) → count g l ≤ count f l
    → (x : ℕ) → Mem x l → g x ≡ true → f x ≡ true
unfolding count
count_full f g [] h t x m e = absurd m
count_full f g (y ∷ l) h t x (inl q) e =
    by_bool (f y)
    (λ k. ap f q ∙ k)
    (λ k. absurd (omega (arith, ap one k, ap one (sym (ap g q) ∙ e), count_mono f g l (λ z _. h z))))
count_full f g (y ∷ l) h t x (inr m) e =
    by_bool (f y)
    (λ k. count_full f g l h (omega (arith, ap one k, ap one (h y k))) x m e)
    (λ k. count_full f g l h (omega (arith, ap one k)) x m e)

-- the members inside a part and those outside it
pub count_split : (f g : ℕ → Bool) (l : List ℕ) → ((x : ℕ) → g x ≡ true → f x ≡ true) → count (λ x. f x && not (g x)) l + count g l ≡ count f l
unfolding count
count_split f g [] h = refl
count_split f g (x ∷ l) h =
    let ih = count_split f g l h in
    by_bool (g x)
    (λ e. omega (arith, ap one e, ap one (h x e), ap one (ap₂ (λ (s t : Bool). s && not t) (h x e) e)))
    (λ e. omega (arith, ap one e, ap one (ap (λ (s : Bool). f x && not s) e ∙ and-true (f x))))

-- one member leaves the set
pub count_less : (f g : ℕ → Bool) (a : ℕ) → f a ≡ true → g a ≡ false → ((x : ℕ) → x ≢ a → g x ≡ f x)
    → (l : List ℕ) → Nodup l → Mem a l → count f l ≡ suc (count g l)
unfolding count
count_less f g a p q other [] d m = absurd m
count_less f g a p q other (x ∷ l) d (inl e) =
    let same = count_same f g l (λ y m. sym (other y (λ k. d.0 (subst (λ (z : ℕ). Mem z l) (k ∙ e) m)))) in
    omega (arith, ap one (sym (ap f e) ∙ p), ap one (sym (ap g e) ∙ q))
count_less f g a p q other (x ∷ l) d (inr m) =
    omega (arith, count_less f g a p q other l d.1 m, ap one (other x (λ k. d.0 (subst (λ (z : ℕ). Mem z l) (sym k) m))))

-- f without x
without : (ℕ → Bool) → ℕ → ℕ → Bool
without f x y = f y && not (eqb y x)

without_self : (f : ℕ → Bool) (x : ℕ) → without f x x ≡ false
unfolding without
without_self f x = rw (eq-eqb x x refl) (by_bool (f x) (λ e. rw e) (λ e. rw e))

without_other : (f : ℕ → Bool) (x y : ℕ) → y ≢ x → without f x y ≡ f y
unfolding without
without_other f x y d = rw (ne_eqb y x d) (and-true (f y))

without_true : (f : ℕ → Bool) (x y : ℕ) → without f x y ≡ true → (f y ≡ true) × (y ≢ x)
without_true f x y e = by_eq y x (λ q. both_ways (subst (λ (z : ℕ). without f x z ≡ true) q e) (without_self f x)) (λ d. (sym (without_other f x y d) ∙ e, d))

count_without : (f : ℕ → Bool) (x : ℕ) (l : List ℕ) → Nodup l → Mem x l → f x ≡ true → count f l ≡ suc (count (without f x) l)
count_without f x l d m e = count_less f (without f x) x e (without_self f x) (without_other f x) l d m

-- PIGEONHOLE: a duplicate-free list of members that pass is no longer than the count
pub crowd : (xs : List ℕ) (f : ℕ → Bool) (l : List ℕ) → Nodup l → Nodup xs → ((x : ℕ) → Mem x xs → Mem x l × (f x ≡ true)) → length xs ≤ count f l
crowd [] f l u d h = omega arith
crowd (x ∷ xs) f l u d h =
    omega (
      arith,
      count_without f x l u (h x (inl refl)).0 (h x (inl refl)).1,
      crowd xs (without f x) l u d.1 (λ y m. ((h y (inr m)).0, without_other f x y (λ e. d.0 (subst (λ (z : ℕ). Mem z xs) e m)) ∙ (h y (inr m)).1)),
    )

-- and so no more different numbers than n are below n
pub few_below : (n : ℕ) (xs : List ℕ) → Nodup xs → ((x : ℕ) → Mem x xs → x < n) → length xs ≤ n
few_below n xs d low =
    let few = crowd xs (λ x. true) (below n) (nodup_range 0 n) d (λ x m. (range_mem x 0 n (omega arith) (omega (arith, low x m)), refl)) in
    omega (arith, few, count_le (λ x. true) (below n), length_range 0 n)

-- where the count is not 1, a member is not the only one
pub another : (f : ℕ → Bool) (l : List ℕ) (x : ℕ) → Nodup l → count f l ≢ 1 → Mem x l → f x ≡ true → (y : ℕ) × Mem y l × (f y ≡ true) × (y ≢ x)
another f l x u n m e =
    let less = count_without f x l u m e in
    let r = count_some (without f x) l (by_le 1 (count (without f x) l) (λ h. h) (λ h. absurd (n (omega arith)))) in
    let t = without_true f x r.0 r.2 in
    (r.0, r.1, t.0, t.1)

-- two different members besides c
pub record TwoOthers (c : ℕ) (l : List ℕ) : Type 0 where
  pub x : ℕ
  pub y : ℕ
  pub x_in : Mem x l
  pub y_in : Mem y l
  pub x_other : x ≢ c
  pub y_other : y ≢ c
  pub differ : x ≢ y

every : ℕ → Bool
every x = true

count_every : (l : List ℕ) → count every l ≡ length l
unfolding count every
count_every [] = refl
count_every (x ∷ l) = omega (arith, count_every l)

pub two_others : (c : ℕ) (l : List ℕ) → Nodup l → 3 ≤ length l → Mem c l → TwoOthers c l
unfolding every
two_others c l u h m =
    let rest : ℕ → Bool = without every c in
    let two : 2 ≤ count rest l = omega (arith, count_every l, count_without every c l u m refl) in
    let a = count_some rest l (omega arith) in
    let b = another rest l a.0 u (omega arith) a.1 a.2 in
    record {
      x = b.0;
      y = a.0;
      x_in = b.1;
      y_in = a.1;
      x_other = (without_true every c b.0 b.2).1;
      y_other = (without_true every c a.0 a.2).1;
      differ = b.3;
    }

-- Positions of a list

shift : (s i : ℕ) → suc s + i ≡ s + suc i
shift s i = omega arith

count_from : (f g : ℕ → Bool) (s : ℕ) (l : List ℕ) → ((i : ℕ) → g (s + i) ≡ f (get_or l i 0)) → count f l ≡ count g (range s (length l))
unfolding count range
count_from f g s [] h = refl
count_from f g s (x ∷ l) h = omega (arith, ap one (ap g (sym (add-zero s)) ∙ h 0), count_from f g (suc s) l (λ i. ap g (shift s i) ∙ h (suc i)))

-- how many members pass, counted by their positions
pub count_positions : (f : ℕ → Bool) (l : List ℕ) → count f l ≡ count (λ i. f (get_or l i 0)) (below (length l))
count_positions f l = count_from f _ 0 l (λ i. ap (λ (k : ℕ). f (get_or l k 0)) (zero-add i))

get_or_map_range : {A : Type 0} (d : A) (f : ℕ → A) (s n i : ℕ) → i < n → get_or (map f (range s n)) i d ≡ f (s + i)
unfolding range
get_or_map_range d f s zero i h = absurd (let z : ⊥ = omega arith in z)
get_or_map_range d f s (suc n) zero h = ap f (sym (add-zero s))
get_or_map_range d f s (suc n) (suc i) h = get_or_map_range d f (suc s) n i (omega arith) ∙ ap f (shift s i)

-- the list f 0, f 1, … of n members
pub get_or_map_below : {A : Type 0} (d : A) (f : ℕ → A) (n i : ℕ) → i < n → get_or (map f (below n)) i d ≡ f i
get_or_map_below d f n i h = get_or_map_range d f 0 n i h ∙ ap f (zero-add i)

pub length_map_below : {A : Type 0} (f : ℕ → A) (n : ℕ) → length (map f (below n)) ≡ n
length_map_below f n = length-map (below n) f ∙ length_range 0 n

pub count_none : (f : ℕ → Bool) (l : List ℕ) → ((x : ℕ) → Mem x l → f x ≡ false) → count f l ≡ 0
count_none f l h = by_le 1 (count f l) (λ k. let r = count_some f l k in both_ways r.2 (h r.0 r.1)) (λ k. omega arith)

-- how often a number stands in a list without repetition
pub count_is : (b : ℕ) (l : List ℕ) → Nodup l → count (λ x. eqb x b) l ≡ one (member b l)
unfolding count member
count_is b [] d = refl
count_is b (x ∷ l) d =
    by_eq x b
    (λ e.
    let none_left = count_none (λ y. eqb y b) l (λ y m. ne_eqb y b (λ q. d.0 (subst (λ (z : ℕ). Mem z l) (q ∙ sym e) m))) in
    rw (eq-eqb x b e, eq-eqb b x (sym e)) (omega arith))
    (λ e. rw (ne_eqb x b e, ne_eqb b x (λ q. e (sym q))) (omega (arith, count_is b l d.1)))
