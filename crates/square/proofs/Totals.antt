-- Sums over counted lists, and how many elements of a list pass a test. Assumes nothing.
use Prim.Native.Nat.{ℕ, zero, suc, ◌+◌, ◌*◌, ◌<◌}
use mathlib.Core.Path.{◌≡◌, refl, sym, ap, ◌∙◌}
use mathlib.Core.Logic.{◌≢◌}
use mathlib.Core.Bool.{Bool, true, false, ◌&&◌}
use mathlib.Core.List.{List, [], ◌∷◌, ◌++◌}
use native.Mathlib.Nat.{add-zero, zero-add}
use native.Mathlib.Numerals.{add-one}
use native.Mathlib.Omega.{arith}
use lib.ListN.{length, get_or}
use Rattle.graph.specs.Count.{range, below, one, count}
use Rattle.graph.proofs.Count.{count_last}
use Rattle.graph.proofs.Decide.{by_eq}
use Rattle.square.specs.Each.{each, upon}

-- g 0 + g 1 + … + g (n − 1)
unfoldable pub total : ℕ → (ℕ → ℕ) → ℕ
total zero g = 0
total (suc n) g = total n g + g n

pub total_same : (n : ℕ) (g h : ℕ → ℕ) → ((i : ℕ) → i < n → g i ≡ h i) → total n g ≡ total n h
unfolding total
total_same zero g h e = refl
total_same (suc n) g h e = omega (arith, total_same n g h (λ i k. e i (omega arith)), e n (omega arith))

pub total_each : (n w : ℕ) (g : ℕ → ℕ) → ((i : ℕ) → i < n → g i ≡ w) → total n g ≡ n * w
unfolding total
total_each zero w g e = omega arith
total_each (suc n) w g e = omega (arith, total_each n w g (λ i k. e i (omega arith)), e n (omega arith))

pub total_none : (n : ℕ) (g : ℕ → ℕ) → ((i : ℕ) → i < n → g i ≡ 0) → total n g ≡ 0
total_none n g e = omega (arith, total_each n 0 g e)

-- all but one are 0
pub total_at : (n i : ℕ) (g : ℕ → ℕ) → i < n → ((k : ℕ) → k < n → k ≢ i → g k ≡ 0) → total n g ≡ g i
unfolding total
total_at zero i g h e = absurd (omega arith)
total_at (suc n) i g h e =
    by_eq i n
    (λ q. omega (arith, total_none n g (λ k j. e k (omega arith) (omega arith)), ap g q))
    (λ d. omega (arith, total_at n i g (omega arith) (λ k j. e k (omega arith)), e n (omega arith) (λ q. d (sym q))))

pub total_count : (n : ℕ) (f : ℕ → Bool) → total n (λ i. one (f i)) ≡ count f (below n)
unfolding total count range
total_count zero f = refl
total_count (suc n) f = omega (arith, total_count n f, ap (λ (k : ℕ). count f (below k)) (add-one n), count_last f n)

-- exactly one pair passes
pub total_once : (n m u v : ℕ) (f : ℕ → ℕ → Bool) → u < n → v < m → f u v ≡ true → ((x y : ℕ) → x ≢ u → f x y ≡ false) → ((y : ℕ) → y ≢ v → f u y ≡ false)
    → total n (λ x. total m (λ y. one (f x y))) ≡ 1
total_once n m u v f h k e p q =
    total_at n u (λ x. total m (λ y. one (f x y))) h (λ x i d. total_none m (λ y. one (f x y)) (λ y j. ap one (p x y d)))
    ∙ total_at m v (λ y. one (f u y)) k (λ y j d. ap one (q y d))
    ∙ ap one e

-- how many elements of a list pass
module _ {A : Type 0} (f : A → Bool) where
  unfoldable pub tally : List A → ℕ
  tally [] = 0
  tally (x ∷ l) = one (f x) + tally l

  pub tally_append : (l m : List A) → tally (l ++ m) ≡ tally l + tally m
  unfolding tally
  tally_append [] m = omega arith
  tally_append (x ∷ l) m = omega (arith, tally_append l m)

  pub tally_each : (n : ℕ) (g : ℕ → List A) → tally (each n g) ≡ total n (λ i. tally (g i))
  unfolding tally total
  tally_each zero g = refl
  tally_each (suc n) g = omega (arith, tally_append (each n g) (g n), tally_each n g)

  pub tally_upon : (b : Bool) (x : A) → tally (upon b (x ∷ [])) ≡ one (b && f x)
  unfolding tally
  tally_upon true x = omega arith
  tally_upon false x = refl

  -- by their places
  tally_from : (s : ℕ) (d : A) (g : ℕ → Bool) (l : List A) → ((i : ℕ) → i < length l → g (s + i) ≡ f (get_or l i d)) → count g (range s (length l)) ≡ tally l
  unfolding tally count range
  tally_from s d g [] h = refl
  tally_from s d g (x ∷ l) h =
      omega (
        arith,
        ap one (ap g (sym (add-zero s)) ∙ h 0 (omega arith)),
        tally_from (suc s) d g l (λ i k. ap g (let e : suc s + i ≡ s + suc i = omega arith in e) ∙ h (suc i) (omega arith)),
      )

  pub tally_places : (d : A) (g : ℕ → Bool) (l : List A) → ((i : ℕ) → i < length l → g i ≡ f (get_or l i d)) → count g (below (length l)) ≡ tally l
  tally_places d g l h = tally_from 0 d g l (λ i k. ap g (zero-add i) ∙ h i k)

-- every element passes
pub tally_all : {A : Type 0} (l : List A) → tally (λ x. true) l ≡ length l
unfolding tally
tally_all [] = refl
tally_all (x ∷ l) = omega (arith, tally_all l)
