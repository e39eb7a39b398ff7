-- Laws of sums. Assumes nothing.
use Prim.Native.Nat.{ℕ, zero, suc, ◌+◌, ◌%◌, ◌<◌}
use mathlib.Core.Path.{◌≡◌, refl, sym, ap, ◌∙◌}
use mathlib.Core.Logic.{inl, inr, ◌≢◌}
use mathlib.Core.List.{List, [], ◌∷◌, ◌++◌}
use native.Mathlib.Omega.{arith}
use native.Mathlib.Numerals.{add-one}
use Rattle.graph.specs.Count.{range, below, sum, Mem}
use Rattle.graph.proofs.Decide.{by_eq}
use Rattle.graph.proofs.Count.{mem_range, below_last}

pub sum_append : (f : ℕ → ℕ) (p q : List ℕ) → sum f (p ++ q) ≡ sum f p + sum f q
unfolding sum
sum_append f [] q = omega arith
sum_append f (x ∷ p) q = omega (arith, sum_append f p q)

-- one member more
pub sum_last : (f : ℕ → ℕ) (n : ℕ) → sum f (below (n + 1)) ≡ sum f (below n) + f n
unfolding sum
sum_last f n = ap (sum f) (below_last n) ∙ sum_append f (below n) (n ∷ []) ∙ omega arith

sum_suc : (f : ℕ → ℕ) (n : ℕ) → sum f (below (suc n)) ≡ sum f (below n) + f n
sum_suc f n = ap (λ (k : ℕ). sum f (below k)) (sym (add-one n)) ∙ sum_last f n

pub sum_none : (f : ℕ → ℕ) (l : List ℕ) → ((x : ℕ) → Mem x l → f x ≡ 0) → sum f l ≡ 0
unfolding sum
sum_none f [] h = refl
sum_none f (x ∷ l) h = omega (arith, h x (inl refl), sum_none f l (λ y m. h y (inr m)))

pub sum_add : (f g : ℕ → ℕ) (l : List ℕ) → sum (λ x. f x + g x) l ≡ sum f l + sum g l
unfolding sum
sum_add f g [] = refl
sum_add f g (x ∷ l) = omega (arith, sum_add f g l)

pub sum_same : (f g : ℕ → ℕ) (l : List ℕ) → ((x : ℕ) → Mem x l → f x ≡ g x) → sum f l ≡ sum g l
unfolding sum
sum_same f g [] h = refl
sum_same f g (x ∷ l) h = omega (arith, h x (inl refl), sum_same f g l (λ y m. h y (inr m)))

-- of even terms
pub sum_even : (f : ℕ → ℕ) (l : List ℕ) → ((x : ℕ) → Mem x l → f x % 2 ≡ 0) → sum f l % 2 ≡ 0
unfolding sum
sum_even f [] h = refl
sum_even f (x ∷ l) h = omega (arith, h x (inl refl), sum_even f l (λ y m. h y (inr m)))

-- and back: where the sums of the first terms are all even, so is each term
pub term_even : (f : ℕ → ℕ) (n : ℕ) → ((k : ℕ) → k < n → sum f (below (k + 1)) % 2 ≡ 0) → (i : ℕ) → i < n → f i % 2 ≡ 0
unfolding sum range
term_even f n h zero l = omega (arith, h 0 l, sum_last f 0)
term_even f n h (suc i) l = omega (arith, h i (omega arith), h (suc i) l, sum_last f (suc i), sum_last f i, sum_suc f i)

-- all terms but one are 0
pub sum_only : (f : ℕ → ℕ) (a n : ℕ) → a < n → ((x : ℕ) → x < n → x ≢ a → f x ≡ 0) → sum f (below n) ≡ f a
sum_only f a zero l h = absurd (omega arith)
sum_only f a (suc n) l h =
    by_eq a n
    (λ e. omega (arith, sum_suc f n, ap f e, sum_none f (below n) (λ x m. let r = mem_range x 0 n m in h x (omega arith) (omega arith))))
    (λ e. omega (arith, sum_suc f n, h n (omega arith) (omega arith), sum_only f a n (omega arith) (λ x k. h x (omega arith))))

-- of terms that share one part with the term before them and one with the term behind them
pub sum_links : (g : ℕ → ℕ) (n : ℕ) → sum (λ i. g i + g (i + 1)) (below n) % 2 ≡ (g 0 + g n) % 2
unfolding sum range
sum_links g zero = omega arith
sum_links g (suc n) = omega (arith, sum_suc (λ i. g i + g (i + 1)) n, sum_links g n, ap g (add-one n))
