-- The digits of a number, from those of its tenth. Assumes nothing.
use Prim.Native.Nat.{ℕ, zero, suc, ◌+◌, ◌*◌, ◌/◌, ◌%◌, ◌^◌, ◌≤◌, ◌<◌}
use mathlib.Core.Path.{◌≡◌, refl, ap, ◌∙◌}
use mathlib.Core.List.{List, [], ◌∷◌, ◌++◌, append_assoc}
use native.Mathlib.Omega.{arith}
use lib.ListN.{length, length-append}
use borrow.Author.Tests.{lt-ltb, le-ltb}
use Rattle.graph.proofs.Decide.{by_le}
use Rattle.decimal.specs.Decimal.{digit, digits, decimal}

-- two bounds that are no less than the number give the same digits
same_digits : (j k n : ℕ) → n ≤ j → n ≤ k → digits j n ≡ digits k n
unfolding digits
same_digits zero zero n p q = refl
same_digits zero (suc k) n p q = rw (lt-ltb n 10 (omega arith)) (ap (λ (d : ℕ). digit d ∷ []) (omega arith))
same_digits (suc j) zero n p q = rw (lt-ltb n 10 (omega arith)) (ap (λ (d : ℕ). digit d ∷ []) (omega arith))
same_digits (suc j) (suc k) n p q =
    by_le 10 n
    (λ h. rw (le-ltb n 10 h, same_digits j k (n / 10) (omega arith) (omega arith)))
    (λ h. rw (lt-ltb n 10 h))

pub decimal_small : (n : ℕ) → n < 10 → decimal n ≡ digit n ∷ []
unfolding decimal digits
decimal_small zero h = refl
decimal_small (suc k) h = rw (lt-ltb (suc k) 10 h)

pub decimal_step : (n : ℕ) → 10 ≤ n → decimal n ≡ decimal (n / 10) ++ digit (n % 10) ∷ []
unfolding decimal digits
decimal_step zero h = absurd (omega arith)
decimal_step (suc k) h = rw (le-ltb (suc k) 10 h, same_digits k (suc k / 10) (suc k / 10) (omega arith) (omega arith))

pub length_small : (n : ℕ) → n < 10 → length (decimal n) ≡ 1
length_small n h = rw (decimal_small n h)

pub length_step : (n : ℕ) → 10 ≤ n → length (decimal n) ≡ length (decimal (n / 10)) + 1
length_step n h = rw (decimal_step n h) (length-append (decimal (n / 10)) (digit (n % 10) ∷ []))

-- two digits at a time
pub decimal_two : (n : ℕ) → 10 ≤ n → n < 100 → decimal n ≡ digit (n / 10) ∷ digit (n % 10) ∷ []
decimal_two n h k = decimal_step n h ∙ ap (λ (l : List ℕ). l ++ digit (n % 10) ∷ []) (decimal_small (n / 10) (omega arith))

pub decimal_hundred : (n : ℕ) → 100 ≤ n → decimal n ≡ decimal (n / 100) ++ digit (n % 100 / 10) ∷ digit (n % 100 % 10) ∷ []
decimal_hundred n h =
    let tens : n / 10 / 10 ≡ n / 100 = omega arith in
    let ten : n / 10 % 10 ≡ n % 100 / 10 = omega arith in
    let one : n % 10 ≡ n % 100 % 10 = omega arith in
    decimal_step n (omega arith)
    ∙ ap (λ (l : List ℕ). l ++ digit (n % 10) ∷ []) (decimal_step (n / 10) (omega arith))
    ∙ append_assoc (decimal (n / 10 / 10)) (digit (n / 10 % 10) ∷ []) (digit (n % 10) ∷ [])
    ∙ rw (tens, ten, one) refl

pub length_hundred : (n : ℕ) → 100 ≤ n → length (decimal n) ≡ length (decimal (n / 100)) + 2
length_hundred n h = rw (decimal_hundred n h) (length-append (decimal (n / 100)) (digit (n % 100 / 10) ∷ digit (n % 100 % 10) ∷ []))

-- a number between two neighbouring powers of ten
pub length_by_power : (k n : ℕ) → 10 ^ k ≤ n → n < 10 * 10 ^ k → length (decimal n) ≡ k + 1
length_by_power zero n low high = length_small n (omega arith)
length_by_power (suc k) n low high =
    omega (arith, length_step n (omega arith), length_by_power k (n / 10) (omega arith) (omega arith))

pub length_under : (k n : ℕ) → n < 10 * 10 ^ k → length (decimal n) ≤ k + 1
length_under zero n h = omega (arith, length_small n (omega arith))
length_under (suc k) n h =
    by_le 10 n
    (λ g. omega (arith, length_step n g, length_under k (n / 10) (omega arith)))
    (λ g. omega (arith, length_small n g))

-- the last digit, and what stands before it
pub decimal_ends : (n : ℕ) → (hs : List ℕ) × (decimal n ≡ hs ++ digit (n % 10) ∷ [])
decimal_ends n =
    by_le 10 n
    (λ h. (decimal (n / 10), decimal_step n h))
    (λ h. ([], decimal_small n h ∙ ap (λ (k : ℕ). digit k ∷ []) (let m : n ≡ n % 10 = omega arith in m)))
