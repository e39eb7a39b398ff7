-- The columns of a plan by their digits, and bounds on its sizes. Assumes nothing.
use Prim.Native.Nat.{ℕ, ◌*◌, ◌/◌, ◌%◌, ◌<◌, ◌≤◌}
use mathlib.Core.Path.{◌≡◌, ◌∙◌}
use mathlib.Core.List.{[], ◌∷◌}
use native.Mathlib.Nat.{mul-le-mul}
use native.Mathlib.Omega.{arith}
use Rattle.square.specs.Each.{each, upon}
use Rattle.square.proofs.Places.{square, digit, first_digit}
use Rattle.square.proofs.Each.{each_digits}
use Rattle.grid.specs.Plan.{Ones, columns}
use Rattle.grid.specs.Inner.{Within, column}

-- the sizes of a plan
pub cols_small : (J L : ℕ) → J < 8 → L < 8 → J * (L * L) ≤ 343
cols_small J L h k = mul-le-mul {n₁ = J} {m₁ = L * L} {n₂ = 7} {m₂ = 49} (omega arith) (square L L k k)

pub bits_small : (J L P : ℕ) → J < 8 → L < 8 → P ≤ 4096 → J * (L * L) * P ≤ 1404928
bits_small J L P h k p = mul-le-mul {n₁ = J * (L * L)} {m₁ = P} {n₂ = 343} {m₂ = 4096} (cols_small J L h k) p

pub plan_small : (J L : ℕ) → J < 8 → L < 8 → 3 * (L * J) * (J * (L * L)) ≤ 50421
plan_small J L h k = mul-le-mul {n₁ = 3 * (L * J)} {m₁ = J * (L * L)} {n₂ = 147} {m₂ = 343} (omega (arith, square L J k h)) (cols_small J L h k)

module _ (J : ℕ) (some : 0 < J) where
  pub column_within : (n L : ℕ) → n < L * J * J → L ≤ J → Within J (column J n)
  column_within n L h l =
      record { a_in = omega (arith, first_digit J some (n / J) L (first_digit J some n (L * J) h)); j_in = digit J some (n / J); r_in = digit J some n }

  pub columns_are : (L : ℕ) (mask : Ones) → columns J L mask ≡ each (L * J * J) (λ n. upon (mask (column J n).j (column J n).r) (column J n ∷ []))
  unfolding columns
  columns_are L mask =
      each_digits L J some (λ a j. each J (λ r. upon (mask j r) (record { a = a; j = j; r = r } ∷ [])))
      ∙ each_digits (L * J) J some (λ x r. upon (mask (x % J) r) (record { a = x / J; j = x % J; r = r } ∷ []))
