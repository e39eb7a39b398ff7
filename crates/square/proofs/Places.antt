-- Places of a J × J list, digits to the base J, and bounds on products of small numbers. Assumes nothing.
use Prim.Native.Nat.{ℕ, ◌+◌, ◌*◌, ◌/◌, ◌%◌, ◌<◌, ◌≤◌}
use native.Mathlib.Nat.{mul-le-mul, mul-le-mul_right, mod-lt, div-lt_iff_lt-mul}
use native.Mathlib.Omega.{arith}
use Rattle.square.specs.Inner.{quad}

pub place : (J i r : ℕ) → i < J → r < J → i * J + r < J * J
place J i r hi hr = omega (arith, mul-le-mul_right J hi)

-- numbers below 8
pub square : (m n : ℕ) → m < 8 → n < 8 → m * n ≤ 49
square m n h k = mul-le-mul {n₁ = m} {m₁ = n} {n₂ = 7} {m₂ = 7} (omega arith) (omega arith)

pub cube : (m n o : ℕ) → m < 8 → n < 8 → o < 8 → m * n * o ≤ 343
cube m n o h k l = mul-le-mul {n₁ = m * n} {m₁ = o} {n₂ = 49} {m₂ = 7} (square m n h k) (omega arith)

pub small_place : (J i r : ℕ) → J < 8 → i < J → r < J → i * J + r < 64
small_place J i r h hi hr = omega (arith, place J i r hi hr, square J J h h)

module _ (J : ℕ) (some : 0 < J) where
  pub digit : (n : ℕ) → n % J < J
  digit n = mod-lt n some

  -- the first digit of a number below m * J
  pub first_digit : (n m : ℕ) → n < m * J → n / J < m
  first_digit n m h = (div-lt_iff_lt-mul some).1 h

  pub quad_within : (n : ℕ) → n < J * J * J * J → let q = quad J n in (q.i < J) × (q.k < J) × (q.r < J) × (q.t < J)
  quad_within n h =
      (first_digit (n / J / J) J (first_digit (n / J) (J * J) (first_digit n (J * J * J) h)), digit (n / J / J), digit (n / J), digit n)

pub fourth : (J : ℕ) → J < 8 → J * J * J * J ≤ 2401
fourth J h = mul-le-mul {n₁ = J * J * J} {m₁ = J} {n₂ = 343} {m₂ = 7} (cube J J J h h h) (omega arith)
