-- Bytes put together to a number whose bytes they are. Assumes nothing.
use Prim.Native.Nat.{ℕ, zero, suc, ◌+◌, ◌*◌, ◌/◌, ◌%◌, ◌^◌, ◌<◌}
use mathlib.Core.Path.{◌≡◌, refl, sym, ap, ap₂, ◌∙◌}
use mathlib.Core.List.{List, [], ◌∷◌, ◌++◌}
use native.Mathlib.Omega.{arith}
use native.Mathlib.Nat.{mod-lt, mul_assoc}
use lib.Arith.{digits_lt}
use lib.Pow.{pow_pos, pow-add, high, low}
use lib.Bits.{bit_or, or_shifted_r}
use lib.ListN.{get_or, take, length}
use lib.Seq.{take-suc}
use Rattle.syndrome.specs.Lanes.{bytes_of}

-- a byte more is a factor of 256 more
power : (n : ℕ) → 2 ^ (8 * suc n) ≡ 2 ^ (8 * n) * 2 ^ 8
power n = ap (λ (k : ℕ). 2 ^ k) (let e : 8 * suc n ≡ 8 * n + 8 = omega arith in e) ∙ pow-add 2 (8 * n) 8

-- a byte above n others
above : (n x b : ℕ) → x < 2 ^ (8 * n) → b < 2 ^ 8 → bytes_of (suc n) (b * 2 ^ (8 * n) + x) ≡ bytes_of n x ++ b ∷ []
unfolding bytes_of
above zero x b h k = ap (λ (y : ℕ). y ∷ []) (let e : (b * 1 + x) % 256 ≡ b = omega arith in e)
above (suc n) x b h k =
    let rest = b * 2 ^ (8 * n) + x / 2 ^ 8 in
    let less : x / 2 ^ 8 < 2 ^ (8 * n) = omega (arith, power n) in
    let low_byte : x % 2 ^ 8 < 2 ^ 8 = mod-lt x (pow_pos 8) in
    let all : b * 2 ^ (8 * suc n) + x ≡ rest * 2 ^ 8 + x % 2 ^ 8 = omega (arith, ap (λ (p : ℕ). b * p) (power n) ∙ sym (mul_assoc b (2 ^ (8 * n)) (2 ^ 8))) in
    ap₂ (λ (y : ℕ) (l : List ℕ). y ∷ l)
    (ap (λ (y : ℕ). y % 2 ^ 8) all ∙ low rest 8 low_byte)
    (ap (λ (y : ℕ). bytes_of (suc n) (y / 2 ^ 8)) all ∙ ap (bytes_of (suc n)) (high rest 8 low_byte) ∙ above n (x / 2 ^ 8) b less k)

-- x is made of the first n bytes of a list
pub record Packed (l : List ℕ) (n x : ℕ) : Type 0 where
  pub small : x < 2 ^ (8 * n)
  pub are : bytes_of n x ≡ take n l

module _ (l : List ℕ) (bytes : (i : ℕ) → get_or l i 0 < 2 ^ 8) where
  pub none : Packed l 0 0
  unfolding bytes_of
  none = record { small = omega arith; are = refl }

  pub more : {x y : ℕ} (n : ℕ) → n < length l → Packed l n x → y ≡ get_or l n 0 * 2 ^ (8 * n) → Packed l (suc n) (bit_or x y)
  more {x} {y} n h p e =
      let b = get_or l n 0 in
      let sum : bit_or x y ≡ b * 2 ^ (8 * n) + x = ap (bit_or x) e ∙ or_shifted_r b (8 * n) x p.small in
      record {
        small = omega (arith, sum, power n, digits_lt (bytes n) p.small);
        are = ap (bytes_of (suc n)) sum ∙ above n x b p.small (bytes n) ∙ ap (λ (m : List ℕ). m ++ b ∷ []) p.are ∙ sym (take-suc l n 0 h);
      }
