-- The erasures among the bytes of a number, found by arithmetic on all bytes at once. The law is stated over the number of bytes,
-- so that a byte is met once. Assumes nothing.
use Prim.Native.Nat.{ℕ, zero, suc, ◌+◌, ◌*◌, ◌/◌, ◌%◌, ◌^◌, ◌<◌}
use mathlib.Core.Path.{◌≡◌, refl, sym, ap, ap₂, ◌∙◌}
use mathlib.Core.Bool.{Bool, true, false}
use native.Mathlib.Omega.{arith}
use native.Mathlib.Nat.{mod-lt, add-mul, div-div-eq-div-mul, div-one, pow-suc}
use borrow.Author.Tests.{eqb-true}
use lib.Dec.{eqb, lit<}
use lib.Pow.{pow_pos, split}
use lib.Bits.{bit_and, bit_or, bit_xor, and_block, or_block, xor_block, and_lt, or_lt, xor_lt, and_le_r, and_zero_r, xor_zero_r}
use lib.Count.{ones, ones_cat}
use Rattle.graph.specs.Count.{one, count}
use Rattle.graph.specs.Filling.{erasures}
use Rattle.graph.proofs.Cases.{all_at}
use Rattle.std.specs.Int.{byte_at, bytes_low_first, from_le_bytes}
use Rattle.std.specs.Int.{w64}
use Rattle.std.proofs.lemmas.Nat.{le_bytes_8}
use lib.ListN.{length, get_or}
use mathlib.Core.List.{List, ◌∷◌}
use Rattle.syndrome.specs.Lanes.{bytes_of}

-- the same byte n times
unfoldable pub repeat : ℕ → ℕ → ℕ
repeat b zero = 0
repeat b (suc n) = repeat b n * 2 ^ 8 + b

-- what the code computes of n bytes: the top bit of each that is 2
abbrev pub flags : ℕ → ℕ → ℕ
flags n x = let y = bit_xor x (repeat 2 n) in bit_xor (bit_and (bit_or (bit_and y (repeat 127 n) + repeat 127 n) y) (repeat 128 n)) (repeat 128 n)

sum_fields : (a b p u v : ℕ) → (a * p + u) + (b * p + v) ≡ (a + b) * p + (u + v)
sum_fields a b p u v = omega (arith, add-mul a b p)

-- THE LAW OF A LANE: the lowest byte and those above it have their flags each by itself
lane : (n x b : ℕ) → b < 2 ^ 8 → flags (suc n) (x * 2 ^ 8 + b) ≡ flags n x * 2 ^ 8 + flags 1 b
unfolding repeat
lane n x b h =
    let L = repeat 127 n in
    let O = repeat 128 n in
    let y = bit_xor x (repeat 2 n) in
    let z = bit_xor b 2 in
    let hz : z < 2 ^ 8 = xor_lt 8 b 2 h (lit< tt) in
    let s = bit_and y L + L in
    let u = bit_and z 127 + 127 in
    let hu : u < 2 ^ 8 = omega (arith, and_le_r z 127) in
    let w = bit_or u z in
    let hw : w < 2 ^ 8 = or_lt 8 u z hu hz in
    rw (
      xor_block 8 x (repeat 2 n) b 2 h (lit< tt),
      and_block 8 y L z 127 hz (lit< tt),
      sum_fields (bit_and y L) L (2 ^ 8) (bit_and z 127) 127,
      or_block 8 s y u z hu hz,
      and_block 8 (bit_or s y) O w 128 hw (lit< tt),
      xor_block 8 (bit_and (bit_or s y) O) O (bit_and w 128) 128 (and_lt 8 w 128 hw (lit< tt)) (lit< tt),
    )

-- a byte has its flag where it is 2: a test of all 256
flag : (b : ℕ) → b < 2 ^ 8 → flags 1 b ≡ one (eqb b 2) * 128
unfolding repeat
flag b h = eqb-true _ _ (all_at 256 (λ k. eqb (flags 1 k) (one (eqb k 2) * 128)) refl b h)

one_flag : (t : Bool) → (one t * 128 < 2 ^ 8) × (ones (one t * 128) ≡ one t)
unfolding ones
one_flag true = (lit< tt, refl)
one_flag false = (lit< tt, refl)

masked : (t : ℕ) → bit_xor (bit_and t 0) 0 ≡ 0
masked t = xor_zero_r (bit_and t 0) ∙ and_zero_r t

-- as many flags as erasures
pub counted : (n x : ℕ) → ones (flags n x) ≡ erasures (bytes_of n x)
unfolding repeat bytes_of erasures count ones
counted zero x = ap ones (masked (bit_or (bit_and (bit_xor x 0) 0 + 0) (bit_xor x 0)))
counted (suc n) x =
    let b = x % 2 ^ 8 in
    let rest = x / 2 ^ 8 in
    let h : b < 2 ^ 8 = mod-lt x (pow_pos 8) in
    let this = one_flag (eqb b 2) in
    ap (λ (k : ℕ). ones (flags (suc n) k)) (sym (split x 8))
    ∙ ap ones (lane n rest b h ∙ ap (λ (k : ℕ). flags n rest * 2 ^ 8 + k) (flag b h))
    ∙ ones_cat 8 (flags n rest) (one (eqb b 2) * 128) this.0
    ∙ omega (arith, this.1, counted n rest)

-- the same bytes, as std has them, from byte i on
byte : (i x : ℕ) → byte_at i x ≡ x / 256 ^ i % 256
byte zero x = ap (λ (k : ℕ). k % 256) (sym (div-one x))
byte (suc i) x = refl

bytes_from : (n i x : ℕ) → bytes_of n (x / 256 ^ i) ≡ bytes_low_first i n x
unfolding bytes_of
bytes_from zero i x = refl
bytes_from (suc n) i x =
    ap₂ (λ (y : ℕ) (l : List ℕ). y ∷ l) (sym (byte i x))
    (ap (bytes_of n) (div-div-eq-div-mul x (256 ^ i) 256 ∙ ap (λ (k : ℕ). x / k) (sym (pow-suc 256 i))) ∙ bytes_from n (suc i) x)

-- eight bytes read as one number
pub read : (eight : List ℕ) → length eight ≡ 8 → ((i : ℕ) → get_or eight i 0 < 256) → bytes_of 8 (from_le_bytes w64 eight) ≡ eight
read eight h fits =
    let x = from_le_bytes w64 eight in
    ap (bytes_of 8) (sym (div-one x)) ∙ bytes_from 8 0 x ∙ le_bytes_8 eight x h fits refl
