-- Numbers of checks and bits, and sums modulo the lift. Assumes nothing.
use Prim.Native.Nat.{ℕ, ◌+◌, ◌-◌, ◌*◌, ◌/◌, ◌%◌, ◌≤◌, ◌<◌}
use mathlib.Core.Path.{◌≡◌, sym, ap, ap₂, ◌∙◌}
use native.Mathlib.Omega.{arith}
use native.Mathlib.Nat.{mul-add-div_right, mul-add-mod_self_right, mod-eq_of_lt, mod-lt, div-eq_of_lt, div-lt_iff_lt-mul, mul-le-mul, mul-le-mul_right, suc-mul, div-add-mod', mod-add-mod, add-mod-mod, add-mod_right}

-- number i * lift + y lies below n * lift; so does place (i, j) of a list of rows
pub number_low : (i y n lift : ℕ) → i < n → y < lift → i * lift + y < n * lift
number_low i y n lift h k = omega (arith, suc-mul i lift, mul-le-mul_right lift h)

-- a number is told by its block and its place
pub same_number : (lift a b : ℕ) → a / lift ≡ b / lift → a % lift ≡ b % lift → a ≡ b
same_number lift a b p q = sym (div-add-mod' a lift) ∙ ap₂ (λ (x y : ℕ). x * lift + y) p q ∙ div-add-mod' b lift

-- the places of a plan
pub place_small : (rows cols : ℕ) → rows ≤ 192 → cols ≤ 512 → rows * cols ≤ 98304
place_small rows cols p q = mul-le-mul p q

module _ (lift : ℕ) (some : 0 < lift) where
  -- number i * lift + y stands in block i, at place y
  pub block_of_law : (i y : ℕ) → y < lift → (i * lift + y) / lift ≡ i
  block_of_law i y h = mul-add-div_right some i y ∙ omega (arith, div-eq_of_lt h)

  pub place_of : (i y : ℕ) → y < lift → (i * lift + y) % lift ≡ y
  place_of i y h = mul-add-mod_self_right i lift y ∙ mod-eq_of_lt h

  pub block_low : (x n : ℕ) → x < n * lift → x / lift < n
  block_low x n h = (div-lt_iff_lt-mul some).1 h

  -- a step by e is undone by a step by d where e + d is the lift
  pub undo : (e d y z : ℕ) → e + d ≡ lift → y < lift → (y + e) % lift ≡ z → (z + d) % lift ≡ y
  undo e d y z w h q =
      ap (λ (x : ℕ). (x + d) % lift) (sym q)
      ∙ mod-add-mod (y + e) lift d
      ∙ ap (λ (x : ℕ). x % lift) (let r : y + e + d ≡ y + lift = omega arith in r)
      ∙ add-mod_right y lift
      ∙ mod-eq_of_lt h

  -- what is added to both sides may be taken away
  pub cancel : (a b k : ℕ) → a < lift → b < lift → (a + k) % lift ≡ (b + k) % lift → a ≡ b
  cancel a b k p q e =
      let low = mod-lt k some in
      let same : (x : ℕ) → (x + k % lift) % lift ≡ (x + k) % lift = λ x. add-mod-mod x k lift in
      let back : (x : ℕ) → x < lift → ((x + k) % lift + (lift - k % lift)) % lift ≡ x = λ x h. undo (k % lift) (lift - k % lift) x ((x + k) % lift) (omega arith) h (same x) in
      sym (back a p) ∙ ap (λ (x : ℕ). (x + (lift - k % lift)) % lift) e ∙ back b q

  -- two steps in either order
  pub swap : (y e k : ℕ) → ((y + k) % lift + e) % lift ≡ ((y + e) % lift + k) % lift
  swap y e k =
      mod-add-mod (y + k) lift e
      ∙ ap (λ (x : ℕ). x % lift) (let r : y + k + e ≡ y + e + k = omega arith in r)
      ∙ sym (mod-add-mod (y + e) lift k)
