-- The number with two given remainders, found with the unit of the two sizes, and that it is the only one. Assumes nothing.
use Prim.Native.Nat.{ℕ, ◌+◌, ◌-◌, ◌*◌, ◌/◌, ◌%◌, ◌≤◌, ◌<◌, ◌∣◌}
use mathlib.Core.Path.{◌≡◌, sym, ap, subst, ◌∙◌}
use mathlib.Core.Bool.{true}
use native.Mathlib.Omega.{arith}
use native.Mathlib.Nat.{mod-lt, mod-eq_of_lt, add-mod-mod, mod-mod_of_dvd, mul-add-mod_self_right, add-mod_right, div-add-mod', add-mul, mul_comm, mul_assoc, mul-le-mul_right, mul-le-mul, dvd-mul_left, dvd-mul_right, dvd-mul_right_of_dvd, dvd-mul_left_of_dvd, mod-eq-zero_of_dvd, dvd_of_mod-eq-zero, mul-div_cancel'}
use borrow.Author.Tests.{eqb-true, eq-eqb}
use lib.Dec.{eqb}
use lib.ListN.{get_or}
use Rattle.refusal.proofs.Place.{first_at}
use Rattle.graph.specs.Count.{below}
use Rattle.graph.proofs.Decide.{by_bool, by_le, and_left, and_right, and_both}
use Rattle.graph.proofs.Count.{length_range, get_or_range}
use Rattle.crt.specs.Remainders.{leaves, remainders}
use Rattle.crt.specs.Work.{UnitOf}
use Rattle.crt.proofs.Units.{equal_divides}

-- a factor may be reduced first
mul_mod : (a k Q : ℕ) → (a * k) % Q ≡ (a % Q * k) % Q
mul_mod a k Q =
    ap (λ (x : ℕ). x % Q) split ∙ mul-add-mod_self_right (a / Q * k) Q (a % Q * k)
  where
    split : a * k ≡ a / Q * k * Q + a % Q * k
    split =
        ap (λ (x : ℕ). x * k) (sym (div-add-mod' a Q))
        ∙ add-mul (a / Q * Q) (a % Q) k
        ∙ ap (λ (x : ℕ). x + a % Q * k) (mul_assoc (a / Q) Q k ∙ ap (λ (x : ℕ). a / Q * x) (mul_comm Q k) ∙ sym (mul_assoc (a / Q) k Q))

module _ (P Q u : ℕ) (some_p : 0 < P) (some_q : 0 < Q) (unit : UnitOf P Q u) where
  -- what the unit does to a factor
  unit_mod : (k : ℕ) → (u * k) % Q ≡ k % Q
  unit_mod k =
      mul_mod u k Q
      ∙ ap (λ (x : ℕ). (x * k) % Q) unit.leaves_one
      ∙ sym (mul_mod 1 k Q)
      ∙ ap (λ (x : ℕ). x % Q) (let r : 1 * k ≡ k = omega arith in r)

  -- the number with the remainders e and f
  unfoldable pub found : ℕ → ℕ → ℕ
  found e f = (e + u * (f + (Q - e % Q))) % (P * Q)

  found_first : (e f : ℕ) → found e f % P ≡ e % P
  unfolding found
  found_first e f =
      mod-mod_of_dvd P (e + u * (f + (Q - e % Q))) (dvd-mul_right P Q)
      ∙ sym (add-mod-mod e (u * (f + (Q - e % Q))) P)
      ∙ ap (λ (x : ℕ). (e + x) % P) (mod-eq-zero_of_dvd P (dvd-mul_right_of_dvd P (dvd_of_mod-eq-zero P unit.multiple) (f + (Q - e % Q))))
      ∙ ap (λ (x : ℕ). x % P) (let r : e + 0 ≡ e = omega arith in r)

  found_second : (e f : ℕ) → found e f % Q ≡ f % Q
  unfolding found
  found_second e f =
      let k : ℕ = f + (Q - e % Q) in
      mod-mod_of_dvd Q (e + u * k) (dvd-mul_left Q P)
      ∙ sym (add-mod-mod e (u * k) Q)
      ∙ ap (λ (x : ℕ). (e + x) % Q) (unit_mod k)
      ∙ add-mod-mod e k Q
      ∙ ap (λ (x : ℕ). x % Q) (let r : e + k ≡ e / Q * Q + (f + Q) = omega (arith, div-add-mod' e Q, mod-lt e some_q) in r)
      ∙ mul-add-mod_self_right (e / Q) Q (f + Q)
      ∙ add-mod_right f Q

  -- a multiple of both, below the product, is 0
  small_multiple : (d : ℕ) → P ∣ d → Q ∣ d → d < P * Q → d ≡ 0
  small_multiple d p q h =
      let a : ℕ = d / P in
      let whole : P * a ≡ d = mul-div_cancel' P p in
      let m : ℕ = u / P in
      let u-whole : P * m ≡ u = mul-div_cancel' P (dvd_of_mod-eq-zero P unit.multiple) in
      let turned : u * a ≡ m * d = ap (λ (x : ℕ). x * a) (sym u-whole) ∙ ap (λ (x : ℕ). x * a) (mul_comm P m) ∙ mul_assoc m P a ∙ ap (λ (x : ℕ). m * x) whole in
      let zero-mod : a % Q ≡ 0 = sym (unit_mod a) ∙ mod-eq-zero_of_dvd Q (subst (λ (x : ℕ). Q ∣ x) (sym turned) (dvd-mul_left_of_dvd Q q m)) in
      let low : a < Q = by_le Q a (λ l. absurd (omega (arith, mul-le-mul_right P l, mul_comm P a, mul_comm P Q))) (λ l. l) in
      let none : a ≡ 0 = sym (mod-eq_of_lt low) ∙ zero-mod in
      sym whole ∙ ap (λ (x : ℕ). P * x) none ∙ omega arith

  only_up : (x y : ℕ) → x ≤ y → y < P * Q → x % P ≡ y % P → x % Q ≡ y % Q → x ≡ y
  only_up x y h l e f =
      let z : y - x ≡ 0 = small_multiple (y - x) (equal_divides x y P h e) (equal_divides x y Q h f) (omega arith) in
      omega arith

  -- THE ONLY ONE
  pub only_number : (x y : ℕ) → x < P * Q → y < P * Q → x % P ≡ y % P → x % Q ≡ y % Q → x ≡ y
  only_number x y h l e f = by_le x y (λ k. only_up x y k l e f) (λ k. sym (only_up y x (omega arith) h (sym e) (sym f)))

  some_product : 0 < P * Q
  some_product = omega (arith, mul-le-mul some_p some_q)

  pub found_low : (e f : ℕ) → found e f < P * Q
  unfolding found
  found_low e f = mod-lt (e + u * (f + (Q - e % Q))) some_product

  found_leaves : (e f : ℕ) → leaves P Q e f (found e f) ≡ true
  found_leaves e f = and_both _ _ (eq-eqb _ _ (found_first e f)) (eq-eqb _ _ (found_second e f))

  -- so it is the first that does
  pub found_remainders : (e f : ℕ) → remainders P Q e f ≡ found e f
  unfolding remainders
  found_remainders e f =
      let x : ℕ = found e f in
      let at : (i : ℕ) → i < P * Q → get_or (below (P * Q)) i 0 ≡ i = λ i k. omega (arith, get_or_range 0 (P * Q) i k) in
      first_at (leaves P Q e f) 0 (below (P * Q)) x
      (λ i k. rw (at i (omega (arith, found_low e f))) (by_bool (leaves P Q e f i) (λ t. absurd (omega (arith, other i (omega (arith, found_low e f)) t))) (λ t. t)))
      (omega (arith, found_low e f, length_range 0 (P * Q)))
      (rw (at x (found_low e f)) (found_leaves e f))
    where
      other : (i : ℕ) → i < P * Q → leaves P Q e f i ≡ true → i ≡ found e f
      other i h t =
          let p = eqb-true (i % P) (e % P) (and_left _ (eqb (i % Q) (f % Q)) t) in
          let q = eqb-true (i % Q) (f % Q) (and_right (eqb (i % P) (e % P)) _ t) in
          only_number i (found e f) h (found_low e f) (p ∙ sym (found_first e f)) (q ∙ sym (found_second e f))

  -- what the joined number is
  pub remainders_low : (e f : ℕ) → remainders P Q e f < P * Q
  remainders_low e f = rw (found_remainders e f) (found_low e f)

  pub remainders_first : (e f : ℕ) → remainders P Q e f % P ≡ e % P
  remainders_first e f = rw (found_remainders e f) (found_first e f)

  pub remainders_second : (e f : ℕ) → remainders P Q e f % Q ≡ f % Q
  remainders_second e f = rw (found_remainders e f) (found_second e f)
