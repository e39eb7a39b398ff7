-- Sizes that share a divisor above 1, and the unit of those that do not. Assumes nothing.
use Prim.Native.Nat.{ℕ, suc, ◌-◌, ◌*◌, ◌/◌, ◌%◌, ◌≤◌, ◌<◌, ◌∣◌}
use mathlib.Core.Path.{◌≡◌, refl, sym, ap, subst, ◌∙◌}
use mathlib.Core.Logic.{◌≢◌, ◌↔◌}
use mathlib.Core.Bool.{Bool, true, false, not, ◌&&◌}
use mathlib.Core.List.{List, map}
use native.Mathlib.Omega.{arith}
use native.Mathlib.Nat.{mod-lt, div-add-mod', mul_comm, mul_assoc, mul-sub, suc-mul, mul-le-mul_right, mul-mod_right, dvd-mul_left, dvd-mul_left_of_dvd, dvd-sub, dvd-mod_iff, dvd-one, le_of_dvd, mod-eq-zero_of_dvd, dvd_of_mod-eq-zero, mul-div_cancel', dvd_of_mul-dvd-mul_left, dvd_trans}
use borrow.Author.Tests.{eqb-true, eqb-false, eq-eqb, ne_eqb, ltb-true, lt-ltb}
use lib.Dec.{eqb, ltb}
use lib.ListN.{get_or}
use Rattle.refusal.specs.Place.{first_place}
use Rattle.refusal.proofs.Place.{first_le, before_first, at_first}
use Rattle.graph.specs.Count.{Mem, Nodup, below}
use Rattle.graph.specs.Erasure.{any}
use Rattle.graph.proofs.Decide.{both_ways, by_bool, by_eq, by_le, and_left, and_right, and_both}
use Rattle.graph.proofs.Lists.{get_or_nodup, each_image}
use Rattle.graph.proofs.Count.{length_range, get_or_range, nodup_range, count_le, count_full, crowd, get_or_map_below, length_map_below}
use Rattle.graph.proofs.Neighbours.{below_mem, mem_below}
use Rattle.graph.proofs.Peeling.{any_some, any_true, any_false}
use Rattle.crt.specs.Remainders.{divides, shared}
use Rattle.crt.specs.Work.{UnitOf}

-- numbers with equal remainders differ by a multiple
pub equal_divides : (a b P : ℕ) → a ≤ b → a % P ≡ b % P → P ∣ b - a
equal_divides a b P h e =
    subst (λ (x : ℕ). P ∣ x) (let r : b / P * P - a / P * P ≡ b - a = omega (arith, div-add-mod' a P, div-add-mod' b P) in r)
    (dvd-sub P (dvd-mul_left P (b / P)) (dvd-mul_left P (a / P)))

-- a divisor above 1 is shared: the test by remainders says so
pub shared_exactly : (P Q : ℕ) → 0 < P → (shared P Q ≡ true) ↔ ((d : ℕ) × (1 < d) × (d ∣ P) × (d ∣ Q))
unfolding shared
shared_exactly P Q some_p = (
  λ e.
      let (d, _, t) = any_true (suc P) (divides P Q) e in
      let both = and_right (ltb 1 d) _ t in (
        d,
        ltb-true 1 d (and_left _ (eqb (P % d) 0 && eqb (Q % d) 0) t),
        dvd_of_mod-eq-zero d (eqb-true (P % d) 0 (and_left _ (eqb (Q % d) 0) both)),
        dvd_of_mod-eq-zero d (eqb-true (Q % d) 0 (and_right (eqb (P % d) 0) _ both)),
      ),
  λ (d, above, p, q).
      any_some (suc P) (divides P Q) d (omega (arith, le_of_dvd some_p p))
      (and_both _ _ (lt-ltb 1 d above) (and_both _ _ (eq-eqb (P % d) 0 (mod-eq-zero_of_dvd d p)) (eq-eqb (Q % d) 0 (mod-eq-zero_of_dvd d q)))),
)

-- with a unit no divisor is shared
pub unit_not_shared : (P Q u : ℕ) → 0 < P → UnitOf P Q u → shared P Q ≡ false
unit_not_shared P Q u some_p unit =
    by_bool (shared P Q)
    (λ t.
    let (d, above, p, q) = (shared_exactly P Q some_p).0 t in
    let of-unit : d ∣ u = dvd_trans d p (dvd_of_mod-eq-zero P unit.multiple) in
    let of_one : d ∣ 1 = (dvd-mod_iff d q).0 (subst (λ (x : ℕ). d ∣ x) unit.leaves_one ((dvd-mod_iff d q).1 of-unit)) in
    absurd (omega (arith, dvd-one.0 of_one)))
    (λ t. t)

-- a multiple of P that leaves 1
pub is_unit : (P Q k : ℕ) → 0 < P → k < Q → (P * k) % Q ≡ 1 % Q → UnitOf P Q (P * k)
is_unit P Q k some_p h e =
    record {
      multiple = mul-mod_right P k;
      leaves_one = e;
      low = omega (arith, mul-le-mul_right P h, suc-mul k P, mul_comm P k, mul_comm P Q);
    }

-- WITHOUT A UNIT a divisor is shared: either two of the multiples 0, P, …, (Q − 1) P leave the same, or they leave every remainder
module _ (P Q : ℕ) (some_p : 0 < P) (some_q : 0 < Q) (none : (k : ℕ) → k < Q → (P * k) % Q ≢ 1 % Q) where
  -- suc k is a multiplier that takes P to a multiple of Q
  closes : ℕ → Bool
  closes k = eqb ((P * suc k) % Q) 0

  -- where none does below Q, all remainders occur
  all_occur : ((k : ℕ) → 0 < k → k < Q → (P * k) % Q ≢ 0) → ⊥
  all_occur never =
      let f : ℕ → ℕ = λ k. (P * k) % Q in
      let xs : List ℕ = map f (below Q) in
      let other : ℕ → Bool = λ x. not (eqb x (1 % Q)) in
      let distinct : Nodup xs = get_or_nodup xs 0 λ i j h l e.
      let jn : j < Q = omega (arith, length_map_below f Q) in
      let same : f i ≡ f j = sym (get_or_map_below 0 f Q i (omega arith)) ∙ e ∙ get_or_map_below 0 f Q j jn in
      let over = equal_divides (P * i) (P * j) Q (omega (arith, mul-le-mul_right P (let r : i ≤ j = omega arith in r), mul_comm P i, mul_comm P j)) same in
      never (j - i) (omega arith) (omega arith) (mod-eq-zero_of_dvd Q (subst (λ (x : ℕ). Q ∣ x) (sym (mul-sub P j i)) over)) in
      let inside : (x : ℕ) → Mem x xs → Mem x (below Q) × (other x ≡ true) =
      each_image f (λ x. Mem x (below Q) × (other x ≡ true)) (below Q) (λ k m. (below_mem (f k) Q (mod-lt (P * k) some_q), ap not (ne_eqb (f k) (1 % Q) (none k (mem_below k Q m))))) in
      let many = crowd xs other (below Q) (nodup_range 0 Q) distinct inside in
      let full = count_full other (λ x. true) (below Q) (λ x e. refl) (omega (arith, count_le (λ x. true) (below Q), length_range 0 Q, length_map_below f Q)) (1 % Q) (below_mem (1 % Q) Q (mod-lt 1 some_q)) refl in
      both_ways full (ap not (eq-eqb (1 % Q) (1 % Q) refl))

  -- the least one shows the divisor
  module _ (k : ℕ) (some-k : 0 < k) (low : k < Q) (closed : (P * k) % Q ≡ 0) (least : (i : ℕ) → 0 < i → i < k → (P * i) % Q ≢ 0) where
    whole : k ∣ Q
    whole =
        let r : ℕ = Q % k in
        let over : Q ∣ P * r =
        subst (λ (x : ℕ). Q ∣ x) (let e : P * Q - P * (Q / k * k) ≡ P * r = sym (mul-sub P Q (Q / k * k)) ∙ ap (λ (x : ℕ). P * x) (omega (arith, div-add-mod' Q k)) in e)
        (dvd-sub Q (dvd-mul_left Q P)
        (subst (λ (x : ℕ). Q ∣ x) (let e : Q / k * (P * k) ≡ P * (Q / k * k) = sym (mul_assoc (Q / k) P k) ∙ ap (λ (x : ℕ). x * k) (mul_comm (Q / k) P) ∙ mul_assoc P (Q / k) k in e)
        (dvd-mul_left_of_dvd Q (dvd_of_mod-eq-zero Q closed) (Q / k)))) in
        dvd_of_mod-eq-zero k
        (by_eq (Q % k) 0 (λ e. e) (λ e. absurd (least r (omega arith) (mod-lt Q some-k) (mod-eq-zero_of_dvd Q over))))

    shows : shared P Q ≡ true
    shows =
        let d : ℕ = Q / k in
        let product : k * d ≡ Q = mul-div_cancel' k whole in
        let of-Q : d ∣ Q = subst (λ (x : ℕ). d ∣ x) product (dvd-mul_left d k) in
        let of-P : d ∣ P = dvd_of_mul-dvd-mul_left d some-k (subst (λ (x : ℕ). x ∣ k * P) (sym product) (subst (λ (x : ℕ). Q ∣ x) (mul_comm P k) (dvd_of_mod-eq-zero Q closed))) in
        let above : 1 < d = by_le d 1 (λ h. absurd (omega (arith, product, mul-le-mul_right k h, mul_comm k d))) (λ h. h) in
        (shared_exactly P Q some_p).1 (d, above, of-P, of-Q)

  pub none_shared : shared P Q ≡ true
  unfolding closes
  none_shared =
      let n : ℕ = first_place closes (below (Q - 1)) in
      let at : (i : ℕ) → i < Q - 1 → get_or (below (Q - 1)) i 0 ≡ i = λ i h. omega (arith, get_or_range 0 (Q - 1) i h) in
      let few : n ≤ Q - 1 = omega (arith, first_le closes 0 (below (Q - 1)), length_range 0 (Q - 1)) in
      let before : (i : ℕ) → 0 < i → i < suc n → (P * i) % Q ≢ 0 = λ i p h.
      let t = before_first closes 0 (below (Q - 1)) (i - 1) (omega arith) in
      let e = rw (at (i - 1) (omega arith)) at t in
      subst (λ (x : ℕ). (P * x) % Q ≢ 0) (let r : suc (i - 1) ≡ i = omega arith in r) (eqb-false ((P * suc (i - 1)) % Q) 0 e) in
      by_le (Q - 1) n
      (λ h. absurd (all_occur (λ k p l. before k p (omega arith))))
      (λ h.
      let t = at_first closes 0 (below (Q - 1)) (omega (arith, length_range 0 (Q - 1))) in
      let e = rw (at n h) at t in
      shows (suc n) (omega arith) (omega arith) (eqb-true ((P * suc n) % Q) 0 e) before)

-- where no divisor is shared there is a unit
pub unit_of : (P Q : ℕ) → 0 < P → 0 < Q → shared P Q ≡ false → (u : ℕ) × UnitOf P Q u
unit_of P Q some_p some_q coprime =
    by_bool (any Q (λ k. eqb ((P * k) % Q) (1 % Q)))
    (λ e. let (k, low, t) = any_true Q (λ k. eqb ((P * k) % Q) (1 % Q)) e in (P * k, is_unit P Q k some_p low (eqb-true ((P * k) % Q) (1 % Q) t)))
    (λ e. both_ways (none_shared P Q some_p some_q (λ k h. eqb-false ((P * k) % Q) (1 % Q) (any_false Q (λ k. eqb ((P * k) % Q) (1 % Q)) e k h))) coprime)
