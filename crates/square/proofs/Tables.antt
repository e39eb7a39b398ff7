-- The supplied tables are sound: one computed test bounds every difference of differences, and one lemma turns it into soundness
-- for every lift from the bound on (004, Lemma 1, Theorems 2 and 3). Assumes nothing.
use Prim.Native.Nat.{ℕ, ◌+◌, ◌-◌, ◌*◌, ◌/◌, ◌%◌, ◌<◌, ◌≤◌}
use mathlib.Core.Path.{◌≡◌, refl, sym, ap, ap₂, subst, ◌∙◌}
use mathlib.Core.Bool.{Bool, true, false, not, ◌&&◌}
use mathlib.Core.List.{List}
use mathlib.Core.Logic.{◌≢◌, ◌⊎◌, inl, inr}
use native.Mathlib.Nat.{mul-pos, mod-lt}
use native.Mathlib.Omega.{arith}
use lib.Dec.{ltb, eqb}
use lib.IntN.{ℤ, pos}
use lib.ListN.{get_or}
use borrow.Author.Tests.{ltb-true, eq-eqb, not-true}
use Rattle.refusal.specs.Place.{first_place}
use Rattle.graph.proofs.Decide.{both_ways, and_left, and_right}
use Rattle.graph.proofs.Cases.{all, all_at}
use Rattle.exponent.proofs.Numbers.{block_of_law, place_of}
use Rattle.square.specs.declared.supply.Family.{Family}
use Rattle.square.specs.declared.supply.Family.TheVariants.{Array, Cyclic}
use Rattle.std.specs.Option.{unwrap_or}
use Rattle.square.specs.Table.{signed, table_at, minus, Sound, quads, unsound, half, supplied_at, supplied_table}
use Rattle.square.proofs.Places.{place, square}
use Rattle.square.proofs.Each.{ones_at, supplied_are}
use Rattle.square.proofs.Congruent.{of_minus, close}
use Rattle.square.proofs.Repeats.{sound_unless, sound_exactly}

-- the numbers of the supplied tables are small
pub half_small : (k : ℕ) → k < 8 → half k < 64
half_small k h = omega (arith, square k (k - 1) h (omega arith))

pub supplied_small : (family : Family) (J i r : ℕ) → 0 < J → J < 8 → supplied_at family J i r < 64
supplied_small Array J i r h k = omega (arith, mod-lt (i * r) h)
supplied_small Cyclic J i r h k = half_small _ (omega (arith, mod-lt (r + (J - i)) h))

-- THE LIST holds what the formula says, so it is sound where the formula is
pub supplied_is : (family : Family) (J : ℕ) → 0 < J → (i r : ℕ) → i < J → r < J → table_at J (supplied_table family J) i r ≡ supplied_at family J i r
supplied_is family J some i r hi hr =
    ap (λ (z : ℤ). unwrap_or (signed z) 0)
    (ap (λ (l : List ℤ). get_or l (i * J + r) (pos 0)) (supplied_are J some family)
    ∙ ones_at (J * J) (λ n. pos (supplied_at family J (n / J) (n % J))) (pos 0) (i * J + r) (place J i r hi hr)
    ∙ ap pos (ap₂ (supplied_at family J) (block_of_law J some i r hr) (place_of J some i r hr)))

sound_list : (family : Family) (J P : ℕ) → 0 < J → Sound J P (supplied_at family J) → Sound J P (table_at J (supplied_table family J))
unfolding Sound
sound_list family J P some sound i k r t hi hk hr ht d g e =
    let same : (x y : ℕ) → x < J → y < J → table_at J (supplied_table family J) x y ≡ supplied_at family J x y = supplied_is family J some in
    sound i k r t hi hk hr ht d g (sym (ap₂ (minus P) (same i r hi hr) (same k r hk hr)) ∙ e ∙ ap₂ (minus P) (same i t hi ht) (same k t hk ht))

-- A TEST of the two cross sums of each pair of rows i < k and each pair of columns r < t: different, and less than D / 4 apart
abbrev near : ℕ → ℕ → ℕ → Bool
near D u v = not (eqb u v) && (ltb (4 * u) (4 * v + D) && ltb (4 * v) (4 * u + D))

abbrev bounded : ℕ → ℕ → (ℕ → ℕ → ℕ) → Bool
bounded J D s = all J (λ k. all k (λ i. all J (λ t. all t (λ r. near D (s i r + s k t) (s i t + s k r)))))

near_is : (D u v : ℕ) → near D u v ≡ true → (u ≢ v) × (4 * u < 4 * v + D) × (4 * v < 4 * u + D)
near_is D u v t =
    let w = and_right (not (eqb u v)) (ltb (4 * u) (4 * v + D) && ltb (4 * v) (4 * u + D)) t in (
      λ e. both_ways (eq-eqb u v e) (not-true _ (and_left (not (eqb u v)) _ t)),
      ltb-true _ _ (and_left (ltb (4 * u) (4 * v + D)) _ w),
      ltb-true _ _ (and_right (ltb (4 * u) (4 * v + D)) _ w),
    )

-- THE LEMMA: such a table is sound for every lift from D / 4 on
sound_from : (J D : ℕ) (s : ℕ → ℕ → ℕ) → bounded J D s ≡ true → 0 < J → (P : ℕ) → 0 < P → D ≤ 4 * P → Sound J P s
sound_from J D s w some P p h =
    sound_unless J P s some p λ q r.
    let i = q.i in
    let k = q.k in
    let x = q.r in
    let t = q.t in
    let f : ℕ → ℕ → ℕ → ℕ → Bool = λ k i t r. near D (s i r + s k t) (s i t + s k r) in
    let n₁ = all_at J (λ k. all k (λ i. all J (λ t. all t (λ r. f k i t r)))) w k r.row_in in
    let n₂ = all_at k (λ i. all J (λ t. all t (λ r. f k i t r))) n₁ i r.rows_differ in
    let n₃ = all_at J (λ t. all t (λ r. f k i t r)) n₂ t r.column_in in
    let y = near_is D (s i x + s k t) (s i t + s k x) (all_at t (λ r. f k i t r) n₃ x r.columns_differ) in
    y.0 (close (of_minus P (s i x) (s k x) (s i t) (s k t) p r.repeated) (omega (arith, y.1)) (omega (arith, y.2)))

-- a test of J that is computed at 5 and at 7
five_seven : (f : ℕ → Bool) (b : Bool) → f 5 ≡ b → f 7 ≡ b → (J : ℕ) → (J ≡ 5) ⊎ (J ≡ 7) → f J ≡ b
five_seven f b p q J (inl e) = ap f e ∙ p
five_seven f b p q J (inr e) = ap f e ∙ q

some_of : (J : ℕ) → (J ≡ 5) ⊎ (J ≡ 7) → 0 < J
some_of J (inl e) = omega arith
some_of J (inr e) = omega arith

-- P = J is computed
at_order : (family : Family) → unsound 5 5 (supplied_at family 5) ≡ false → unsound 7 7 (supplied_at family 7) ≡ false
    → (J : ℕ) → (J ≡ 5) ⊎ (J ≡ 7) → Sound J J (table_at J (supplied_table family J))
at_order family p q J h =
    let some = some_of J h in
    sound_list family J J some ((sound_exactly J J (supplied_at family J) some some).0 (five_seven (λ J. unsound J J (supplied_at family J)) false p q J h))

-- ARRAY: for J = 5 or 7 it is sound for P = J and P ≥ 2J − 3
pub array_sound_at_order : (J : ℕ) → (J ≡ 5) ⊎ (J ≡ 7) → Sound J J (table_at J (supplied_table Array J))
unfolding quads first_place
array_sound_at_order = at_order Array refl refl

pub array_sound_from : (J P : ℕ) → (J ≡ 5) ⊎ (J ≡ 7) → 2 * J - 3 ≤ P → Sound J P (table_at J (supplied_table Array J))
array_sound_from J P h k =
    let some = some_of J h in
    let p : 2 ≤ J = two h in
    sound_list Array J P some
    (sound_from J (4 * (2 * J - 3)) (supplied_at Array J) (five_seven (λ J. bounded J (4 * (2 * J - 3)) (supplied_at Array J)) true refl refl J h) some P (omega arith) (omega arith))
  where
    two : (J ≡ 5) ⊎ (J ≡ 7) → 2 ≤ J
    two (inl e) = omega arith
    two (inr e) = omega arith

-- CYCLIC: it is sound for 4P ≥ 3(J − 1)², and for P = J when J is 5 or 7
abbrev cyclic_test : ℕ → Bool
cyclic_test J = bounded J (3 * ((J - 1) * (J - 1))) (supplied_at Cyclic J)

pub cyclic_sound_from : (J P : ℕ) → 4 ≤ J → J ≤ 7 → 3 * ((J - 1) * (J - 1)) ≤ 4 * P → Sound J P (table_at J (supplied_table Cyclic J))
cyclic_sound_from J P h k g =
    let e : J - 4 + 4 ≡ J = omega arith in
    let some : 0 < J = omega arith in
    let p : 0 < P = omega (arith, mul-pos {m = J - 1} {n = J - 1} (omega arith) (omega arith)) in
    let t : cyclic_test J ≡ true = subst (λ (m : ℕ). cyclic_test m ≡ true) e (all_at 4 (λ m. cyclic_test (m + 4)) refl (J - 4) (omega arith)) in
    sound_list Cyclic J P some (sound_from J (3 * ((J - 1) * (J - 1))) (supplied_at Cyclic J) t some P p g)

pub cyclic_sound_at_order : (J : ℕ) → (J ≡ 5) ⊎ (J ≡ 7) → Sound J J (table_at J (supplied_table Cyclic J))
unfolding quads first_place
cyclic_sound_at_order = at_order Cyclic refl refl
