-- Refusal 10: it applies exactly where the table is not sound, and its four numbers are the first that repeat. Assumes nothing.
use Prim.Native.Nat.{ℕ, ◌+◌, ◌*◌, ◌/◌, ◌%◌, ◌<◌}
use mathlib.Core.Path.{◌≡◌, refl, sym, ap, ap₂, subst, ◌∙◌}
use mathlib.Core.Logic.{◌⊎◌, inl, inr, ◌↔◌}
use mathlib.Core.Bool.{Bool, true, false}
use mathlib.Core.List.{List}
use native.Mathlib.Nat.{div-add-mod', mul-le-mul_right}
use native.Mathlib.Omega.{arith}
use lib.Dec.{ltb}
use lib.ListN.{length, get_or}
use Rattle.std.specs.Prelude.{Some, None}
use Rattle.std.specs.List.{find}
use Rattle.std.proofs.lemmas.Option.{none-some, same_Some}
use Rattle.refusal.specs.Place.{first_place}
use borrow.Author.Tests.{ltb-true, lt-ltb, eqb-true, eq-eqb}
use Rattle.refusal.proofs.Place.{first_at, before_first, at_first, somewhere_at, somewhere_no, somewhere_none}
use Rattle.graph.proofs.Decide.{by_bool, by_le, both_ways, and_left, and_right, and_both}
use Rattle.exponent.proofs.Numbers.{block_of_law, place_of, number_low}
use Rattle.square.specs.declared.search.Quad.{Quad}
use Rattle.square.specs.Table.{minus, Sound, Repeat, Before, repeats, quads, unsound, first_repeat}
use Rattle.square.specs.Inner.{quad}
use Rattle.square.proofs.Places.{quad_within}
use Rattle.square.proofs.Found.{find_is}
use Rattle.square.proofs.Each.{length_ones, ones_at, quads_are}
use Rattle.square.proofs.Congruent.{of_minus, to_minus}

abbrev pub no_quad : Quad
no_quad = record { i = 0; k = 0; r = 0; t = 0 }

-- the quadruples by their numbers
module _ (J : ℕ) (some : 0 < J) where
  pub length_quads : length (quads J) ≡ J * J * J * J
  length_quads = ap length (quads_are J some) ∙ length_ones (J * J * J * J) (quad J)

  pub quads_at : (n : ℕ) → n < J * J * J * J → get_or (quads J) n no_quad ≡ quad J n
  quads_at n h = ap (λ (l : List Quad). get_or l n no_quad) (quads_are J some) ∙ ones_at (J * J * J * J) (quad J) no_quad n h

module _ (J lift : ℕ) (s : ℕ → ℕ → ℕ) (some : 0 < J) (n : ℕ) (before : (m : ℕ) → m < n → repeats lift s (quad J m) ≡ false) where
  repeat_at : n < J * J * J * J → repeats lift s (quad J n) ≡ true → first_place (repeats lift s) (quads J) ≡ n
  repeat_at h e =
      first_at (repeats lift s) no_quad (quads J) n
      (λ i k. ap (repeats lift s) (quads_at J some i (omega arith)) ∙ before i k) (omega (arith, length_quads J some)) (ap (repeats lift s) (quads_at J some n h) ∙ e)

  -- what the search answers at n, and at its end
  pub found_at : n < J * J * J * J → repeats lift s (quad J n) ≡ true → find (repeats lift s) (quads J) ≡ Some (quad J n)
  found_at h e =
      let p = repeat_at h e in
      find_is (repeats lift s) no_quad (quads J)
      ∙ rw (somewhere_at (repeats lift s) no_quad (quads J) n p (omega (arith, length_quads J some)), p, quads_at J some n h)

  pub found_nowhere : n ≡ J * J * J * J → find (repeats lift s) (quads J) ≡ None
  found_nowhere e =
      find_is (repeats lift s) no_quad (quads J)
      ∙ rw (somewhere_none (repeats lift s) no_quad (quads J)
      (λ i k. let h : i < J * J * J * J = omega (arith, length_quads J some) in ap (repeats lift s) (quads_at J some i h) ∙ before i (omega arith)))

-- refusal 10 in the code: what the search found
module _ (J lift : ℕ) (s : ℕ → ℕ → ℕ) where
  pub found_some : (q : Quad) → find (repeats lift s) (quads J) ≡ Some q → (unsound J lift s ≡ true) × (first_repeat J lift s ≡ q)
  found_some q e = by_bool (unsound J lift s) (λ t. let f = rw t at (sym (find_is (repeats lift s) no_quad (quads J)) ∙ e) in (t, same_Some _ _ f)) (λ t. absurd (none-some q (rw t at (sym (find_is (repeats lift s) no_quad (quads J)) ∙ e))))

  pub found_none : find (repeats lift s) (quads J) ≡ None → unsound J lift s ≡ false
  found_none e = by_bool (unsound J lift s) (λ t. absurd (none-some _ (sym (rw t at (sym (find_is (repeats lift s) no_quad (quads J)) ∙ e))))) (λ t. t)

-- a quadruple is written with its four numbers
code : ℕ → Quad → ℕ
code J q = ((q.i * J + q.k) * J + q.r) * J + q.t

-- its four numbers are below the order
pub record Inside (J : ℕ) (q : Quad) : Type 0 where
  pub i_in : q.i < J
  pub k_in : q.k < J
  pub r_in : q.r < J
  pub t_in : q.t < J

module _ (J : ℕ) (some : 0 < J) where
  code_low : (q : Quad) → Inside J q → code J q < J * J * J * J
  unfolding code
  code_low q h = number_low _ q.t (J * J * J) J (number_low _ q.r (J * J) J (number_low q.i q.k J J h.i_in h.k_in) h.r_in) h.t_in

  quad_code : (q : Quad) → Inside J q → quad J (code J q) ≡ q
  unfolding code
  quad_code q h =
      let e₁ : code J q / J ≡ (q.i * J + q.k) * J + q.r = block_of_law J some _ q.t h.t_in in
      let e₂ : code J q / J / J ≡ q.i * J + q.k = ap (◌/ J) e₁ ∙ block_of_law J some _ q.r h.r_in in
      let i-is : code J q / J / J / J ≡ q.i = ap (◌/ J) e₂ ∙ block_of_law J some q.i q.k h.k_in in
      let k-is : code J q / J / J % J ≡ q.k = ap (◌% J) e₂ ∙ place_of J some q.i q.k h.k_in in
      let r-is : code J q / J % J ≡ q.r = ap (◌% J) e₁ ∙ place_of J some _ q.r h.r_in in
      let t-is : code J q % J ≡ q.t = place_of J some _ q.t h.t_in in
      λ x. record { i = i-is x; k = k-is x; r = r-is x; t = t-is x }

  code_at : (q : Quad) → Inside J q → get_or (quads J) (code J q) no_quad ≡ q
  code_at q h = quads_at J some (code J q) (code_low q h) ∙ quad_code q h

  code_quad : (n : ℕ) → code J (quad J n) ≡ n
  unfolding code
  code_quad n =
      ap (λ (x : ℕ). (x * J + n / J % J) * J + n % J) (div-add-mod' (n / J / J) J)
      ∙ ap (λ (x : ℕ). x * J + n % J) (div-add-mod' (n / J) J)
      ∙ div-add-mod' n J

code_before : (J : ℕ) → 0 < J → (q v : Quad) → Inside J q → Inside J v → Before q v → code J q < code J v
unfolding code
code_before J some q v h g b = digits _ _ q.t v.t h.t_in (r_step b)
  where
    -- a digit more
    digits : (x y a b : ℕ) → a < J → (x < y) ⊎ ((x ≡ y) × (a < b)) → x * J + a < y * J + b
    digits x y a b k (inl l) = omega (arith, mul-le-mul_right J l)
    digits x y a b k (inr (e, l)) = omega (arith, ap (◌* J) e)

    k_step : Before q v → (q.i * J + q.k < v.i * J + v.k) ⊎ ((q.i * J + q.k ≡ v.i * J + v.k) × ((q.r < v.r) ⊎ ((q.r ≡ v.r) × (q.t < v.t))))
    k_step (inl l) = inl (digits _ _ _ _ h.k_in (inl l))
    k_step (inr (e, inl l)) = inl (digits _ _ _ _ h.k_in (inr (e, l)))
    k_step (inr (e, inr (f, rest))) = inr (ap₂ (λ (x y : ℕ). x * J + y) e f, rest)

    r_step : Before q v → ((q.i * J + q.k) * J + q.r < (v.i * J + v.k) * J + v.r) ⊎ (((q.i * J + q.k) * J + q.r ≡ (v.i * J + v.k) * J + v.r) × (q.t < v.t))
    r_step b = go (k_step b)
      where
        go : (q.i * J + q.k < v.i * J + v.k) ⊎ ((q.i * J + q.k ≡ v.i * J + v.k) × ((q.r < v.r) ⊎ ((q.r ≡ v.r) × (q.t < v.t))))
            → ((q.i * J + q.k) * J + q.r < (v.i * J + v.k) * J + v.r) ⊎ (((q.i * J + q.k) * J + q.r ≡ (v.i * J + v.k) * J + v.r) × (q.t < v.t))
        go (inl l) = inl (digits _ _ _ _ h.r_in (inl l))
        go (inr (e, inl l)) = inl (digits _ _ _ _ h.r_in (inr (e, l)))
        go (inr (e, inr (f, l))) = inr (ap₂ (λ (x y : ℕ). x * J + y) e f, l)

-- of two quadruples one comes before the other, or they are the same
either_before : {C : Type 0} (q v : Quad) → (Before q v → C) → (q ≡ v → C) → (Before v q → C) → C
either_before q v f e g =
    by_order q.i v.i (λ l. f (inl l)) (λ i.
    by_order q.k v.k (λ l. f (inr (i, inl l))) (λ k.
    by_order q.r v.r (λ l. f (inr (i, inr (k, inl l)))) (λ r.
    by_order q.t v.t (λ l. f (inr (i, inr (k, inr (r, l)))))
    (λ t. e (λ x. record { i = i x; k = k x; r = r x; t = t x }))
    (λ l. g (inr (sym i, inr (sym k, inr (sym r, l))))))
    (λ l. g (inr (sym i, inr (sym k, inl l)))))
    (λ l. g (inr (sym i, inl l))))
    (λ l. g (inl l))
  where
    by_order : {C : Type 0} (a b : ℕ) → (a < b → C) → (a ≡ b → C) → (b < a → C) → C
    by_order a b f e g = by_le a b (λ h. by_le b a (λ k. e (omega arith)) f) g

module _ (J lift : ℕ) (s : ℕ → ℕ → ℕ) where
  inside_of : (q : Quad) → Repeat J lift s q → Inside J q
  inside_of q r = record { i_in = omega (arith, r.rows_differ, r.row_in); k_in = r.row_in; r_in = omega (arith, r.columns_differ, r.column_in); t_in = r.column_in }

  repeat_of : (q : Quad) → Inside J q → repeats lift s q ≡ true → Repeat J lift s q
  repeat_of q h e =
      let rest = and_right (ltb q.i q.k) _ e in
      record {
        rows_differ = ltb-true _ _ (and_left (ltb q.i q.k) _ e);
        row_in = h.k_in;
        columns_differ = ltb-true _ _ (and_left (ltb q.r q.t) _ rest);
        column_in = h.t_in;
        repeated = eqb-true _ _ (and_right (ltb q.r q.t) _ rest);
      }

  repeats_if : (q : Quad) → Repeat J lift s q → repeats lift s q ≡ true
  repeats_if q r = and_both _ _ (lt-ltb _ _ r.rows_differ) (and_both _ _ (lt-ltb _ _ r.columns_differ) (eq-eqb _ _ r.repeated))

  module _ (some : 0 < J) where
    -- where nothing repeats, no quadruple does
    no_repeat : unsound J lift s ≡ false → (q : Quad) → Repeat J lift s q → ⊥
    no_repeat e q r =
        let h = inside_of q r in
        both_ways (ap (repeats lift s) (code_at J some q h) ∙ repeats_if q r)
        (somewhere_no (repeats lift s) no_quad (quads J) e (code J q) (omega (arith, code_low J some q h, length_quads J some)))

    inside_quad : (n : ℕ) → n < J * J * J * J → Inside J (quad J n)
    inside_quad n h = let w = quad_within J some n h in record { i_in = w.0; k_in = w.1; r_in = w.2; t_in = w.3 }

    -- the four numbers of refusal 10 are the first that repeat, in the order i, k, r, t
    pub first_repeats : unsound J lift s ≡ true → Repeat J lift s (first_repeat J lift s)
    first_repeats e =
        let n = first_place (repeats lift s) (quads J) in
        let h : n < length (quads J) = ltb-true n (length (quads J)) e in
        let k : n < J * J * J * J = omega (arith, length_quads J some) in
        repeat_of (first_repeat J lift s) (subst (Inside J) (sym (quads_at J some n k)) (inside_quad n k)) (at_first (repeats lift s) no_quad (quads J) h)

    pub none_before : (q : Quad) → Repeat J lift s q → Before q (first_repeat J lift s) → ⊥
    none_before q r b = step (unsound J lift s) refl
      where
        step : (t : Bool) → unsound J lift s ≡ t → ⊥
        step false e = no_repeat e q r
        step true e =
            let n = first_place (repeats lift s) (quads J) in
            let f = first_repeat J lift s in
            let h : n < length (quads J) = ltb-true n (length (quads J)) e in
            let k : n < J * J * J * J = omega (arith, length_quads J some) in
            let same : code J f ≡ n = ap (code J) (quads_at J some n k) ∙ code_quad J some n in
            both_ways (ap (repeats lift s) (code_at J some q (inside_of q r)) ∙ repeats_if q r)
            (before_first (repeats lift s) no_quad (quads J) (code J q) (omega (arith, code_before J some q f (inside_of q r) (inside_of f (first_repeats e)) b)))

    -- THE LAW of its four numbers: they repeat, and nothing before them does
    pub first_exactly : (q : Quad) → ((unsound J lift s ≡ true) × (first_repeat J lift s ≡ q)) ↔ (Repeat J lift s q × ((v : Quad) → Repeat J lift s v → Before v q → ⊥))
    first_exactly q = (
      λ (t, e). (subst (Repeat J lift s) e (first_repeats t), λ v r b. none_before v r (subst (Before v) (sym e) b)),
      λ (r, first).
          let t = by_bool (unsound J lift s) (λ e. e) (λ e. absurd (no_repeat e q r)) in
          (t, either_before (first_repeat J lift s) q (λ b. absurd (first (first_repeat J lift s) (first_repeats t) b)) (λ e. e) (λ b. absurd (none_before q r b))),
    )

    module _ (p : 0 < lift) where
      -- the rows or the columns exchanged
      swap_rows : (i k r t : ℕ) → minus lift (s i r) (s k r) ≡ minus lift (s i t) (s k t) → minus lift (s k r) (s i r) ≡ minus lift (s k t) (s i t)
      swap_rows i k r t e =
          let c = of_minus lift (s i r) (s k r) (s i t) (s k t) p e in
          to_minus lift (s k r) (s i r) (s k t) (s i t) p (record { m = c.n; n = c.m; same = omega (arith, c.same) })

      -- it is enough that no i < k and r < t repeat
      pub sound_unless : ((q : Quad) → Repeat J lift s q → ⊥) → Sound J lift s
      unfolding Sound
      sound_unless none i k r t hi hk hr ht d g q =
          by_le i k
          (λ a. by_le r t (λ b. go i k r t hk ht (omega arith) (omega arith) q) (λ b. go i k t r hk hr (omega arith) b (sym q)))
          (λ a. by_le r t (λ b. go k i r t hi ht a (omega arith) (swap_rows i k r t q)) (λ b. go k i t r hi hr a b (sym (swap_rows i k r t q))))
        where
          go : (i k r t : ℕ) → k < J → t < J → i < k → r < t → minus lift (s i r) (s k r) ≡ minus lift (s i t) (s k t) → ⊥
          go i k r t hk ht a b q =
              none (record { i = i; k = k; r = r; t = t }) (record { rows_differ = a; row_in = hk; columns_differ = b; column_in = ht; repeated = q })

      sound_if : unsound J lift s ≡ false → Sound J lift s
      sound_if e = sound_unless (no_repeat e)

      sound_none : Sound J lift s → unsound J lift s ≡ false
      unfolding Sound
      sound_none sound =
          somewhere_none (repeats lift s) no_quad (quads J) λ n h.
          let k : n < J * J * J * J = omega (arith, length_quads J some) in
          ap (repeats lift s) (quads_at J some n k) ∙ by_bool (repeats lift s (quad J n)) (λ e. absurd (clash (quad J n) (repeat_of (quad J n) (inside_quad n k) e))) (λ e. e)
        where
          clash : (q : Quad) → Repeat J lift s q → ⊥
          clash q r =
              let h = inside_of q r in
              sound q.i q.k q.r q.t h.i_in h.k_in h.r_in h.t_in (omega (arith, r.rows_differ)) (omega (arith, r.columns_differ)) r.repeated

      -- THE LAW: refusal 10 applies exactly where the table is not sound
      pub sound_exactly : (unsound J lift s ≡ false) ↔ Sound J lift s
      sound_exactly = (sound_if, sound_none)

      pub unsound_exactly : (unsound J lift s ≡ true) ↔ (Sound J lift s → ⊥)
      unsound_exactly = (
        λ e sound. both_ways e (sound_none sound),
        λ h. by_bool (unsound J lift s) (λ e. e) (λ e. absurd (h (sound_if e))),
      )
