-- The list is what document 02 says: from the computed tests to words. Assumes nothing.
use Prim.Native.Nat.{ℕ, suc, ◌+◌, ◌-◌, ◌/◌, ◌%◌, ◌<◌}
use mathlib.Core.Path.{◌≡◌, refl, sym, subst}
use mathlib.Core.Logic.{◌↔◌, ◌⊎◌, inl, inr}
use mathlib.Core.Bool.{Bool, true, ◌&&◌, ◌||◌}
use mathlib.Core.List.{List, [], ◌∷◌}
use native.Mathlib.Omega.{arith}
use lib.Dec.{ltb, eqb}
use lib.ListN.{length, get_or}
use borrow.Author.Tests.{ltb-true, lt-ltb, eqb-true, eq-eqb}
use Rattle.refusal.specs.Place.{first_place, somewhere}
use Rattle.refusal.proofs.Place.{at_first}
use Rattle.graph.specs.Count.{below, member, Mem}
use Rattle.graph.proofs.Decide.{by_bool, or_either, and_left, and_right, and_both}
use Rattle.graph.proofs.Lists.{mem_image, get_or_mem}
use Rattle.graph.proofs.Count.{mem_range, range_mem}
use Rattle.graph.proofs.Cases.{all, all_at}
use Rattle.graph.proofs.Peeling.{any_true, any_some}
use Rattle.square.specs.Each.{each, upon}
use Rattle.square.proofs.Each.{mem_each, each_mem, mem_upon, upon_mem}
use Rattle.grid.proofs.Listed.{mem_map}
use Rattle.steiner.specs.declared.system.Triple.{Triple}
use Rattle.steiner.specs.Points.{points}
use Rattle.steiner.specs.System.{is_order, cols, start_among, start, triple, triple_at, has}
use Rattle.steiner.specs.Listed.{system, Rises, Before, Developed, Affine, Exactly, Listed}
use Rattle.steiner.proofs.Orders.{by_order}
use Rattle.steiner.proofs.Computed.{triples_that, shifted, developed, affine, computed}
use Rattle.steiner.proofs.Pairs.{triple_rises}

-- the triples that pass a test are those that rise and pass it
module _ (test : Triple → Bool) (v : ℕ) where
  abbrev kept : Triple → Bool
  kept t = ltb t.a t.b && (ltb t.b t.c && test t)

  of_that : (t : Triple) → Mem t (triples_that test v) → Rises v t × (test t ≡ true)
  unfolding triples_that
  of_that t m =
      let (a, p, m) = mem_each t v (λ a. each v (λ b. each v (λ c. upon (kept (triple a b c)) (triple a b c ∷ [])))) m in
      let (b, q, m) = mem_each t v (λ b. each v (λ c. upon (kept (triple a b c)) (triple a b c ∷ []))) m in
      let (c, r, m) = mem_each t v (λ c. upon (kept (triple a b c)) (triple a b c ∷ [])) m in
      let (k, e) = mem_upon t (triple a b c) (kept (triple a b c)) m in
      let l = and_right (ltb a b) _ k in
      subst (λ (t : Triple). Rises v t × (test t ≡ true)) (sym e)
      (record { first = ltb-true a b (and_left (ltb a b) _ k); second = ltb-true b c (and_left (ltb b c) _ l); third = r }, and_right (ltb b c) _ l)

  in_that : (t : Triple) → Rises v t → test t ≡ true → Mem t (triples_that test v)
  unfolding triples_that
  in_that t r e =
      each_mem t v (λ a. each v (λ b. each v (λ c. upon (kept (triple a b c)) (triple a b c ∷ [])))) t.a (omega (arith, r.first, r.second, r.third))
      (each_mem t v (λ b. each v (λ c. upon (kept (triple t.a b c)) (triple t.a b c ∷ []))) t.b (omega (arith, r.second, r.third))
      (each_mem t v (λ c. upon (kept (triple t.a t.b c)) (triple t.a t.b c ∷ [])) t.c r.third
      (upon_mem t (kept t) (and_both (ltb t.a t.b) _ (lt-ltb _ _ r.first) (and_both (ltb t.b t.c) _ (lt-ltb _ _ r.second) e)))))

-- A TEST IN WORDS: what passes it somewhere in a list
module _ {A : Type 0} (test : A → Bool) where
  some_mem : (d : A) (l : List A) → somewhere test l ≡ true → (x : A) × Mem x l × (test x ≡ true)
  some_mem d l e =
      let h : first_place test l < length l = ltb-true _ _ e in
      (get_or l (first_place test l) d, get_or_mem l (first_place test l) d h, at_first test d l h)

  mem_first : (x : A) (l : List A) → Mem x l → test x ≡ true → first_place test l < length l
  unfolding first_place
  mem_first x [] m e = absurd m
  mem_first x (y ∷ l) (inl q) e = rw (← q, e) (omega arith)
  mem_first x (y ∷ l) (inr m) e = by_bool (test y) (λ t. rw t (omega arith)) (λ t. rw t (omega (arith, mem_first x l m e)))

-- t has the points of u with k added
abbrev holds : ℕ → Triple → Triple → ℕ → Bool
holds v t u k = has t ((u.a + k) % v) && (has t ((u.b + k) % v) && has t ((u.c + k) % v))

developed_exactly : (v : ℕ) (base : List Triple) (t : Triple) → (developed v base t ≡ true) ↔ Developed v base t
developed_exactly v base t = (to, from)
  where
    to : developed v base t ≡ true → Developed v base t
    to e =
        let (u, m, f) = some_mem (shifted v t) (triple 0 0 0) base e in
        let (k, small, points) = any_true v (holds v t u) f in
        let later = and_right (has t ((u.a + k) % v)) _ points in
        record {
          u = u;
          in_base = m;
          k = k;
          small = small;
          first = and_left (has t ((u.a + k) % v)) _ points;
          second = and_left (has t ((u.b + k) % v)) _ later;
          third = and_right (has t ((u.b + k) % v)) _ later;
        }

    from : Developed v base t → developed v base t ≡ true
    from d =
        let e = any_some v (holds v t d.u) d.k d.small (and_both _ _ d.first (and_both _ _ d.second d.third)) in
        lt-ltb _ _ (mem_first (shifted v t) d.u base d.in_base e)

affine_exactly : (t : Triple) → (affine t ≡ true) ↔ Affine t
affine_exactly t =
    let x = eqb ((t.a / 3 + t.b / 3 + t.c / 3) % 3) 0 in (
      λ e. record { of_x = eqb-true _ _ (and_left x _ e); of_y = eqb-true _ _ (and_right x _ e) },
      λ d. and_both x _ (eq-eqb _ _ d.of_x) (eq-eqb _ _ d.of_y),
    )

-- one triple after the other, computed
before : Triple → Triple → Bool
before t u = ltb t.a u.a || (eqb t.a u.a && (ltb t.b u.b || (eqb t.b u.b && ltb t.c u.c)))

is_before : (t u : Triple) → before t u ≡ true → Before t u
unfolding before
is_before t u e = first (or_either (ltb t.a u.a) _ e)
  where
    second : t.a ≡ u.a → (ltb t.b u.b ≡ true) ⊎ ((eqb t.b u.b && ltb t.c u.c) ≡ true) → Before t u
    second p (inl h) = inr (p, inl (ltb-true _ _ h))
    second p (inr h) = inr (p, inr (eqb-true _ _ (and_left (eqb t.b u.b) _ h), ltb-true _ _ (and_right (eqb t.b u.b) _ h)))

    first : (ltb t.a u.a ≡ true) ⊎ ((eqb t.a u.a && (ltb t.b u.b || (eqb t.b u.b && ltb t.c u.c))) ≡ true) → Before t u
    first (inl h) = inl (ltb-true _ _ h)
    first (inr h) = second (eqb-true _ _ (and_left (eqb t.a u.a) _ h)) (or_either (ltb t.b u.b) _ (and_right (eqb t.a u.a) _ h))

rising : (v : ℕ) → is_order v ≡ true → all (cols v - 1) (λ j. before (triple_at v j) (triple_at v (suc j))) ≡ true
unfolding points cols start_among start triple_at before
rising = by_order (λ (v : ℕ). all (cols v - 1) (λ j. before (triple_at v j) (triple_at v (suc j))) ≡ true) refl refl refl refl refl

-- an order whose list is that of a test
exactly : (v : ℕ) → is_order v ≡ true → (test : Triple → Bool) (Given : Triple → Type 0) → ((t : Triple) → (test t ≡ true) ↔ Given t)
    → system v ≡ triples_that test v → Exactly v Given
unfolding system
exactly v known test Given tells e =
    record {
      inner = triple_rises v known;
      outer = λ j h. is_before _ _ (all_at (cols v - 1) (λ j. before (triple_at v j) (triple_at v (suc j))) (rising v known) j (omega arith));
      given = λ j h.
          (tells (triple_at v j)).0
          (of_that test v (triple_at v j) (subst (Mem (triple_at v j)) e (mem_image (triple_at v) j (below (cols v)) (range_mem j 0 (cols v) (omega arith) (omega arith))))).1;
      all = λ t r g.
          let (j, m, q) = mem_map (triple_at v) t (below (cols v)) (subst (Mem t) (sym e) (in_that test v t r ((tells t).1 g))) in
          (j, omega (arith, mem_range j 0 (cols v) m), q);
    }

-- THE THEOREM
pub the_list : Listed
unfolding is_order member
the_list =
    record {
      size = computed.size;
      orders_rise = computed.orders_rise;
      order_7 = exactly 7 refl _ _ (developed_exactly 7 _) computed.order_7;
      order_9 = exactly 9 refl _ _ affine_exactly computed.order_9;
      order_13 = exactly 13 refl _ _ (developed_exactly 13 _) computed.order_13;
      order_15 = exactly 15 refl _ _ (developed_exactly 15 _) computed.order_15;
      order_19 = exactly 19 refl _ _ (developed_exactly 19 _) computed.order_19;
    }
