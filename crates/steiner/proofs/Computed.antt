-- The triples of each order, computed: those that pass a test, each once, rising by first, second, third point. Assumes nothing.
use Prim.Native.Nat.{ℕ, ◌+◌, ◌/◌, ◌%◌}
use mathlib.Core.Path.{◌≡◌, refl}
use mathlib.Core.Bool.{Bool, ◌&&◌}
use mathlib.Core.List.{List, [], ◌∷◌, ◌++◌}
use lib.Dec.{ltb, eqb}
use lib.ListN.{length}
use Rattle.refusal.specs.Place.{first_place, somewhere}
use Rattle.graph.specs.Count.{range}
use Rattle.graph.specs.Erasure.{any}
use Rattle.square.specs.Each.{each, upon}
use Rattle.steiner.specs.declared.system.Triple.{Triple}
use Rattle.steiner.specs.Points.{points}
use Rattle.steiner.specs.System.{cols, start_among, start, triple, triple_at, has}
use Rattle.steiner.specs.Listed.{system, numbers}

unfoldable pub triples_that : (Triple → Bool) → ℕ → List Triple
triples_that test v =
    each v (λ a. each v (λ b. each v (λ c. upon (ltb a b && (ltb b c && test (triple a b c))) (triple a b c ∷ []))))

-- t is the triple u with k added to its points modulo v, for some k below v
abbrev pub shifted : ℕ → Triple → Triple → Bool
shifted v t u = any v (λ k. has t ((u.a + k) % v) && (has t ((u.b + k) % v) && has t ((u.c + k) % v)))

-- the triples that the base triples give
abbrev pub developed : ℕ → List Triple → Triple → Bool
developed v base t = somewhere (shifted v t) base

-- points 3x + y: the x and the y add up to multiples of 3
abbrev pub affine : Triple → Bool
affine t = eqb ((t.a / 3 + t.b / 3 + t.c / 3) % 3) 0 && eqb ((t.a % 3 + t.b % 3 + t.c % 3) % 3) 0

pub record Computed : Type 0 where
  pub size : length points ≡ 411
  pub orders_rise : points ≡ numbers (system 7 ++ (system 9 ++ (system 13 ++ (system 15 ++ system 19))))
  pub order_7 : system 7 ≡ triples_that (developed 7 (triple 0 1 3 ∷ [])) 7
  pub order_9 : system 9 ≡ triples_that affine 9
  pub order_13 : system 13 ≡ triples_that (developed 13 (triple 0 1 4 ∷ triple 0 2 7 ∷ [])) 13
  pub order_15 : system 15 ≡ triples_that (developed 15 (triple 0 1 4 ∷ triple 0 2 8 ∷ triple 0 5 10 ∷ [])) 15
  pub order_19 : system 19 ≡ triples_that (developed 19 (triple 0 1 6 ∷ triple 0 2 10 ∷ triple 0 3 7 ∷ [])) 19

pub computed : Computed
unfolding points cols start_among start triple_at system numbers triples_that first_place range any
computed =
    record {
      size = refl;
      orders_rise = refl;
      order_7 = refl;
      order_9 = refl;
      order_13 = refl;
      order_15 = refl;
      order_19 = refl;
    }
