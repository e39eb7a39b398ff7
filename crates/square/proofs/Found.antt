-- What std's `any` and `find` answer on a list, in the words of `first_place`. Assumes nothing.
use Prim.Native.Nat.{ℕ, suc}
use mathlib.Core.Path.{◌≡◌, refl, sym}
use mathlib.Core.Bool.{Bool, cond}
use mathlib.Core.List.{List, [], ◌∷◌}
use native.Mathlib.Omega.{arith}
use borrow.Author.Tests.{lt-ltb, ltb-true}
use lib.Dec.{ltb}
use lib.ListN.{length, get_or}
use Rattle.std.specs.Prelude.{Some, None}
use Rattle.std.specs.List.{list_any, find}
use Rattle.refusal.specs.Place.{first_place, somewhere}
use Rattle.graph.proofs.Decide.{by_bool, same_bool}

ltb_suc : (a b : ℕ) → ltb (suc a) (suc b) ≡ ltb a b
ltb_suc a b = same_bool _ _ (λ t. lt-ltb a b (omega (arith, ltb-true (suc a) (suc b) t))) (λ t. lt-ltb (suc a) (suc b) (omega (arith, ltb-true a b t)))

pub any_is : {A : Type 0} (test : A → Bool) (l : List A) → list_any test l ≡ somewhere test l
unfolding first_place
any_is test [] = refl
any_is test (x ∷ l) = by_bool (test x) (λ t. rw t (sym (lt-ltb 0 (suc (length l)) (omega arith)))) (λ t. rw (t, ltb_suc (first_place test l) (length l)) (any_is test l))

pub find_is : {A : Type 0} (test : A → Bool) (d : A) (l : List A) → find test l ≡ cond (somewhere test l) (Some (get_or l (first_place test l) d)) None
unfolding first_place
find_is test d [] = refl
find_is test d (x ∷ l) = by_bool (test x) (λ t. rw (t, lt-ltb 0 (suc (length l)) (omega arith))) (λ t. rw (t, ltb_suc (first_place test l) (length l)) (find_is test d l))
