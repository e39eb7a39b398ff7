-- The first place of a list where a test holds: the place that refusals 6, 9, 18 and 19 name. Places count from 0.
use Rattle.std.specs.Prelude.{ℕ, zero, suc, ◌<◌, Bool, cond, List, [], ◌∷◌, ltb, length}

-- the length of the list where the test holds nowhere
unfoldable pub first_place : {A : Type 0} → (A → Bool) → List A → ℕ
first_place test [] = zero
first_place test (x ∷ l) = let later = suc (first_place test l) in cond (test x) zero later

-- the test holds somewhere
abbrev pub somewhere : {A : Type 0} → (A → Bool) → List A → Bool
somewhere test l = ltb (first_place test l) (length l)

-- the same in words: of the places below a limit, the first where something holds, as it does nowhere before
pub record First (limit : ℕ) (Holds : ℕ → Type 0) (place : ℕ) : Type 0 where
  pub inside : place < limit
  pub holds : Holds place
  pub nowhere_before : (i : ℕ) → i < place → Holds i → ⊥
