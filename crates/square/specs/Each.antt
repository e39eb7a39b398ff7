-- Lists made by counting, and the lists that two lists give.
use Rattle.std.specs.Prelude.{ℕ, zero, suc, Bool, true, false, List, [], ◌∷◌, ◌++◌, map}

-- f 0, then f 1, up to f (n − 1)
abbrev pub each : {A : Type 0} → ℕ → (ℕ → List A) → List A
each zero f = []
each (suc n) f = each n f ++ f n

-- the list where the test holds, and nothing where it does not
abbrev pub upon : {A : Type 0} → Bool → List A → List A
upon true xs = xs
upon false xs = []

-- f x y for each x, and within it for each y
abbrev pub grid : {A B C : Type 0} → (A → B → C) → List A → List B → List C
grid f [] ys = []
grid f (x ∷ xs) ys = map (f x) ys ++ grid f xs ys
