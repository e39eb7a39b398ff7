-- Lists of numbers: those below a bound, those that pass a test, and how many pass. A set of bits or checks is a test ℕ → Bool.
use Rattle.std.specs.Prelude.{ℕ, zero, suc, ◌+◌, ◌≡◌, ◌⊎◌, Bool, true, false, cond, ◌||◌, List, [], ◌∷◌, eqb}
use Rattle.std.specs.Prelude.{Option, None, Some}

-- start, start + 1, …: n numbers
unfoldable pub range : ℕ → ℕ → List ℕ
range start zero = []
range start (suc n) = start ∷ range (suc start) n

-- the numbers below n, rising
abbrev pub below : ℕ → List ℕ
below n = range 0 n

-- the members of a list that pass a test, in their order
unfoldable pub select : (ℕ → Bool) → List ℕ → List ℕ
select test [] = []
select test (x ∷ l) = let rest = select test l in cond (test x) (x ∷ rest) rest

abbrev pub one : Bool → ℕ
one true = 1
one false = 0

-- how many members of a list pass a test
unfoldable pub count : (ℕ → Bool) → List ℕ → ℕ
count test [] = 0
count test (x ∷ l) = one (test x) + count test l

-- the sum of a number for each member of a list
unfoldable pub sum : (ℕ → ℕ) → List ℕ → ℕ
sum f [] = 0
sum f (x ∷ l) = f x + sum f l

-- x is a member of a list
unfoldable pub member : ℕ → List ℕ → Bool
member x [] = false
member x (y ∷ l) = eqb x y || member x l

-- the same in words, of a list of any kind
abbrev pub Mem : {A : Type 0} → A → List A → Type 0
Mem x [] = ⊥
Mem x (y ∷ l) = (x ≡ y) ⊎ Mem x l

-- no element of a list stands twice
abbrev pub Nodup : {A : Type 0} → List A → Type 0
Nodup [] = Unit {0}
Nodup (x ∷ l) = (¬ Mem x l) × Nodup l

-- whether there is a number
abbrev pub is_some : Option ℕ → Bool
is_some None = false
is_some (Some x) = true
