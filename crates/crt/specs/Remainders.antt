-- Numbers by their remainders by two sizes (the Chinese remainder theorem), and sizes that share a divisor.
use Rattle.std.specs.Prelude.{ℕ, suc, ◌*◌, ◌%◌, Bool, ◌&&◌, eqb, ltb}
use Rattle.refusal.specs.Place.{first_place}
use Rattle.graph.specs.Count.{below}
use Rattle.graph.specs.Erasure.{any}

-- d is above 1 and divides both sizes
abbrev pub divides : ℕ → ℕ → ℕ → Bool
divides P Q d = ltb 1 d && (eqb (P % d) 0 && eqb (Q % d) 0)

-- the sizes share a divisor above 1 (refusal 27): one of the numbers to P divides both
unfoldable pub shared : ℕ → ℕ → Bool
shared P Q = any (suc P) (divides P Q)

-- x leaves the remainder of e by P and that of f by Q
abbrev pub leaves : ℕ → ℕ → ℕ → ℕ → ℕ → Bool
leaves P Q e f x = eqb (x % P) (e % P) && eqb (x % Q) (f % Q)

-- the number from 0 to P × Q − 1 that does
unfoldable pub remainders : ℕ → ℕ → ℕ → ℕ → ℕ
remainders P Q e f = first_place (leaves P Q e f) (below (P * Q))
