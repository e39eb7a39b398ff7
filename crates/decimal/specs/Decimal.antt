-- A number in decimal, as bytes: no leading zeros; 0 is the one digit 0.
use Rattle.std.specs.Prelude.{ℕ, zero, suc, ◌+◌, ◌/◌, ◌%◌, cond, List, [], ◌∷◌, ◌++◌, ltb}

-- the byte of a digit: '0' is 48
abbrev pub digit : ℕ → ℕ
digit d = 48 + d

-- the last digit stands after the digits of n / 10, unless n is a digit itself; at most `suc k` digits
unfoldable pub digits : ℕ → ℕ → List ℕ
digits zero n = digit (n % 10) ∷ []
digits (suc k) n = let more = digits k (n / 10) ++ digit (n % 10) ∷ [] in cond (ltb n 10) (digit n ∷ []) more

-- a number has at most one digit more than its value, so n bounds the recursion
unfoldable pub decimal : ℕ → List ℕ
decimal n = digits n n
