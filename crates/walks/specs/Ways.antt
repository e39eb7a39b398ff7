-- All ways of n edges from a root, in the order of the search. A way is a walk that never steps back.
use Rattle.std.specs.Prelude.{Option, Some, None}
use Rattle.std.specs.Prelude.{ℕ, zero, suc, ◌+◌, ◌-◌, ◌*◌, ◌/◌, ◌%◌, Bool, true, false, cond, List, [], ◌∷◌, ◌++◌, map, eqb}
use Rattle.exponent.specs.declared.position.Position.{Position}
use Rattle.walks.specs.declared.Corner.{Corner}
use Rattle.walks.specs.Steps.{Blocks, to_column, to_row}

-- WAYS: the checks of a walk, each with the bit after it, and the bit at its end

pub record Joint : Type 0 where
  pub check : ℕ
  pub bit : ℕ

pub record Way : Type 0 where
  pub joints : List Joint
  pub end : ℕ

-- one check more, and a bit of it, in front
abbrev pub more : Joint → Way → Way
more e w = record { joints = e ∷ w.joints; end = w.end }

-- what a step leads to
abbrev pub and_then : {A : Type 0} → Option Position → (Position → List A) → List A
and_then None f = []
and_then (Some p) f = f p

-- f i, f (i + 1), …, k of them
unfoldable pub each : {A : Type 0} → (ℕ → List A) → ℕ → ℕ → List A
each f zero i = []
each f (suc k) i = f i ++ each f k (suc i)

-- the numbers of the check of p and of the bit of q, after the step from p to q
abbrev pub joint : Blocks → Position → Position → Joint
joint B p q = record { check = p.row * B.lift + p.voltage; bit = q.col * B.lift + q.voltage }

abbrev pub arrived : Blocks → Position → Way
arrived B p = record { joints = []; end = p.col * B.lift + p.voltage }

-- Only rows and columns from a corner on are entered: every cycle has a lowest column and a lowest row, and can be turned to start there.

abbrev pub corner : ℕ → ℕ → Corner
corner i j = record { row = i; col = j }

-- all ways on from a check: to each bit but the one just left, and on from there
abbrev pub from_check : Blocks → Corner → (Position → List Way) → Position → List Way
from_check B k next p = each (λ j. and_then (to_column B p j) (λ q. map (more (joint B p q)) (next q))) (B.cols - k.col) k.col

-- all ways on from a bit, over d checks: to each check but the one just left, and on from there
unfoldable pub from_bit : Blocks → Corner → ℕ → Position → List Way
from_bit B k zero p = arrived B p ∷ []
from_bit B k (suc d) p = each (λ i. and_then (to_row B p i) (from_check B k (from_bit B k d))) (B.rows - k.row) k.row

-- ROOTS: in round n, the bits (k, 0) where n is even, and the checks (k, 0) where it is odd, so that n edges lead to a bit

abbrev pub odd : ℕ → Bool
odd n = eqb (n % 2) 1

-- come to from no row, and from no column
abbrev pub root_bit : Blocks → ℕ → Position
root_bit B j = record { row = B.rows; col = j; voltage = 0 }

abbrev pub root_check : Blocks → ℕ → Position
root_check B i = record { row = i; col = B.cols; voltage = 0 }

abbrev pub roots : Blocks → ℕ → ℕ
roots B n = cond (odd n) B.rows B.cols

-- all ways of n edges from root k
abbrev pub ways_by : Bool → Blocks → ℕ → ℕ → List Way
ways_by true B d k = from_check B (corner k 0) (from_bit B (corner k 0) d) (root_check B k)
ways_by false B d k = from_bit B (corner 0 k) d (root_bit B k)

unfoldable pub ways : Blocks → ℕ → ℕ → List Way
ways B n k = ways_by (odd n) B (n / 2) k
