-- The weights of a plan (document 02, slip 7): how many blocks of each row and of each column are filled, as two lists; and refusal
-- 25. A bit's blocks are those of its column, a check's those of its row: a lane of blocks.
use Rattle.std.specs.Prelude.{ℕ, ◌≡◌, Bool, true, false, not, ◌&&◌, List, [], ◌∷◌, map, eqb, ℤ, length}
use Rattle.refusal.specs.declared.Refusal.TheVariants.{Weights}
use Rattle.refusal.specs.Lowest.{Rule, refuse}
use Rattle.graph.specs.Count.{below}
use Rattle.exponent.specs.declared.Shape.{Shape}
use Rattle.exponent.specs.declared.block.Block.{Block}
use Rattle.exponent.specs.Plan.{block_at, filled}
use Rattle.exponent.specs.Tanner.{column_weight, row_weight}
use Rattle.weights.specs.declared.Side.{Side}
use Rattle.weights.specs.declared.Side.TheVariants.{Bits, Checks}
use Rattle.weights.specs.declared.Room.{Room}

-- a plan's sizes, as one
abbrev pub shape_of : ℕ → ℕ → ℕ → Shape
shape_of rows cols lift = record { rows = rows; cols = cols; lift = lift }

-- how many lanes a side has, how many blocks each lane, and a lane's block k
abbrev pub lanes : Shape → Side → ℕ
lanes s Bits = s.cols
lanes s Checks = s.rows

abbrev pub blocks : Shape → Side → ℕ
blocks s Bits = s.rows
blocks s Checks = s.cols

abbrev pub block_on : List ℤ → Shape → Side → ℕ → ℕ → Block
block_on plan s Bits lane k = block_at plan s.cols s.lift k lane
block_on plan s Checks lane k = block_at plan s.cols s.lift lane k

abbrev pub filled_on : List ℤ → Shape → Side → ℕ → ℕ → Bool
filled_on plan s side lane k = filled (block_on plan s side lane k)

-- the weight of a lane
abbrev pub weight_of : List ℤ → Shape → Side → ℕ → ℕ
weight_of plan s Bits lane = column_weight plan s.rows s.cols s.lift lane
weight_of plan s Checks lane = row_weight plan s.cols s.lift lane

-- the lent list of a side: of bits the column weights, of checks the row weights
abbrev pub list_of : Side → List ℕ → List ℕ → List ℕ
list_of Bits rows cols = cols
list_of Checks rows cols = rows

-- what it should be
unfoldable pub weights_of : List ℤ → Shape → Side → List ℕ
weights_of plan s side = map (weight_of plan s side) (below (lanes s side))

-- what three lent lists hold: a plan and, beside it, row weights and column weights, right or wrong
pub record Held : Type 0 where
  pub plan : List ℤ
  pub rows : List ℕ
  pub cols : List ℕ

abbrev pub held : List ℤ → List ℕ → List ℕ → Held
held plan rows cols = record { plan = plan; rows = rows; cols = cols }

-- a plan with its own weights
abbrev pub with_weights : List ℤ → Shape → Held
with_weights plan s = held plan (weights_of plan s Checks) (weights_of plan s Bits)

-- two lists are equal
unfoldable pub same : List ℕ → List ℕ → Bool
same [] [] = true
same [] (y ∷ m) = false
same (x ∷ l) [] = false
same (x ∷ l) (y ∷ m) = eqb x y && same l m

-- both lent lists are those of the plan
unfoldable pub right : List ℤ → Shape → List ℕ → List ℕ → Bool
right plan s rows cols = same rows (weights_of plan s Checks) && same cols (weights_of plan s Bits)

-- the same, as what an inner function is given
pub record Weighed (plan : List ℤ) (s : Shape) (rows cols : List ℕ) : Type 0 where
  pub rows_right : rows ≡ weights_of plan s Checks
  pub cols_right : cols ≡ weights_of plan s Bits

-- 25: a list of weights has the wrong length or a wrong count
abbrev pub weight_rules : List ℤ → Shape → List ℕ → List ℕ → List Rule
weight_rules plan s rows cols = refuse Weights (not (right plan s rows cols)) ∷ []

-- how long the lists are that a builder is lent; for it, 25 is about the length alone
abbrev pub room_of : Held → Room
room_of h = record { plan = length h.plan; rows = length h.rows; cols = length h.cols }

abbrev pub length_rules : Room → ℕ → ℕ → List Rule
length_rules room rows cols = refuse Weights (not (eqb room.rows rows && eqb room.cols cols)) ∷ []
