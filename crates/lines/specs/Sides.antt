-- What the inner functions compute: a node's blocks and neighbours, on either side of the graph. A bit's blocks are those of
-- its column, a check's those of its row: a lane of blocks.
use Rattle.std.specs.Prelude.{ℕ, suc, ◌+◌, ◌-◌, ◌*◌, ◌/◌, ◌%◌, ◌≤◌, cond, List, ltb, ℤ, get_or, Option, None, Some}
use Rattle.graph.specs.Count.{range}
use Rattle.exponent.specs.declared.block.Block.{Block}
use Rattle.exponent.specs.declared.Shape.{Shape}
use Rattle.exponent.specs.Limits.{WellFormed}
use Rattle.exponent.specs.Neighbours.{gather, bit_in, check_in}
use Rattle.index.specs.Index.{DownIndex, AlongIndex}
use Rattle.weights.specs.declared.Side.{Side}
use Rattle.weights.specs.Weights.{lanes, blocks, block_on}
use Rattle.weights.specs.declared.Side.TheVariants.{Bits, Checks}

-- a valid plan with its two index lists
pub record Ready (plan : List ℤ) (s : Shape) (down along : List ℕ) : Type 0 where
  pub well : WellFormed plan s.rows s.cols s.lift
  pub down_index : DownIndex plan s down
  pub along_index : AlongIndex plan s along

-- sizes whose products are small
pub record Small (s : Shape) : Type 0 where
  pub few_rows : s.rows ≤ 192
  pub few_cols : s.cols ≤ 512
  pub small_lift : s.lift ≤ 4096

abbrev pub node_count : Shape → Side → ℕ
node_count s side = lanes s side * s.lift

-- what the index lists say of the blocks from k on
abbrev pub next_block : List ℕ → List ℕ → Shape → Side → ℕ → ℕ → ℕ
next_block down along s Bits lane k = get_or down (k * s.cols + lane) 0
next_block down along s Checks lane k = get_or along (lane * s.cols + k) 0

-- where a block shifted by e leads from place y of its lane: back from a bit to a check, forward from a check to a bit
abbrev pub turned : Side → ℕ → ℕ → ℕ → ℕ
turned Bits lift y e = (y + (lift - e)) % lift
turned Checks lift y e = (y + e) % lift

-- the place that a block has for node y of its lane
abbrev pub pick_by : Side → ℕ → ℕ → Block → Option ℕ
pick_by Bits lift y b = check_in lift y b
pick_by Checks lift y b = bit_in lift y b

abbrev pub pick_on : List ℤ → Shape → Side → ℕ → ℕ → ℕ → Option ℕ
pick_on plan s side lane y k = pick_by side s.lift y (block_on plan s side lane k)

abbrev pub numbered : ℕ → ℕ → Option ℕ → ℕ
numbered lift k None = 0
numbered lift k (Some v) = suc (k * lift + v)

unfoldable pub number_in : List ℤ → Shape → Side → ℕ → ℕ → ℕ → ℕ
number_in plan s side lane y k = cond (ltb k (blocks s side)) (numbered s.lift k (pick_on plan s side lane y k)) 0

-- the neighbours of node x in the blocks from k on
unfoldable pub rest_of : List ℤ → Shape → Side → ℕ → ℕ → List ℕ
rest_of plan s side x k = gather s.lift (pick_on plan s side (x / s.lift) (x % s.lift)) (range k (blocks s side - k))
