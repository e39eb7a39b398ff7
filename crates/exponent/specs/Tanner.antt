-- The Tanner graph of a plan (document 01: expanded graph), its turning, and the weights of rows and columns.
use Rattle.std.specs.Prelude.{ℕ, ◌+◌, ◌*◌, ◌/◌, ◌%◌, ◌≤◌, ◌<◌, Bool, false, List, eqb, ℤ}
use Rattle.graph.specs.Count.{below, count}
use Rattle.graph.specs.Graph.{Bipartite}
use Rattle.exponent.specs.declared.Shape.{Shape}
use Rattle.exponent.specs.declared.block.Block.{Block}
use Rattle.exponent.specs.declared.block.Block.TheVariants.{Zero, Shift, Invalid}
use Rattle.exponent.specs.Plan.{block_at, filled}

-- check y of a row of blocks joins bit z of a column of blocks: a filled block joins bit (y + e) mod lift
abbrev pub edge : Block → ℕ → ℕ → ℕ → Bool
edge Zero lift y z = false
edge (Shift e) lift y z = eqb ((y + e) % lift) z
edge Invalid lift y z = false

-- check (i, y) has number i * lift + y, bit (j, z) number j * lift + z
unfoldable pub tanner : List ℤ → ℕ → ℕ → ℕ → Bipartite
tanner plan rows cols lift =
    record {
      checks = rows * lift;
      bits = cols * lift;
      joins = λ c b. edge (block_at plan cols lift (c / lift) (b / lift)) lift (c % lift) (b % lift);
    }

-- the same by the plan's sizes
abbrev pub graph_of : List ℤ → Shape → Bipartite
graph_of plan s = tanner plan s.rows s.cols s.lift

-- check (i, y), or bit (j, y), turned by k within its row or column of blocks: y becomes (y + k) mod lift
unfoldable pub turn : ℕ → ℕ → ℕ → ℕ
turn lift k x = x / lift * lift + (x % lift + k) % lift

-- how many blocks of a column, or of a row, are filled
unfoldable pub column_weight : List ℤ → ℕ → ℕ → ℕ → ℕ → ℕ
column_weight plan rows cols lift j = count (λ i. filled (block_at plan cols lift i j)) (below rows)

unfoldable pub row_weight : List ℤ → ℕ → ℕ → ℕ → ℕ
row_weight plan cols lift i = count (λ j. filled (block_at plan cols lift i j)) (below cols)

-- at least three filled blocks in each column
unfoldable pub ThreeBlocks : List ℤ → ℕ → ℕ → ℕ → Type 0
ThreeBlocks plan rows cols lift = (j : ℕ) → j < cols → 3 ≤ column_weight plan rows cols lift j
