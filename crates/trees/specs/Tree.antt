-- The tree of a column (source 000, Algorithms TR and B): all walks from bit (j, 0) that never step back, to a given number of edges.
-- Each walk is a node, at the vertex that it has come to; the vertex before is its parent.
use Rattle.std.specs.Prelude.{Option}
use Rattle.std.specs.Prelude.{ℕ, zero, suc, ◌+◌, ◌-◌, ◌*◌, ◌/◌, Bool, true, false, not, cond, List, [], ◌∷◌, ltb, length}
use Rattle.refusal.specs.Place.{somewhere}
use Rattle.graph.specs.Count.{below}
use Rattle.exponent.specs.declared.position.Position.{Position}
use Rattle.walks.specs.Steps.{Blocks, to_column, to_row}
use Rattle.walks.specs.Ways.{and_then, each, root_bit}

-- from a bit a walk goes on to a row, from a check to a column
abbrev pub step_to : Blocks → Bool → Position → ℕ → Option Position
step_to B true p i = to_row B p i
step_to B false p i = to_column B p i

abbrev pub width : Blocks → Bool → ℕ
width B bit = cond bit B.rows B.cols

-- the column of a bit, or the row of a check, that a walk has come to; and the row, or column, that it came from
abbrev pub block : Bool → Position → ℕ
block bit p = cond bit p.col p.row

abbrev pub parent : Bool → Position → ℕ
parent bit p = cond bit p.row p.col

-- A node as one number: its vertex, the edges that may follow (which tell its depth), whether it is a bit, and in the last ten
-- binary digits its parent's row or column. A vertex has one neighbour in a row or column, so that tells the parent.
abbrev pub pack : ℕ → ℕ → ℕ → ℕ → ℕ
pack vertex left side from = ((vertex * 16 + left) * 2 + side) * 1024 + from

abbrev pub packed : ℕ → Bool → ℕ → Position → ℕ
packed lift bit left p = pack (block bit p * lift + p.voltage) left (cond bit 1 0) (parent bit p)

-- the nodes from a position on, where `left` edges may follow
unfoldable pub tree : Blocks → Bool → ℕ → Position → List ℕ
tree B bit zero p = packed B.lift bit zero p ∷ []
tree B bit (suc left) p = packed B.lift bit (suc left) p ∷ each (λ i. and_then (step_to B bit p i) (tree B (not bit) left)) (width B bit) 0

-- the tree of column j
abbrev pub column_tree : Blocks → ℕ → ℕ → List ℕ
column_tree B depth j = tree B true depth (root_bit B j)

-- half the length of the longest cycle that a target forbids
abbrev pub depth_of : ℕ → ℕ
depth_of target = target / 2 - 1

-- the tree of some column has more nodes than a list has places
unfoldable pub overfull : Blocks → ℕ → ℕ → Bool
overfull B depth places = somewhere (λ j. ltb places (length (column_tree B depth j))) (below B.cols)
