-- `trees::columns::any_overfull` meets its contract: the trees of all columns passed have room. Assumes nothing.
use Rattle.std.proofs.Common.{ℕ, ◌≤◌, ◌<◌, length}
use Rattle.walks.specs.Steps.{blocks}
use Rattle.trees.specs.Tree.{column_tree}
use Rattle.trees.proofs.columns.any_overfull.Given as goal

abbrev pub invariant-loop-j : goal.invariant-loop-j
invariant-loop-j l = (k : ℕ) → k < l.j → length (column_tree (blocks l.graph.rows.plan) l.depth k) ≤ l.places
