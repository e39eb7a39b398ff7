-- `trees::columns::any_pair` meets its contract: no column passed has a pair. Assumes nothing.
use Rattle.std.proofs.Common.{ℕ, ◌<◌}
use Rattle.walks.specs.Steps.{blocks}
use Rattle.trees.specs.Tree.{column_tree}
use Rattle.trees.specs.Pairs.{Pair}
use Rattle.trees.proofs.columns.any_pair.Given as goal

abbrev pub invariant-loop-j : goal.invariant-loop-j
invariant-loop-j l = (k : ℕ) → k < l.j → Pair (column_tree (blocks l.graph.rows.plan) l.depth k) → ⊥
