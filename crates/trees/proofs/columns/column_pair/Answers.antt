-- `trees::columns::column_pair` meets its contract: the tree is written whole, at the front of the list. Assumes nothing.
use Rattle.std.proofs.Common.{ℕ, List, subst}
use Rattle.trees.specs.Pairs.{Pair, Decides}
use Rattle.trees.proofs.Growing.{grew_until}
use Rattle.trees.proofs.Overfull.{wrote_front}
use Rattle.trees.proofs.columns.column_pair.Goals as goal

pub returns-in-Some : goal.returns-in-Some
returns-in-Some c =
    let (fits, wrote) = grew_until c.column_tree.ensures c.in-Some.is in
    subst (λ (l : List ℕ). Decides c.has_pair.result (Pair l)) (wrote_front wrote fits) c.has_pair.ensures
