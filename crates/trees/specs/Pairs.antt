-- Pairs of nodes, and what it is to tell whether there is one.
use Rattle.std.specs.Prelude.{ℕ, ◌/◌, ◌<◌, ◌≡◌, ◌≢◌, Bool, true, false, not, ◌&&◌, List, eqb}
use Rattle.graph.specs.Count.{Mem}
use Rattle.walks.specs.Steps.{Blocks}
use Rattle.trees.specs.Tree.{column_tree}

-- two nodes of the same depth and vertex (so of the same voltage) with different parents
pub record Pair (nodes : List ℕ) : Type 0 where
  pub one : ℕ
  pub other : ℕ
  pub one_in : Mem one nodes
  pub other_in : Mem other nodes
  pub same : one / 1024 ≡ other / 1024
  pub differ : one ≢ other

-- whether two nodes are a pair
abbrev pub meet : ℕ → ℕ → Bool
meet x y = eqb (x / 1024) (y / 1024) && not (eqb x y)

-- the tree of some column has a pair
pub record SomePair (B : Blocks) (depth : ℕ) : Type 0 where
  pub column : ℕ
  pub inside : column < B.cols
  pub pair : Pair (column_tree B depth column)

-- r tells whether A holds
pub record Decides (r : Bool) (A : Type 0) : Type 0 where
  pub yes : r ≡ true → A
  pub no : r ≡ false → A → ⊥
