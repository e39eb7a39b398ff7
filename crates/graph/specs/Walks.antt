-- Walks in the graph of checks and bits that never step back.
use Rattle.std.specs.Prelude.{ℕ, ◌≢◌, List, [], ◌∷◌}
use Rattle.graph.specs.Graph.{Bipartite, Joined}

-- a vertex; a check is never a bit, even where their numbers are equal
pub data Node : Type 0 where
  check : ℕ → Node
  bit : ℕ → Node
  deriving Discrete as Node-discrete

unfoldable pub Adj : Bipartite → Node → Node → Type 0
Adj G (check c) (check d) = ⊥
Adj G (check c) (bit b) = Joined G c b
Adj G (bit b) (check c) = Joined G c b
Adj G (bit a) (bit b) = ⊥

-- A non-backtracking walk: each vertex is joined to the next one, and is not the next but one.
abbrev pub Apart : Node → List Node → Type 0
Apart u [] = Unit {0}
Apart u (w ∷ l) = u ≢ w

abbrev pub Next : Bipartite → Node → List Node → Type 0
Next G u [] = Unit {0}
Next G u (v ∷ l) = Adj G u v × Apart u l

abbrev pub Walk : Bipartite → List Node → Type 0
Walk G [] = Unit {0}
Walk G (u ∷ l) = Next G u l × Walk G l
