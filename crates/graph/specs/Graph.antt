-- The Tanner graph (document 01: expanded graph): checks and bits, both numbered from 0, and the edges (joins) between them.
use Rattle.std.specs.Prelude.{ℕ, ◌<◌, ◌≡◌, Bool, true, List}
use Rattle.graph.specs.Count.{below, select}

pub record Bipartite : Type 0 where
  pub checks : ℕ
  pub bits : ℕ
  pub joins : ℕ → ℕ → Bool

-- check c joins bit b, both of them in range
pub record Joined (G : Bipartite) (c b : ℕ) : Type 0 where
  pub check_in : c < G.checks
  pub bit_in : b < G.bits
  pub edge : G.joins c b ≡ true

-- the bits of check c, rising
unfoldable pub bits_of : Bipartite → ℕ → List ℕ
bits_of G c = select (G.joins c) (below G.bits)

-- the checks of bit b, rising
unfoldable pub checks_of : Bipartite → ℕ → List ℕ
checks_of G b = select (λ c. G.joins c b) (below G.checks)
