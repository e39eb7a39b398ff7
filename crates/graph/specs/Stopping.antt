-- Stopping sets (document 01: stuck sets), and how large the smallest is at a girth.
use Rattle.std.specs.Prelude.{ℕ, ◌≤◌, ◌<◌, Bool, ◌≢◌, length}
use Rattle.graph.specs.Count.{count}
use Rattle.graph.specs.Graph.{Bipartite, bits_of, checks_of}

-- no check touches the set exactly once
unfoldable pub Stopping : Bipartite → (ℕ → Bool) → Type 0
Stopping G S = (c : ℕ) → c < G.checks → count S (bits_of G c) ≢ 1

-- every bit has at least three checks
unfoldable pub ThreeChecks : Bipartite → Type 0
ThreeChecks G = (b : ℕ) → b < G.bits → 3 ≤ length (checks_of G b)

-- At girth t a stopping set that is not empty has at least n bits: 1 + 3, 2 + 4, 1 + 3 + 6, 2 + 4 + 8, …
pub data Least : ℕ → ℕ → Type 0 where
  girth_6 : Least 6 4
  girth_8 : Least 8 6
  girth_10 : Least 10 10
  girth_12 : Least 12 14
  girth_14 : Least 14 22
  girth_16 : Least 16 30
  girth_18 : Least 18 46
