-- Simple cycles, what it is to pass at a target (document 01, "Girth verdict"), and the girth.
use Rattle.std.specs.Prelude.{ℕ, suc, pred, ◌*◌, ◌≤◌, ◌<◌, ◌≡◌, ◌≢◌, List, length, get_or}
use Rattle.graph.specs.Graph.{Bipartite, Joined}

-- A simple cycle of n checks and n bits: check k joins bit k, bit k joins check k + 1, the last bit joins the first check,
-- all checks are distinct, and all bits. (Ranges are in `Joined`.) Its length is its number of edges, 2 * n.
pub record SimpleCycle (G : Bipartite) (n : ℕ) (checks bits : List ℕ) : Type 0 where
  pub least : 2 ≤ n
  pub n_checks : length checks ≡ n
  pub n_bits : length bits ≡ n
  pub forth : (k : ℕ) → k < n → Joined G (get_or checks k 0) (get_or bits k 0)
  pub back : (k : ℕ) → suc k < n → Joined G (get_or checks (suc k) 0) (get_or bits k 0)
  pub closes : Joined G (get_or checks 0 0) (get_or bits (pred n) 0)
  pub checks_differ : (i j : ℕ) → i < j → j < n → get_or checks i 0 ≢ get_or checks j 0
  pub bits_differ : (i j : ℕ) → i < j → j < n → get_or bits i 0 ≢ get_or bits j 0

-- no simple cycle has fewer edges than the target
unfoldable pub Passes : Bipartite → ℕ → Type 0
Passes G target = (n : ℕ) (checks bits : List ℕ) → SimpleCycle G n checks bits → target ≤ 2 * n

-- g is the girth (document 01: the least length): a simple cycle of g edges exists, and none is shorter
pub record IsGirth (G : Bipartite) (g : ℕ) : Type 0 where
  pub n : ℕ
  pub checks : List ℕ
  pub bits : List ℕ
  pub cycle : SimpleCycle G n checks bits
  pub edges : 2 * n ≡ g
  pub none_shorter : Passes G g
