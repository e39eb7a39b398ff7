-- What the decoder's functions promise one another. During the work a byte 4 or 5 is an erasure that is filled with 0 or 1.
use Rattle.std.specs.Prelude.{Option, Some, None}
use Rattle.std.specs.Prelude.{ℕ, ◌+◌, ◌-◌, ◌≤◌, ◌<◌, ◌≡◌, ◌≢◌, Bool, false, cond, List, ltb, length, get_or}
use Rattle.graph.specs.Count.{count}
use Rattle.graph.specs.Graph.{Bipartite, bits_of}
use Rattle.graph.specs.Erasure.{erased}
use Rattle.graph.specs.Filling.{Derived, erasures}

-- a byte without its mark: the bit that it was filled with where `keep`, else an erasure again
abbrev pub unmarked : Bool → ℕ → ℕ
unmarked keep x = cond (ltb x 4) x (cond keep (x - 4) 2)

-- p is w in work: erasures that are forced are filled, with marked bytes
pub record Working (G : Bipartite) (w p : List ℕ) : Type 0 where
  pub derived : Derived G w p
  pub marks : (b : ℕ) → unmarked false (get_or p b 0) ≡ get_or w b 0
  pub small : (b : ℕ) → get_or p b 0 ≤ 5

-- p became q by filling n forced erasures
pub record Worked (G : Bipartite) (p q : List ℕ) (n : ℕ) : Type 0 where
  pub same_length : length q ≡ length p
  pub work : (w : List ℕ) → Working G w p → Working G w q
  pub fewer : erasures q + n ≡ erasures p

-- check c was looked at: it had not exactly one erasure and nothing changed, or a forced erasure was filled
abbrev pub FilledCheck : Bipartite → ℕ → List ℕ → List ℕ → Option ℕ → Type 0
FilledCheck G c p q None = (count (erased p) (bits_of G c) ≢ 1) × (q ≡ p)
FilledCheck G c p q (Some b) = (b < length p) × Worked G p q 1

-- the checks from `start` up to `end` were looked at; where nothing was filled, none of them has exactly one erasure
pub record Passed (G : Bipartite) (start end : ℕ) (p q : List ℕ) (n : ℕ) : Type 0 where
  pub worked : Worked G p q n
  pub idle : n ≡ 0 → (q ≡ p) × ((c : ℕ) → start ≤ c → c < end → count (erased p) (bits_of G c) ≢ 1)

-- passes made q of p and filled n bits, m of them in the last pass; where that filled none, no check has exactly one erasure
pub record Peeled (G : Bipartite) (p q : List ℕ) (n m : ℕ) : Type 0 where
  pub worked : Worked G p q n
  pub stops : m ≡ 0 → (c : ℕ) → c < G.checks → count (erased q) (bits_of G c) ≢ 1
