-- The filled word: what holds of a word on the way to it, and the word itself, computed: in each round every erasure that is the only
-- one of some check takes that check's parity. proofs/Filling.antt shows that this is the one `Solution`, where there is one.
use Rattle.std.specs.Prelude.{ℕ, zero, suc, ◌%◌, ◌≡◌, Bool, true, false, not, cond, ◌&&◌, List, map, eqb, length, get_or}
use Rattle.graph.specs.Count.{below, count}
use Rattle.graph.specs.Graph.{Bipartite, bits_of}
use Rattle.graph.specs.Erasure.{erased, parity, any, only, largest, Solution}

-- p is as long as w; its erasures are some of w's, with all of U; elsewhere it has the parity that every solution has there
pub record Derived (G : Bipartite) (w p : List ℕ) : Type 0 where
  pub same_length : length p ≡ length w
  pub within : (b : ℕ) → erased p b ≡ true → erased w b ≡ true
  pub keeps : (b : ℕ) → largest G w b ≡ true → erased p b ≡ true
  pub agrees : (v : List ℕ) → Solution G w v → (b : ℕ) → erased p b ≡ false → get_or v b 0 % 2 ≡ get_or p b 0 % 2

-- the parity of a check below n of which bit b is the only erasure, or 2 where there is none (an erasure counts as even)
unfoldable pub forced : Bipartite → List ℕ → ℕ → ℕ → ℕ
forced G w zero b = 2
forced G w (suc c) b = let rest = forced G w c b in cond (only G (erased w) c b) (parity G w c) rest

unfoldable pub fill_round : Bipartite → List ℕ → List ℕ
fill_round G w = map (λ b. cond (erased w b) (forced G w G.checks b) (get_or w b 0)) (below (length w))

unfoldable pub fill_rounds : Bipartite → ℕ → List ℕ → List ℕ
fill_rounds G zero w = w
fill_rounds G (suc k) w = fill_round G (fill_rounds G k w)

-- as many rounds as there are bits
unfoldable pub filled_word : Bipartite → List ℕ → List ℕ
filled_word G w = fill_rounds G (length w) w

-- check c has no erasure and is odd
unfoldable pub odd_check : Bipartite → List ℕ → ℕ → Bool
odd_check G w c = eqb (count (erased w) (bits_of G c)) 0 && eqb (parity G w c) 1

-- some check without an erasure is odd: no values fit (refusal 20)
unfoldable pub clash : Bipartite → List ℕ → Bool
clash G w = any G.checks (odd_check G w)

-- how many erasures the word has, how many of them lie outside U (filled), and how many in U (left)
unfoldable pub erasures : List ℕ → ℕ
erasures w = count (λ x. eqb x 2) w

unfoldable pub filled_count : Bipartite → List ℕ → ℕ
filled_count G w = count (λ b. erased w b && not (largest G w b)) (below (length w))

unfoldable pub left_count : Bipartite → List ℕ → ℕ
left_count G w = count (largest G w) (below (length w))
