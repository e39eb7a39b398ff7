-- One round of bit flipping (document 02, slip 12: turning bits), by Gallager's hard rule. Every bit is judged on the word before the round.
use Rattle.std.specs.Prelude.{ℕ, ◌-◌, ◌≡◌, ◌≢◌, Bool, cond, List, map, eqb, ltb, length, get_or}
use Rattle.graph.specs.Count.{below, count}
use Rattle.graph.specs.Graph.{Bipartite, Joined, checks_of}
use Rattle.graph.specs.Erasure.{parity}
use Rattle.graph.specs.Errors.{errors}

-- bit b has two or more odd checks
pub record TwoOdd (G : Bipartite) (w : List ℕ) (b : ℕ) : Type 0 where
  pub c : ℕ
  pub d : ℕ
  pub differ : c ≢ d
  pub joins_c : Joined G c b
  pub joins_d : Joined G d b
  pub odd_c : parity G w c ≡ 1
  pub odd_d : parity G w d ≡ 1

-- v is w after a round in which n bits were turned: exactly those with two or more odd checks
pub record Round (G : Bipartite) (w v : List ℕ) (n : ℕ) : Type 0 where
  pub same_length : length v ≡ length w
  pub turned : (b : ℕ) → TwoOdd G w b → get_or v b 0 ≡ 1 - get_or w b 0
  pub others : (b : ℕ) → (TwoOdd G w b → ⊥) → get_or v b 0 ≡ get_or w b 0
  pub number : errors w v ≡ n

-- THE SAME, COMPUTED: how many checks of bit b are odd
unfoldable pub odd_checks : Bipartite → List ℕ → ℕ → ℕ
odd_checks G w b = count (λ c. eqb (parity G w c) 1) (checks_of G b)

-- two or more are: the bit is turned
abbrev pub flips : Bipartite → List ℕ → ℕ → Bool
flips G w b = ltb 1 (odd_checks G w b)

abbrev pub flipped_bit : Bool → ℕ → ℕ
flipped_bit flip x = cond flip (1 - x) x

-- the word after the round, and how many bits were turned
unfoldable pub flipped_word : Bipartite → List ℕ → List ℕ
flipped_word G w = map (λ b. flipped_bit (flips G w b) (get_or w b 0)) (below (length w))

unfoldable pub flipped_count : Bipartite → List ℕ → ℕ
flipped_count G w = count (flips G w) (below (length w))
