-- Words with erasures (document 01: frames with lost bits), and what filling them means ("Frames and filling").
-- A word is a list of bytes: 0 or 1 for a known bit, 2 for an erasure.
use Rattle.std.specs.Prelude.{ℕ, zero, suc, ◌+◌, ◌%◌, ◌<◌, ◌≡◌, Bool, true, false, not, ◌&&◌, ◌||◌, List, [], ◌∷◌, eqb, length, get_or}
use Rattle.graph.specs.Count.{count, member}
use Rattle.graph.specs.Graph.{Bipartite, bits_of}
use Rattle.graph.specs.Stopping.{Stopping}

-- bit b of the word is an erasure (a lost bit)
abbrev pub erased : List ℕ → ℕ → Bool
erased w b = eqb (get_or w b 0) 2

-- the sum of the word's bytes at the bits of a list
unfoldable pub total : List ℕ → List ℕ → ℕ
total w [] = 0
total w (b ∷ l) = get_or w b 0 + total w l

-- the syndrome of check c: 0 where the check is even, 1 where it is odd
unfoldable pub parity : Bipartite → List ℕ → ℕ → ℕ
parity G w c = total w (bits_of G c) % 2

-- a codeword (document 01: code frame): every byte is 0 or 1, and every check is even
pub record Codeword (G : Bipartite) (v : List ℕ) : Type 0 where
  pub same_length : length v ≡ G.bits
  pub known : (b : ℕ) → b < G.bits → get_or v b 0 < 2
  pub even : (c : ℕ) → c < G.checks → parity G v c ≡ 0

-- w is the codeword v with some bytes replaced by 2: its lost bits
pub record Damaged (G : Bipartite) (v w : List ℕ) : Type 0 where
  pub codeword : Codeword G v
  pub same_length : length w ≡ length v
  pub kept : (b : ℕ) → erased w b ≡ false → get_or v b 0 ≡ get_or w b 0

-- a stopping set among the word's erasures
pub record StoppingIn (G : Bipartite) (w : List ℕ) (S : ℕ → Bool) : Type 0 where
  pub within : (b : ℕ) → S b ≡ true → erased w b ≡ true
  pub stops : Stopping G S

-- U has exactly the bits of the sets of a collection: it is their union
pub record Union (Collected : (ℕ → Bool) → Type 0) (U : ℕ → Bool) : Type 0 where
  pub contains : (S : ℕ → Bool) → Collected S → (b : ℕ) → S b ≡ true → U b ≡ true
  pub nothing_else : (b : ℕ) → U b ≡ true → (S : ℕ → Bool) × Collected S × (S b ≡ true)

-- some number below n passes the test
unfoldable pub any : ℕ → (ℕ → Bool) → Bool
any zero test = false
any (suc n) test = test n || any n test

-- check c touches bit b, and exactly one bit of S: where b is in S, it is that bit
unfoldable pub only : Bipartite → (ℕ → Bool) → ℕ → ℕ → Bool
only G S c b = member b (bits_of G c) && eqb (count S (bits_of G c)) 1

-- S without the bits that some check touches as the only one of S
unfoldable pub peel : Bipartite → (ℕ → Bool) → ℕ → Bool
peel G S b = S b && not (any G.checks (λ c. only G S c b))

unfoldable pub peels : Bipartite → ℕ → (ℕ → Bool) → ℕ → Bool
peels G zero S = S
peels G (suc k) S = peel G (peels G k S)

-- U, the largest stopping set among the erasures: what as many rounds as there are bits leave
unfoldable pub largest : Bipartite → List ℕ → ℕ → Bool
largest G w = peels G (length w) (erased w)

-- v is w with the erasures outside U filled so that every check that touches no bit of U is even
pub record Solution (G : Bipartite) (w v : List ℕ) : Type 0 where
  pub same_length : length v ≡ length w
  pub known : (b : ℕ) → erased w b ≡ false → get_or v b 0 ≡ get_or w b 0
  pub left : (b : ℕ) → largest G w b ≡ true → get_or v b 0 ≡ 2
  pub filled : (b : ℕ) → erased w b ≡ true → largest G w b ≡ false → get_or v b 0 < 2
  pub even : (c : ℕ) → c < G.checks → count (largest G w) (bits_of G c) ≡ 0 → parity G v c ≡ 0
