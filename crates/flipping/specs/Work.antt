-- What the functions of a round know and leave. During the round a byte is v + 2 × k: the bit v, and k of its odd checks so far (its marks).
use Rattle.std.specs.Prelude.{ℕ, ◌+◌, ◌*◌, ◌%◌, ◌≤◌, ◌<◌, ◌≡◌, Bool, ◌&&◌, List, eqb, ltb, ℤ, length, get_or}
use Rattle.graph.specs.Count.{below, count}
use Rattle.graph.specs.Graph.{Bipartite}
use Rattle.graph.specs.Erasure.{parity}
use Rattle.graph.specs.Flipping.{flipped_bit}
use Rattle.exponent.specs.declared.Shape.{Shape}
use Rattle.exponent.specs.Limits.{WellFormed}
use Rattle.exponent.specs.Tanner.{column_weight}

-- what a round is given: a valid plan with three filled blocks in each column, and a word of bits of its length
pub record Given (plan : List ℤ) (s : Shape) (word : List ℕ) : Type 0 where
  pub formed : WellFormed plan s.rows s.cols s.lift
  pub whole : length word ≡ s.cols * s.lift
  pub known : (b : ℕ) → b < length word → get_or word b 0 < 2
  pub three : (j : ℕ) → j < s.cols → column_weight plan s.rows s.cols s.lift j ≡ 3

-- no byte is above n, so that marks find room in it
abbrev pub AtMost : ℕ → List ℕ → Type 0
AtMost n w = (b : ℕ) → b < length w → get_or w b 0 ≤ n

-- q is p with a mark more for each time that a bit stands in the list
pub record Marked (p bits q : List ℕ) : Type 0 where
  pub same_length : length q ≡ length p
  pub bytes : (b : ℕ) → b < length p → get_or q b 0 ≡ get_or p b 0 + 2 * count (λ x. eqb x b) bits

-- q is w with a mark for each odd check of a bit below check c
pub record MarkedTo (G : Bipartite) (w q : List ℕ) (c : ℕ) : Type 0 where
  pub same_length : length q ≡ length w
  pub bytes : (b : ℕ) → b < length w → get_or q b 0 ≡ get_or w b 0 + 2 * count (λ d. G.joins d b && eqb (parity G w d) 1) (below c)

-- whatever word q has the marks of below check c, r has them below c + 1
unfoldable pub MarkedOn : Bipartite → ℕ → List ℕ → List ℕ → Type 0
MarkedOn G c q r = (w : List ℕ) → length w ≡ G.bits → MarkedTo G w q c → MarkedTo G w r (c + 1)

-- what a marked byte says: two marks or more, and the bit that it becomes
abbrev pub is_flipped : ℕ → Bool
is_flipped x = ltb 3 x

abbrev pub unmarked : ℕ → ℕ
unmarked x = flipped_bit (is_flipped x) (x % 2)

-- the bytes below k are bits again, and n of them were turned
pub record Unmarked (p q : List ℕ) (n k : ℕ) : Type 0 where
  pub same_length : length q ≡ length p
  pub front : (b : ℕ) → b < k → get_or q b 0 ≡ unmarked (get_or p b 0)
  pub back : (b : ℕ) → k ≤ b → get_or q b 0 ≡ get_or p b 0
  pub number : n ≡ count (λ b. is_flipped (get_or p b 0)) (below k)
