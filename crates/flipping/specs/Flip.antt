-- A round of bit flipping (document 02, slip 12): its refusals, its answer, and what the lent word then holds.
use Rattle.std.specs.Prelude.{Result}
use Rattle.refusal.specs.Answer.{outcome}
use Rattle.std.specs.Prelude.{ℕ, Bool, not, List, [], ◌∷◌, ◌++◌, eqb, ℤ}
use Rattle.std.specs.Prelude.{Option}
use Rattle.refusal.specs.declared.Refusal.{Refusal}
use Rattle.refusal.specs.declared.Refusal.TheVariants.{ColumnWeight}
use Rattle.refusal.specs.Lowest.{Rule, refuse, lowest}
use Rattle.refusal.specs.Lent.{lent}
use Rattle.graph.specs.Erasure.{any}
use Rattle.graph.specs.Flipping.{flipped_word, flipped_count}
use Rattle.exponent.specs.Tanner.{tanner, column_weight}
use Rattle.syndrome.specs.Check.{check_rules}

-- a column has not exactly three filled blocks
unfoldable pub other_weight : List ℤ → ℕ → ℕ → ℕ → Bool
other_weight plan rows cols lift = any cols (λ j. not (eqb (column_weight plan rows cols lift j) 3))

-- 32, after those of the syndrome check, 1 to 6, 16, 18 and 19
unfoldable pub flip_rules : List ℤ → ℕ → ℕ → ℕ → List ℕ → List Rule
flip_rules plan rows cols lift word = check_rules plan rows cols lift word ++ refuse ColumnWeight (other_weight plan rows cols lift) ∷ []

-- THE CALL: why it is refused, if it is; the answer; what the word then holds
abbrev pub flip_refusal : List ℤ → ℕ → ℕ → ℕ → List ℕ → Option Refusal
flip_refusal plan rows cols lift word = lowest (flip_rules plan rows cols lift word)

unfoldable pub flip_answer : List ℤ → ℕ → ℕ → ℕ → List ℕ → Result ℕ Refusal
flip_answer plan rows cols lift word = outcome (flip_refusal plan rows cols lift word) (flipped_count (tanner plan rows cols lift) word)

unfoldable pub flip_word : List ℤ → ℕ → ℕ → ℕ → List ℕ → List ℕ
flip_word plan rows cols lift word = lent (flip_refusal plan rows cols lift word) (flipped_word (tanner plan rows cols lift) word) word
