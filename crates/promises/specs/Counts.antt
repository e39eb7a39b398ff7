-- Document 02, slip 3: for every list of bytes, those with bytes above 2 too, the count is the number of bytes equal to 2. It is said
-- byte by byte, of `erasures`, which the contract of `count_erasures` equates its answer with.
use Rattle.std.specs.Prelude.{ℕ, suc, ◌≡◌, ◌≢◌, List, [], ◌∷◌}
use Rattle.graph.specs.Filling.{erasures}

pub record LostBytes : Type 0 where
  -- of no bytes, none
  pub of_none : erasures [] ≡ 0
  -- a byte equal to 2 is one more
  pub of_two : (word : List ℕ) → erasures (2 ∷ word) ≡ suc (erasures word)
  -- any other byte, below or above, is none
  pub of_other : (x : ℕ) (word : List ℕ) → x ≢ 2 → erasures (x ∷ word) ≡ erasures word
