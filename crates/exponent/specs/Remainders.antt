-- Document 02, slip 4: two plans with the same empty blocks and equal remainders by the lift in the filled ones.
use Rattle.std.specs.Prelude.{ℕ, ◌%◌, ◌≡◌, List, [], ◌∷◌, ℤ, pos, negsuc}

pub data SameRemainders (lift : ℕ) : List ℤ → List ℤ → Type 0 where
  none : SameRemainders lift [] []
  empty : {p q : List ℤ} → SameRemainders lift p q → SameRemainders lift (negsuc 0 ∷ p) (negsuc 0 ∷ q)
  filled : {p q : List ℤ} (e f : ℕ) → e % lift ≡ f % lift → SameRemainders lift p q → SameRemainders lift (pos e ∷ p) (pos f ∷ q)
