-- Lists of changes (document 02, slip 7): calls one after the other, each taken or refused, with nothing else written.
use Rattle.std.specs.Prelude.{ℕ, ◌+◌, ◌*◌, ◌≡◌, ◌≢◌, List, [], ◌∷◌, pos, length, get_or}
use Rattle.exponent.specs.declared.Shape.{Shape}
use Rattle.exponent.specs.Limits.{WellFormed}
use Rattle.weights.specs.Weights.{Held, Weighed}
use Rattle.weights.specs.Change.{Call, after}

-- what they leave
unfoldable pub after_all : List Call → Held → Held
after_all [] h = h
after_all (c ∷ calls) h = after_all calls (after c h)

-- a plan that is not refused, and each weight is the count of filled blocks
pub record Counted (s : Shape) (h : Held) : Type 0 where
  pub well : WellFormed h.plan s.rows s.cols s.lift
  pub weighed : Weighed h.plan s h.rows h.cols

-- no list gets longer or shorter, no other entry moves, and no weight of another row or column
pub record OnlyThere (c : Call) (before after : Held) : Type 0 where
  pub as_long : (length after.plan ≡ length before.plan) × (length after.rows ≡ length before.rows) × (length after.cols ≡ length before.cols)
  pub entries : (place : ℕ) → place ≢ c.at.row * c.shape.cols + c.at.col → get_or after.plan place (pos 0) ≡ get_or before.plan place (pos 0)
  pub rows : (row : ℕ) → row ≢ c.at.row → get_or after.rows row 0 ≡ get_or before.rows row 0
  pub cols : (col : ℕ) → col ≢ c.at.col → get_or after.cols col 0 ≡ get_or before.cols col 0
