-- One block changed (document 02, slip 7): the answer of the call, and what the plan and the two lists of weights then hold.
use Rattle.std.specs.Prelude.{ℕ, ◌+◌, ◌*◌, ◌<◌, ◌≡◌, false, not, ◌&&◌, List, [], ◌∷◌, ◌++◌, ltb, ℤ, length, set}
use Rattle.std.specs.Prelude.{Option}
use Rattle.refusal.specs.declared.Refusal.{Refusal}
use Rattle.refusal.specs.declared.Refusal.TheVariants.{BlockPlace}
use Rattle.refusal.specs.Lowest.{Rule, refuse, lowest}
use Rattle.refusal.specs.Lent.{lent}
use Rattle.exponent.specs.declared.Shape.{Shape}
use Rattle.exponent.specs.Plan.{invalid_entry}
use Rattle.exponent.specs.Limits.{size_rules, entry_rules, WellFormed}
use Rattle.weights.specs.declared.change.At.{At}
use Rattle.weights.specs.Weights.{shape_of, Held, with_weights, Weighed, weight_rules}

-- 24: the block lies outside the plan
abbrev pub block_rules : Shape → At → List Rule
block_rules s at = refuse BlockPlace (not (ltb at.row s.rows && ltb at.col s.cols)) ∷ []

-- 6 for the plan's entries and then the new one, whose place is the one after them, 24 and 25; before them 1 to 5
abbrev pub own_rules : List ℤ → Shape → At → ℤ → List ℕ → List ℕ → List Rule
own_rules plan s at entry rows cols = entry_rules s.lift (plan ++ entry ∷ []) ++ block_rules s at ++ weight_rules plan s rows cols

unfoldable pub change_rules : List ℤ → Shape → At → ℤ → List ℕ → List ℕ → List Rule
change_rules plan s at entry rows cols = size_rules (length plan) s.rows s.cols s.lift ++ own_rules plan s at entry rows cols

-- the plan with the new entry
unfoldable pub stored : List ℤ → Shape → At → ℤ → List ℤ
stored plan s at entry = set plan (at.row * s.cols + at.col) entry

-- what a call that is not refused is given
pub record Accepted (plan : List ℤ) (s : Shape) (at : At) (entry : ℤ) (rows cols : List ℕ) : Type 0 where
  pub well : WellFormed plan s.rows s.cols s.lift
  pub row_in : at.row < s.rows
  pub col_in : at.col < s.cols
  pub valid : invalid_entry s.lift entry ≡ false
  pub weighed : Weighed plan s rows cols

-- a call with its numbers
pub record Call : Type 0 where
  pub shape : Shape
  pub at : At
  pub entry : ℤ

abbrev pub call : ℕ → ℕ → ℕ → ℕ → ℕ → ℤ → Call
call rows cols lift row col entry =
    record { shape = shape_of rows cols lift; at = record { row = row; col = col }; entry = entry }

-- THE CALL: why it is refused, if it is, and what it leaves
unfoldable pub refusal_of : Call → Held → Option Refusal
refusal_of c h = lowest (change_rules h.plan c.shape c.at c.entry h.rows h.cols)

abbrev pub new_plan : Call → Held → List ℤ
new_plan c h = stored h.plan c.shape c.at c.entry

-- the plan with the new entry, with its weights; or all as it was
unfoldable pub after : Call → Held → Held
after c h = lent (refusal_of c h) (with_weights (new_plan c h) c.shape) h
