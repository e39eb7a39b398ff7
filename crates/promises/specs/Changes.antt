-- Document 02, slip 7: after any list of changes from a built plan, each taken or refused, with nothing else written to plan or lists, each
-- weight is the count of filled blocks, so 25 never falls; and a change moves no other entry or weight.
use Rattle.std.specs.Prelude.{ℕ, ◌≡◌, ◌≢◌, List, ℤ}
use Rattle.std.specs.Prelude.{Some, Ok}
use Rattle.refusal.specs.Answer.{outcome}
use Rattle.refusal.specs.declared.Refusal.TheVariants.{Weights}
use Rattle.refusal.specs.Lowest.{lowest}
use Rattle.exponent.specs.declared.Shape.{Shape}
use Rattle.weights.specs.Weights.{Held}
use Rattle.weights.specs.Change.{Call, refusal_of, after}
use Rattle.weights.specs.Changes.{after_all, Counted, OnlyThere}
use Rattle.table.specs.Build.{build_refusal, after_build, built_shape}
use Rattle.steiner.specs.Build as steiner
use Rattle.alist.specs.Calls.{write_rules, compare_rules}

-- a plan with its two lists, of which this holds and, after a further change, again
pub record StillCounted (s : Shape) (h : Held) : Type 0 where
  -- the plan is valid, and each weight is the count of filled blocks;
  pub counted : Counted s h
  -- 25 falls on no further change, and neither where the alist is written nor where a text is compared, at whatever lift;
  pub changed : (c : Call) → c.shape.rows ≡ s.rows → c.shape.cols ≡ s.cols → refusal_of c h ≢ Some Weights
  pub written : (lift : ℕ) (place : List ℕ) → lowest (write_rules h.plan s.rows s.cols lift h.rows h.cols place) ≢ Some Weights
  pub compared : (lift : ℕ) (text : List ℕ) → lowest (compare_rules h.plan s.rows s.cols lift h.rows h.cols text) ≢ Some Weights
  -- a further change moves at most the entry that it names and the weights of its row and column
  pub only_there : (c : Call) → OnlyThere c h (after c h)

-- wherever a builder answers that it built, of what the three lent lists hold after any list of changes
pub record ChangesCounted : Type 0 where
  pub tables : (order lift : ℕ) (table : List ℤ) (mask : List ℕ) (h : Held) (s : Shape)
      → outcome (build_refusal order lift table mask h) (built_shape order lift mask) ≡ Ok s
      → (calls : List Call) → StillCounted s (after_all calls (after_build order lift table mask h))
  pub triples : (order lift : ℕ) (voltages : List ℤ) (h : Held) (s : Shape)
      → outcome (steiner.build_refusal order lift voltages h) (steiner.built_shape order lift) ≡ Ok s
      → (calls : List Call) → StillCounted s (after_all calls (steiner.after_build order lift voltages h))
