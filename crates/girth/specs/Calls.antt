-- How long the girth test takes at most, for every plan and target that are not refused: the calls that its search makes
-- (crates/walks/specs/Calls.antt).
use Rattle.std.specs.Prelude.{ℕ, ◌+◌, ◌-◌, ◌*◌, ◌/◌, ◌≤◌, ◌≡◌, List, ℤ}
use Rattle.std.specs.Prelude.{None}
use Rattle.refusal.specs.Lowest.{lowest}
use Rattle.exponent.specs.declared.Shape.{Shape}
use Rattle.walks.specs.Steps.{blocks_of}
use Rattle.walks.specs.Calls.{search_calls, search_bound}
use Rattle.girth.specs.Test.{test_rules}

-- the rounds of a target, from 2 on: 1 at 6, up to 7 at 18
abbrev pub rounds : ℕ → ℕ
rounds target = target / 2 - 2

abbrev pub test_calls : List ℤ → Shape → ℕ → ℕ
test_calls plan s target = search_calls (blocks_of plan s) (rounds target) 2

-- The calls are bounded by the plan's sizes; and, whatever the plan, by 210 million for each round and a million.
pub record Bounded (plan : List ℤ) (s : Shape) (target : ℕ) : Type 0 where
  pub by_sizes : test_calls plan s target ≤ search_bound s (rounds target)
  pub by_limits : test_calls plan s target ≤ rounds target * 210000000 + 1000000

abbrev pub AlwaysBounded : Type 0
AlwaysBounded = (plan : List ℤ) (s : Shape) (target : ℕ) → lowest (test_rules plan s.rows s.cols s.lift target) ≡ None → Bounded plan s target
