-- The girth test as the code makes it: an executable model. proofs/Verdict.antt shows that it meets `Answer`.
use Rattle.std.specs.Prelude.{ℕ, zero, suc, ◌-◌, ◌/◌, List, ℤ}
use Rattle.std.specs.Prelude.{Option, None, Some, Result}
use Rattle.refusal.specs.declared.Refusal.{Refusal}
use Rattle.refusal.specs.Answer.{outcome}
use Rattle.refusal.specs.Lowest.{lowest}
use Rattle.walks.specs.declared.trail.Trail.{Trail}
use Rattle.walks.specs.Steps.{Blocks, blocks_of}
use Rattle.walks.specs.Ways.{Way}
use Rattle.walks.specs.Meeting.{short_cycle}
use Rattle.walks.specs.Trail.{trail}
use Rattle.girth.specs.declared.Cycle.{Cycle}
use Rattle.girth.specs.Test.{test_rules}

-- the cycle of n checks that a trail holds
abbrev pub witness : ℕ → Trail → Cycle
witness n t = record { n = n; checks = t.checks; bits = t.bits }

abbrev pub unless_found : ℕ → Option Way → Option Cycle → Option Cycle
unless_found n None rest = rest
unless_found n (Some w) rest = Some (witness n (trail w))

-- a cycle of the fewest checks, among k numbers of checks from n on; the plan passes where there is none
unfoldable pub shortest : Blocks → ℕ → ℕ → Option Cycle
shortest B zero n = None
shortest B (suc k) n = let rest = shortest B k (suc n) in unless_found n (short_cycle B n) rest

-- the whole test
unfoldable pub model : List ℤ → ℕ → ℕ → ℕ → ℕ → Result (Option Cycle) Refusal
model plan rows cols lift target =
    outcome (lowest (test_rules plan rows cols lift target))
    (shortest (blocks_of plan (record { rows = rows; cols = cols; lift = lift })) (target / 2 - 2) 2)
