-- The girth test (document 01, "Girth verdict"): what its answer says of a plan.
use Rattle.std.specs.Prelude.{ℕ, ◌*◌, ◌≤◌, ◌<◌, ◌≡◌, Bool, not, List, [], ◌∷◌, ◌++◌, ℤ, take, get_or}
use Rattle.std.specs.Prelude.{Option, None, Some, Result, Ok, Err}
use Rattle.refusal.specs.declared.Refusal.{Refusal}
use Rattle.refusal.specs.declared.Refusal.TheVariants.{Target}
use Rattle.refusal.specs.Lowest.{Rule, refuse, lowest}
use Rattle.graph.specs.Count.{member}
use Rattle.graph.specs.Graph.{Bipartite}
use Rattle.graph.specs.Girth.{SimpleCycle, Passes}
use Rattle.exponent.specs.Limits.{plan_rules}
use Rattle.exponent.specs.Tanner.{tanner}
use Rattle.girth.specs.declared.Cycle.{Cycle}

-- the targets that are allowed; from 14 on: document 02, slip 6
abbrev pub targets : List ℕ
targets = 6 ∷ 8 ∷ 10 ∷ 12 ∷ 14 ∷ 16 ∷ 18 ∷ []

unfoldable pub allowed : ℕ → Bool
unfolding member
allowed target = member target targets

-- refusals 1 to 6 of the plan, and 14
unfoldable pub test_rules : List ℤ → ℕ → ℕ → ℕ → ℕ → List Rule
test_rules plan rows cols lift target = plan_rules plan rows cols lift ++ refuse Target (not (allowed target)) ∷ []

-- A witness (shown cycle): n checks and n bits that form a simple cycle of fewer edges than the target, and no simple cycle has
-- fewer edges than it (document 02, slip 2); unused places are 0. Which of the shortest it is, is free.
pub record Witness (G : Bipartite) (target : ℕ) (c : Cycle) : Type 0 where
  pub short : 2 * c.n < target
  pub cycle : SimpleCycle G c.n (take c.n c.checks) (take c.n c.bits)
  pub none_shorter : Passes G (2 * c.n)
  pub unused : (k : ℕ) → c.n ≤ k → (get_or c.checks k 0 ≡ 0) × (get_or c.bits k 0 ≡ 0)

-- The answer is the lowest refusal that applies; else nothing, where the plan passes; else a witness that it does not.
pub data Answer (plan : List ℤ) (rows cols lift target : ℕ) : Result (Option Cycle) Refusal → Type 0 where
  refused : (x : Refusal) → lowest (test_rules plan rows cols lift target) ≡ Some x → Answer plan rows cols lift target (Err x)
  passed : lowest (test_rules plan rows cols lift target) ≡ None → Passes (tanner plan rows cols lift) target → Answer plan rows cols lift target (Ok None)
  failed : (c : Cycle) → lowest (test_rules plan rows cols lift target) ≡ None → Witness (tanner plan rows cols lift) target c → Answer plan rows cols lift target (Ok (Some c))
