-- What the functions of a join know and find.
use Rattle.std.specs.Prelude.{Result, Ok, Err}
use Rattle.std.specs.Prelude.{ℕ, ◌*◌, ◌%◌, ◌≤◌, ◌<◌, ◌≡◌, true, List, ℤ, pos, length, get_or}
use Rattle.std.specs.Prelude.{Option, None, Some}
use Rattle.refusal.specs.declared.Refusal.{Refusal}
use Rattle.refusal.specs.Lowest.{lowest}
use Rattle.exponent.specs.declared.Shape.{Shape}
use Rattle.exponent.specs.Limits.{WellFormed, plan_rules}
use Rattle.exponent.specs.Plan.{entry_at}
use Rattle.crt.specs.Remainders.{shared}
use Rattle.crt.specs.Join.{Sized, sized, at_product, joined_entry}

-- a plan with its sizes as a shape
abbrev pub shaped : List ℤ → Shape → Sized
shaped plan s = sized plan s.rows s.cols s.lift

-- a multiple of P that leaves 1 by Q
pub record UnitOf (P Q u : ℕ) : Type 0 where
  pub multiple : u % P ≡ 0
  pub leaves_one : u % Q ≡ 1 % Q
  pub low : u < P * Q

-- there is one, or the sizes share a divisor
pub data Finds (P Q : ℕ) : Option ℕ → Type 0 where
  nothing : shared P Q ≡ true → Finds P Q None
  at : (u : ℕ) → UnitOf P Q u → Finds P Q (Some u)

-- two sizes within the limits, with their unit
pub record Lifts (P Q u : ℕ) : Type 0 where
  pub some_p : 1 ≤ P
  pub some_q : 1 ≤ Q
  pub small_product : P * Q ≤ 4096
  pub unit : UnitOf P Q u

-- n is refused as P × Q is, whatever the plan
abbrev pub AsProduct : ℕ → ℕ → ℕ → Type 0
AsProduct P Q n = (plan : List ℤ) (rows cols : ℕ) → lowest (plan_rules plan rows cols n) ≡ lowest (plan_rules plan rows cols (P * Q))

abbrev pub Formed : Sized → Type 0
Formed a = WellFormed a.plan a.rows a.cols a.lift

-- two plans that none of 1 to 6 falls on
pub record Both (a b : Sized) : Type 0 where
  pub one : Formed a
  pub two : Formed b
  pub product : Formed (at_product a b)

-- a verdict: the refusal, or, where there is none, the unit
pub data Judges (refusal : Option Refusal) (P Q : ℕ) : Result ℕ Refusal → Type 0 where
  refused : (r : Refusal) → refusal ≡ Some r → Judges refusal P Q (Err r)
  accepted : (u : ℕ) → refusal ≡ None → UnitOf P Q u → Judges refusal P Q (Ok u)

-- the entries before k are joined
pub record JoinedTo (first : List ℤ) (P : ℕ) (second : List ℤ) (Q : ℕ) (list : List ℤ) (k : ℕ) : Type 0 where
  pub long : length list ≡ length first
  pub done : (place : ℕ) → place < k → get_or list place (pos 0) ≡ joined_entry P Q (entry_at first P place) (entry_at second Q place)
