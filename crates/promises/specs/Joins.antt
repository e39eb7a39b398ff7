-- Document 02, slip 9: two plans made one, over the definitions that the call answers by.
use Rattle.std.specs.Prelude.{Result, None, Option}
use Rattle.refusal.specs.declared.Refusal.{Refusal}
use Rattle.std.specs.Prelude.{Ok}
use Rattle.refusal.specs.Answer.{outcome}
use Rattle.std.specs.Prelude.{ℕ, ◌*◌, ◌%◌, ◌<◌, ◌≡◌, ◌⊎◌, List, ℤ, pos, negsuc, length, get_or}
use Rattle.graph.specs.Girth.{Passes}
use Rattle.exponent.specs.Limits.{WellFormed}
use Rattle.exponent.specs.Tanner.{tanner}
use Rattle.weights.specs.declared.Side.{Side}
use Rattle.weights.specs.Weights.{shape_of, weights_of}
use Rattle.girth.specs.declared.Cycle.{Cycle}
use Rattle.girth.specs.Test.{Answer}
use Rattle.crt.specs.Join.{Sized, join_refusal, after_join}
use Rattle.promises.specs.Two.{Passing}

-- What stands at a place of the first plan, of the second and of the joined one: −1 in all three; or voltages e and f, and the only number
-- from 0 to P × Q − 1 that leaves the remainder of e by P and that of f by Q.
pub data JoinedAt (P Q : ℕ) : ℤ → ℤ → ℤ → Type 0 where
  empty : JoinedAt P Q (negsuc 0) (negsuc 0) (negsuc 0)
  filled : (e f x : ℕ) → x < P * Q → x % P ≡ e % P → x % Q ≡ f % Q → ((y : ℕ) → y < P * Q → y % P ≡ e % P → y % Q ≡ f % Q → y ≡ x)
      → JoinedAt P Q (pos e) (pos f) (pos x)

-- the girth test answers that the plan passes
pub record TestPassed (a : Sized) (target : ℕ) : Type 0 where
  pub test : Result (Option Cycle) Refusal
  pub answer : Answer a.plan a.rows a.cols a.lift target test
  pub passed : test ≡ Ok None

pub record Joins (a b : Sized) (plan : List ℤ) : Type 0 where
  -- place by place; and the plan may be used, with the first plan's rows and columns
  pub entries : (p : ℕ) → p < length a.plan → JoinedAt a.lift b.lift (get_or a.plan p (pos 0)) (get_or b.plan p (pos 0)) (get_or plan p (pos 0))
  pub well_formed : WellFormed plan a.rows a.cols (a.lift * b.lift)
  -- the lists of weights of the first plan are those of the joined one
  pub weights : (side : Side) → weights_of plan (shape_of a.rows a.cols (a.lift * b.lift)) side ≡ weights_of a.plan (shape_of a.rows a.cols a.lift) side
  -- where either plan passes at a target, this one does: of the graphs, and by the answers of the girth test
  pub graph_passes : (t : ℕ) → Passes (tanner a.plan a.rows a.cols a.lift) t ⊎ Passes (tanner b.plan b.rows b.cols b.lift) t
      → Passes (tanner plan a.rows a.cols (a.lift * b.lift)) t
  pub test_passes : (target : ℕ) → TestPassed a target ⊎ TestPassed b target → Passing plan a.rows a.cols (a.lift * b.lift) target

-- wherever the call answers that it joined, of what its lent place then holds: the lift is P × Q
abbrev pub JoinedPlans : Type 0
JoinedPlans =
    (a b : Sized) (place : List ℤ) (lift : ℕ) → outcome (join_refusal a b (length place)) (a.lift * b.lift) ≡ Ok lift
    → (lift ≡ a.lift * b.lift) × Joins a b (after_join a b place)
