-- Document 02, slip 12: a round of turning bits, over the definitions that the call answers by.
use Rattle.std.specs.Prelude.{Result, None, Option}
use Rattle.refusal.specs.declared.Refusal.{Refusal}
use Rattle.std.specs.Prelude.{Ok}
use Rattle.refusal.specs.Answer.{ok_unless}
use Rattle.std.specs.Prelude.{ℕ, ◌<◌, ◌≡◌, List, ℤ}
use Rattle.refusal.specs.Lowest.{lowest}
use Rattle.graph.specs.Erasure.{Codeword}
use Rattle.graph.specs.Errors.{errors}
use Rattle.graph.specs.Flipping.{Round}
use Rattle.exponent.specs.Limits.{plan_rules}
use Rattle.exponent.specs.Tanner.{tanner, column_weight}
use Rattle.girth.specs.declared.Cycle.{Cycle}
use Rattle.girth.specs.Test.{Answer}
use Rattle.flipping.specs.Flip.{flip_answer, flip_word}
use Rattle.promises.specs.Errors.{Read}

-- the call answers that n bits of w were turned, and leaves v
pub record Turns (plan : List ℤ) (rows cols lift : ℕ) (w v : List ℕ) (n : ℕ) : Type 0 where
  pub reported : flip_answer plan rows cols lift w ≡ Ok n
  pub left : flip_word plan rows cols lift w ≡ v

-- exactly three filled blocks in each column
abbrev pub ExactlyThree : List ℤ → ℕ → ℕ → ℕ → Type 0
ExactlyThree plan rows cols lift = (j : ℕ) → j < cols → column_weight plan rows cols lift j ≡ 3

-- THE THEOREM
pub record TurnedBits : Type 0 where
  -- wherever the call answers that n bits were turned, they are exactly the bits with two or more odd checks, all judged on the frame before the round
  pub two_odd : (plan : List ℤ) (rows cols lift : ℕ) (w v : List ℕ) (n : ℕ) → Turns plan rows cols lift w v n → Round (tanner plan rows cols lift) w v n
  -- a code frame stays unturned, and 0 is reported
  pub code_frame : (plan : List ℤ) (rows cols lift : ℕ) (v : List ℕ) → ok_unless (lowest (plan_rules plan rows cols lift)) ≡ Ok tt → ExactlyThree plan rows cols lift
      → Codeword (tanner plan rows cols lift) v → Turns plan rows cols lift v v 0
  -- where the plan passes at 6, one round restores a code frame with just one wrong bit, and reports 1
  pub one_wrong : (plan : List ℤ) (rows cols lift : ℕ) (v w : List ℕ) (r : Result (Option Cycle) Refusal) → Answer plan rows cols lift 6 r → r ≡ Ok None → ExactlyThree plan rows cols lift
      → Codeword (tanner plan rows cols lift) v → Read v w 0 1 → errors v w ≡ 1 → Turns plan rows cols lift w v 1
