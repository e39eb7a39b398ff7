-- Promise 3 (demand 3 of the requirement): where the girth test passes and every column has three filled blocks, a few lost bits always come back.
use Rattle.std.specs.Prelude.{Result, Option}
use Rattle.refusal.specs.declared.Refusal.{Refusal}
use Rattle.std.specs.Prelude.{None, Ok}
use Rattle.refusal.specs.Answer.{ok_unless}
use Rattle.std.specs.Prelude.{ℕ, suc, ◌≤◌, ◌≡◌, ◌↔◌, false, List, ℤ, length, get_or}
use Rattle.refusal.specs.Lowest.{lowest}
use Rattle.graph.specs.Erasure.{erased, Codeword}
use Rattle.graph.specs.Filling.{erasures}
use Rattle.exponent.specs.Limits.{plan_rules}
use Rattle.exponent.specs.Tanner.{tanner, ThreeBlocks}
use Rattle.girth.specs.declared.Cycle.{Cycle}
use Rattle.girth.specs.Test.{Answer}
use Rattle.syndrome.specs.Check.{syndrome_of}
use Rattle.peeling.specs.Fill.{fill_answer, fill_word}

-- how many lost bits always come back at a target; from 14 on: document 02, slip 6
pub data Bound : ℕ → ℕ → Type 0 where
  at_6 : Bound 6 3
  at_8 : Bound 8 5
  at_10 : Bound 10 9
  at_12 : Bound 12 13
  at_14 : Bound 14 21
  at_16 : Bound 16 29
  at_18 : Bound 18 45

-- T of document 02, slip 11: one more than the lost bits allowed
abbrev pub T : ℕ → ℕ
T bound = suc bound

-- f' is f with at most n of its bytes replaced by 2
pub record Loses (f f' : List ℕ) (n : ℕ) : Type 0 where
  pub same_length : length f' ≡ length f
  pub kept : (b : ℕ) → erased f' b ≡ false → get_or f b 0 ≡ get_or f' b 0
  pub few : erasures f' ≤ n

-- filling f' is not refused, fills all its erasures, leaves none, and gives f back byte for byte
pub record Recovered (plan : List ℤ) (rows cols lift : ℕ) (f f' : List ℕ) : Type 0 where
  pub answer : fill_answer plan rows cols lift f' ≡ Ok (record { filled = erasures f'; left = 0 })
  pub word : fill_word plan rows cols lift f' ≡ f

-- For every plan that the girth test passes at the target and that has three filled blocks in each column, and all code frames f and g,
-- of which f' and g' are what is left after up to the bound many losses: both come back, and the results are equal exactly where f and g are.
-- A code frame is the document's own (`Codeword`), whatever the frame check says of it;
abbrev pub Promise3 : Type 0
Promise3 =
    (plan : List ℤ) (rows cols lift target bound : ℕ) → Bound target bound
    → (r : Result (Option Cycle) Refusal) → Answer plan rows cols lift target r → r ≡ Ok None
    → ThreeBlocks plan rows cols lift
    → (f g f' g' : List ℕ)
    → Codeword (tanner plan rows cols lift) f → Codeword (tanner plan rows cols lift) g
    → Loses f f' bound → Loses g g' bound
    → Recovered plan rows cols lift f f' × Recovered plan rows cols lift g g'
    × ((fill_word plan rows cols lift f' ≡ fill_word plan rows cols lift g') ↔ (f ≡ g))

-- and the frame check calls even exactly the code frames of valid plans.
abbrev pub CodeFrames : Type 0
CodeFrames =
    (plan : List ℤ) (rows cols lift : ℕ) (f : List ℕ)
    → (syndrome_of plan rows cols lift f ≡ Ok None) ↔ ((ok_unless (lowest (plan_rules plan rows cols lift)) ≡ Ok tt) × Codeword (tanner plan rows cols lift) f)
