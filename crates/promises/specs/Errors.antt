-- Document 02, slip 11: lost and wrong bits together, over the definitions that the calls answer by.
use Rattle.std.specs.Prelude.{Result, Some, Option}
use Rattle.refusal.specs.declared.Refusal.{Refusal}
use Rattle.std.specs.Prelude.{None, Ok, Err}
use Rattle.std.specs.Prelude.{ℕ, ◌+◌, ◌-◌, ◌*◌, ◌≤◌, ◌<◌, ◌≡◌, List, [], ℤ, pos, length, get_or, replicate}
use Rattle.graph.specs.Erasure.{Codeword}
use Rattle.graph.specs.Filling.{erasures}
use Rattle.graph.specs.Errors.{errors}
use Rattle.exponent.specs.Tanner.{tanner, ThreeBlocks}
use Rattle.girth.specs.declared.Cycle.{Cycle}
use Rattle.girth.specs.Test.{Answer}
use Rattle.syndrome.specs.Check.{syndrome_of}
use Rattle.peeling.specs.Fill.{fill_answer}
use Rattle.steiner.specs.Build.{steiner_plan}
use Rattle.promises.specs.TurnedAway.{RefusedWith}
use Rattle.promises.specs.Two.{Passing}
use Rattle.promises.specs.Three.{Bound, T, Recovered}

-- r is what was read of the frame v: of its length, each byte 0, 1 or 2, e bits are lost, and at most f of the others are wrong
pub record Read (v r : List ℕ) (e f : ℕ) : Type 0 where
  pub same_length : length r ≡ length v
  pub bytes : (b : ℕ) → get_or r b 0 ≤ 2
  pub lost : erasures r ≡ e
  pub few_wrong : errors v r ≤ f

-- what is told of a frame that was read, by a number t
pub record Told (plan : List ℤ) (rows cols lift t : ℕ) : Type 0 where
  -- with e lost and at most f wrong bits, e + 2f below t, at most one code frame fits what was read
  pub at_most_one : (u v r : List ℕ) (e f : ℕ) → e + 2 * f < t
      → Codeword (tanner plan rows cols lift) u → Codeword (tanner plan rows cols lift) v → Read u r e f → Read v r e f → u ≡ v
  -- a frame with no lost bits and between 1 and t − 1 wrong ones is never even: the frame check answers with an odd check
  pub never_even : (v r : List ℕ) → Codeword (tanner plan rows cols lift) v → Read v r 0 (t - 1) → 1 ≤ errors v r
      → (c : ℕ) × (syndrome_of plan rows cols lift r ≡ Ok (Some c))
  -- nor is one with lost bits ever filled, where lost and wrong bits together are below t and some are wrong: the filler answers 20
  pub never_filled : (v r : List ℕ) (e f : ℕ) → e + f < t → Codeword (tanner plan rows cols lift) v → Read v r e f → 1 ≤ errors v r
      → RefusedWith 20 [] Err (fill_answer plan rows cols lift r)

-- THE THEOREM: for every plan that the girth test passes at the target and that has three filled blocks in each column, all this by T
abbrev pub WrongBits : Type 0
WrongBits =
    (plan : List ℤ) (rows cols lift target bound : ℕ) → Bound target bound
    → (r : Result (Option Cycle) Refusal) → Answer plan rows cols lift target r → r ≡ Ok None
    → ThreeBlocks plan rows cols lift
    → Told plan rows cols lift (T bound)

-- That it says something: of a plan with all this, two code frames that differ in t bits. So t wrong bits are not seen; for all e and f with
-- e + 2f = t a frame can be read that both fit; and with t − 1 lost bits and a wrong one the filler gives the other code frame.
pub record Reached (plan : List ℤ) (rows cols lift target t : ℕ) : Type 0 where
  pub passing : Passing plan rows cols lift target
  pub three : ThreeBlocks plan rows cols lift
  pub u : List ℕ
  pub v : List ℕ
  pub even_u : syndrome_of plan rows cols lift u ≡ Ok None
  pub even_v : syndrome_of plan rows cols lift v ≡ Ok None
  pub apart : errors u v ≡ t
  pub two_fit : (e f : ℕ) → e + 2 * f ≡ t → (r : List ℕ) × Read u r e f × Read v r e f
  pub other_given : (r : List ℕ) × Read u r (t - 1) 1 × Recovered plan rows cols lift v r

-- the Fano plane: the triples of order 7 (slip 6) at P = 1. At 6 it reaches T
abbrev pub fano : List ℤ
fano = steiner_plan 7 1 (replicate 21 (pos 0))

abbrev pub FanoReaches : Type 0
FanoReaches = (bound : ℕ) → Bound 6 bound → Reached fano 7 7 1 6 (T bound)
