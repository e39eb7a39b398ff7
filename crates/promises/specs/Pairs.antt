-- Document 02, slip 8: the verdict by sorted pairs agrees with the girth test, for every plan and target, wherever 26 is not due; and when 26 is.
use Rattle.std.specs.Prelude.{Result, Ok, Err, true, false}
use Rattle.refusal.specs.declared.Refusal.{Refusal}
use Rattle.std.specs.Prelude.{ℕ, ◌≡◌, ◌↔◌, ◌≢◌, List, [], ℤ}
use Rattle.std.specs.Prelude.{Bool, Option, None, Some}
use Rattle.std.specs.Result.{result_err}
use Rattle.refusal.specs.declared.Refusal.TheVariants.{WorkPlace}
use Rattle.exponent.specs.Tanner.{tanner}
use Rattle.girth.specs.declared.Cycle.{Cycle}
use Rattle.girth.specs.Test as girth
use Rattle.treetest.specs.Answer as pairs
use Rattle.promises.specs.TurnedAway.{WorkRow}

-- what the girth test says, without the cycle that it shows
abbrev pub verdict_of : Result (Option Cycle) Refusal → Result Bool Refusal
verdict_of (Ok None) = Ok true
verdict_of (Ok (Some c)) = Ok false
verdict_of (Err x) = Err x

-- of any two answers that the contracts allow, over a work list of some places
pub record SortedPairs : Type 0 where
  pub agrees : (plan : List ℤ) (rows cols lift target places : ℕ) (g : Result (Option Cycle) Refusal) (v : Result Bool Refusal)
      → girth.Answer plan rows cols lift target g → pairs.Answer plan rows cols lift target places v → v ≢ Err WorkPlace → v ≡ verdict_of g
  -- exactly where the girth test gives a verdict, whatever it is, and some column's tree has more nodes than the list has places
  pub work_place : (plan : List ℤ) (rows cols lift target places : ℕ) (g : Result (Option Cycle) Refusal) (v : Result Bool Refusal)
      → girth.Answer plan rows cols lift target g → pairs.Answer plan rows cols lift target places v
      → (v ≡ Err WorkPlace) ↔ ((result_err g ≡ None) × WorkRow (tanner plan rows cols lift) cols lift target places 26 [])
