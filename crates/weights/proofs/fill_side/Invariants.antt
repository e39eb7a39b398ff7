-- The weights of the lanes passed stand in the list.
use Rattle.std.proofs.Common.{ℕ, ◌≡◌, ◌<◌, length, get_or}
use Rattle.weights.specs.Weights.{lanes, weight_of}
use Rattle.weights.proofs.fill_side.Given as goal

abbrev pub invariant-loop-lane : goal.invariant-loop-lane
invariant-loop-lane l = (length l.list ≡ lanes l.s l.side) × ((i : ℕ) → i < l.lane → get_or l.list i 0 ≡ weight_of l.plan l.s l.side i)
