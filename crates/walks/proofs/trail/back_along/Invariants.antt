-- `walks::trail::back_along` meets its contract: the loop keeps what is left to go back. Assumes nothing.
use Rattle.std.proofs.Common.{◌≡◌, ◌-◌}
use Rattle.walks.specs.Trail.{back_trail}
use Rattle.walks.proofs.trail.back_along.Given as goal

abbrev pub invariant-loop : goal.invariant-loop
invariant-loop l = back_trail l.d l.z l.initial.rest l.initial.trail ≡ back_trail (l.d - l.counter) l.bit l.rest l.trail
