-- `planning::number::read` meets its contract. The loop's invariant: the digits read and the bytes left give the token's number.
-- Assumes nothing.
use Prim.Native.Nat.{◌≤◌}
use mathlib.Core.Path.{◌≡◌}
use lib.ListN.{drop}
use Rattle.planning.specs.Request.{number_of}
use Rattle.planning.proofs.Tokens.{number_from}
use Rattle.planning.proofs.number.read.Given as goal

abbrev pub invariant-loop-b : goal.invariant-loop-b
invariant-loop-b l = (l.n ≤ 65536) × (number_from l.n (drop l.b-index l.token) ≡ number_of l.token)
