-- Before k no multiple leaves 1.
use Rattle.std.proofs.Common.{ℕ, ◌*◌, ◌%◌, ◌<◌, ◌≢◌}
use Rattle.crt.proofs.unit.find.Given as goal

abbrev pub invariant-loop-k : goal.invariant-loop-k
invariant-loop-k l = (i : ℕ) → i < l.k → (l.p * i) % l.q ≢ 1 % l.q
