-- The filled blocks among the first k are counted.
use Rattle.std.proofs.Common.{◌≡◌}
use Rattle.graph.specs.Count.{below, count}
use Rattle.weights.specs.Weights.{filled_on}
use Rattle.weights.proofs.weight.Given as goal

abbrev pub invariant-loop-k : goal.invariant-loop-k
invariant-loop-k l = l.n ≡ count (filled_on l.plan l.s l.side l.lane) (below l.k)
