-- `walks::meet::short_cycle` meets its contract: root after root. The loop keeps what is left of them, and that the stamps are below
-- the next one. Assumes nothing.
use Rattle.std.proofs.Common.{◌+◌, ◌*◌}
use Rattle.walks.specs.Steps.{blocks}
use Rattle.walks.specs.Ways.{roots}
use Rattle.walks.specs.Meeting.{meeting}
use Rattle.walks.specs.Stamps.{Below}
use Rattle.walks.proofs.Runs.{RootsLeft}
use Rattle.walks.proofs.meet.short_cycle.Given as goal

abbrev pub invariant-loop-k : goal.invariant-loop-k
invariant-loop-k l = record {
  left : RootsLeft (meeting (blocks l.graph.rows.plan) l.n) (roots (blocks l.graph.rows.plan) l.n) l.k;
  fresh : Below l.seen (1024 * l.n + 2 * l.k);
}
