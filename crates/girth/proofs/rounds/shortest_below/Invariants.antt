-- `girth::rounds::shortest_below` meets its contract: it looks for a cycle of 2, 3, … checks. The loop keeps what is left of that.
-- Assumes nothing.
use Rattle.std.proofs.Common.{◌*◌}
use Rattle.walks.specs.Steps.{blocks}
use Rattle.walks.specs.Stamps.{Below}
use Rattle.girth.proofs.Fewest.{Fewest}
use Rattle.girth.proofs.rounds.shortest_below.Given as goal

abbrev pub invariant-loop-n : goal.invariant-loop-n
invariant-loop-n l = record { left : Fewest (blocks l.graph.rows.plan) l.half l.n; fresh : Below l.seen (1024 * l.n) }
