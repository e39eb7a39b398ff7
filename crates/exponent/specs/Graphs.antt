-- The graph of a plan as one value.
use Rattle.std.specs.Prelude.{ℕ, ◌*◌}
use Rattle.graph.specs.Graph.{Bipartite}
use Rattle.exponent.specs.declared.plan.Plan.{Plan}
use Rattle.exponent.specs.Tanner.{graph_of}

abbrev pub graph : Plan → Bipartite
graph p = graph_of p.entries.now p.shape

abbrev pub checks_of : Plan → ℕ
checks_of p = p.shape.rows * p.shape.lift

abbrev pub bits_in : Plan → ℕ
bits_in p = p.shape.cols * p.shape.lift
