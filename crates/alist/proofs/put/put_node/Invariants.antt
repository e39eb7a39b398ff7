-- `alist::put::put_node` meets its contract. The loop's invariant: what is left of the line is its numbers from the k-th on.
-- The measure is how many are left. Assumes nothing.
use mathlib.Core.Path.{◌≡◌}
use lib.ListN.{length}
use Rattle.writing.proofs.Wrote.{Going}
use Rattle.exponent.specs.Tanner.{graph_of}
use Rattle.lines.specs.declared.Line.TheVariants.{Node}
use Rattle.lines.specs.Lines.{line_of, most_of, line_rest}
use Rattle.lines.specs.Text.{line_from}
use Rattle.alist.proofs.put.put_node.Given as goal

abbrev pub invariant-loop-k : goal.invariant-loop-k
invariant-loop-k l = (length l.text ≡ length l.initial.text) × Going l.initial.text l.at (line_from 0 (line_of (graph_of l.plan l.l.shape) (Node l.side l.x))) (line_from l.k (line_rest l.plan l.l (Node l.side l.x) (most_of l.l l.side) l.k l.from)) l.o l.text
