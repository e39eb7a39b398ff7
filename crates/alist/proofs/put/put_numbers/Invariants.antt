-- `alist::put::put_numbers` meets its contract. The loop's invariant: what is left of the line is its numbers from the k-th on.
-- The measure is how many are left. Assumes nothing.
use mathlib.Core.Path.{◌≡◌}
use lib.ListN.{length}
use Rattle.writing.proofs.Wrote.{Going}
use Rattle.exponent.specs.Tanner.{graph_of}
use Rattle.tokens.specs.declared.Form.TheVariants.{Padded}
use Rattle.lines.specs.Lines.{line_of, width_of, line_rest}
use Rattle.lines.specs.Text.{line_from}
use Rattle.alist.proofs.put.put_numbers.Given as goal

abbrev pub invariant-loop-k : goal.invariant-loop-k
invariant-loop-k l = (length l.text ≡ length l.initial.text) × Going l.initial.text l.at (line_from 0 (line_of (graph_of l.plan l.l.shape) l.line)) (line_from l.k (line_rest l.plan l.l l.line (width_of Padded l.l l.byrow l.bycol l.line) l.k l.from)) l.o l.text
