-- `comparer::expect_numbers` meets its contract. The loop's invariant: the line reads as what is left of it, from the place that reading has come to.
-- Assumes nothing.
use Prim.Native.Nat.{◌≤◌}
use mathlib.Core.Path.{◌≡◌}
use mathlib.Core.List.{map}
use lib.ListN.{length}
use Rattle.exponent.specs.Tanner.{graph_of}
use Rattle.tokens.specs.Tokens.{numeral}
use Rattle.tokens.specs.Steps.{read_line}
use Rattle.lines.specs.Lines.{line_in, width_of, line_rest}
use Rattle.comparer.proofs.expect_numbers.Given as goal

abbrev pub invariant-loop-k : goal.invariant-loop-k
invariant-loop-k l = (l.c.at ≤ length l.text) × (read_line l.form l.text l.initial.c.at (map numeral (line_in l.form (graph_of l.plan l.l.shape) l.line)) ≡ read_line l.form l.text l.c.at (map numeral (line_rest l.plan l.l l.line (width_of l.form l.l l.byrow l.bycol l.line) l.k l.from)))
