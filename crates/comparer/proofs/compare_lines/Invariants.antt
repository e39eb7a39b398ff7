-- `comparer::compare_lines` meets its contract. The loop's invariant: the text differs from the lines behind the first where it differs from the lines from line i on.
-- Assumes nothing.
use Prim.Native.Nat.{◌≤◌}
use mathlib.Core.Path.{◌≡◌}
use lib.ListN.{length}
use Rattle.exponent.specs.Tanner.{graph_of}
use Rattle.tokens.specs.Tokens.{mismatch}
use Rattle.lines.specs.Text.{items_of}
use Rattle.lines.proofs.Rest.{lines_from}
use Rattle.comparer.specs.Later.{later_lines}
use Rattle.comparer.proofs.compare_lines.Given as goal

abbrev pub invariant-loop-i : goal.invariant-loop-i
invariant-loop-i l = (l.c.at ≤ length l.text) × (mismatch l.form l.text l.initial.c.at (items_of l.form (later_lines l.form (graph_of l.plan l.l.shape))) ≡ mismatch l.form l.text l.c.at (items_of l.form (lines_from l.form l.plan l.l.shape l.i)))
