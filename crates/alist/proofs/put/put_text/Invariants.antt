-- `alist::put::put_text` meets its contract. The loop's invariant: what is left of the text is that of the lines from line i on.
-- Assumes nothing.
use mathlib.Core.Path.{◌≡◌}
use lib.ListN.{length}
use Rattle.writing.proofs.Wrote.{Going}
use Rattle.exponent.specs.Tanner.{graph_of}
use Rattle.tokens.specs.declared.Form.TheVariants.{Padded}
use Rattle.lines.specs.Alist.{lines_of}
use Rattle.lines.specs.Text.{text_of}
use Rattle.lines.proofs.Rest.{lines_from}
use Rattle.alist.proofs.put.put_text.Given as goal

abbrev pub invariant-loop-i : goal.invariant-loop-i
invariant-loop-i l = (length l.text ≡ length l.initial.text) × Going l.initial.text 0 (text_of (lines_of (graph_of l.plan l.l.shape))) (text_of (lines_from Padded l.plan l.l.shape l.i)) l.o l.text
