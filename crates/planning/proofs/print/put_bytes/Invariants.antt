-- `planning::print::put_bytes` meets its contract. The loop's invariant: what is left to write is the bytes from the k-th on.
-- The measure is how many are left. Assumes nothing.
use mathlib.Core.Path.{◌≡◌}
use lib.ListN.{length, drop}
use Rattle.writing.proofs.Wrote.{Going}
use Rattle.planning.proofs.print.put_bytes.Given as goal

abbrev pub invariant-loop-b : goal.invariant-loop-b
invariant-loop-b l = (length l.text ≡ length l.initial.text) × Going l.initial.text l.at l.bytes (drop l.b-index l.bytes) l.o l.text
