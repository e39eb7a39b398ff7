-- The entries of the first n columns are written.
use Rattle.writing.specs.Wrote.{Wrote}
use Rattle.square.specs.Each.{each}
use Rattle.grid.specs.Inner.{column}
use Rattle.table.specs.Write.{cell}
use Rattle.table.proofs.write.put_row.Given as goal

abbrev pub invariant-loop-n : goal.invariant-loop-n
invariant-loop-n l = Wrote l.initial.plan l.at (each l.n (λ n. cell l.size l.table l.mask l.w (column l.size.order n))) l.to l.plan
