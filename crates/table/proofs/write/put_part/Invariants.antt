-- The entries of the first n rows are written.
use Rattle.writing.specs.Wrote.{Wrote}
use Rattle.square.specs.Each.{each}
use Rattle.table.specs.Write.{line}
use Rattle.table.proofs.write.put_part.Given as goal

abbrev pub invariant-loop-n : goal.invariant-loop-n
invariant-loop-n l = Wrote l.initial.plan l.at (each l.n (line l.size l.table l.mask l.part)) l.to l.plan
