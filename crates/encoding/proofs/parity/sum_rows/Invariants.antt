-- `encoding::parity::sum_rows` meets its contract: the rows before i are summed, and then the last one. Assumes nothing.
use Rattle.encoding.specs.Work.{column, Summed}
use Rattle.encoding.proofs.parity.sum_rows.Given as goal

abbrev pub invariant-loop-i : goal.invariant-loop-i
invariant-loop-i l = Summed l.plan.entries.now l.plan.shape l.turn (column l.plan.shape.lift l.initial.word) l.i l.word
