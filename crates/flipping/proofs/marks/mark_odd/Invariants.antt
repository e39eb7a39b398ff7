-- `flipping::marks::mark_odd` meets its contract. The loop's invariant: each byte has a mark for each of its odd checks among those passed.
-- Assumes nothing.
use Rattle.exponent.specs.Graphs.{graph}
use Rattle.flipping.specs.Work.{MarkedTo}
use Rattle.flipping.proofs.marks.mark_odd.Given as goal

abbrev pub invariant-loop-c : goal.invariant-loop-c
invariant-loop-c l = MarkedTo (graph l.rows.plan) l.initial.word l.word l.c
