-- `worklist::pass` meets its contract. The loop's invariant: the checks below c were looked at. Assumes nothing.
use Rattle.exponent.specs.Graphs.{graph}
use Rattle.worklist.specs.Work.{Passed}
use Rattle.worklist.proofs.pass.Given as goal

abbrev pub invariant-loop-c : goal.invariant-loop-c
invariant-loop-c l = Passed (graph l.g.rows.plan) 0 l.c l.initial.word l.word l.filled
