-- `encoding::columns::add_data` meets its contract: what the data columns before j have is added. Assumes nothing.
use Prim.Native.Nat.{◌-◌}
use Rattle.graph.specs.Count.{range, sum}
use Rattle.encoding.specs.Work.{Added}
use Rattle.encoding.proofs.Adding.{bits_of}
use Rattle.encoding.proofs.columns.add_data.Given as goal

abbrev pub invariant-loop-j : goal.invariant-loop-j
invariant-loop-j l = Added l.plan.shape.lift l.i (λ z. sum (λ k. bits_of l.plan.entries.now l.plan.shape.cols l.plan.shape.lift l.i l.turn l.initial.word k z) (range l.plan.shape.rows (l.j - l.plan.shape.rows))) l.initial.word l.word
