-- `flipping::marks::mark_odd` meets its contract: a byte has room for the marks that come. Assumes nothing.
use Rattle.std.proofs.Common.{◌∙◌}
use Rattle.exponent.specs.Tanner.{tanner}
use Rattle.flipping.proofs.Odd.{marks_none, three_marks}
use Rattle.flipping.proofs.marks.mark_odd.Goals as goal

pub loop-c-init : goal.loop-c-init
unfolding tanner
loop-c-init c = marks_none _ _

pub mark_if_odd-requires : goal.mark_if_odd-requires
mark_if_odd-requires c = let a = c.args in
    let marks = c.loop-c.invariant in
    (marks.same_length ∙ c.requires.whole, c.loop-c-test.true, three_marks a.rows.now.plan.entries.now a.rows.now.plan.shape a.word.now c.requires c.loop-c.word c.loop-c.c c.loop-c.auto.c-end marks)
