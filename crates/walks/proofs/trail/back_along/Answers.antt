-- `walks::trail::back_along` meets its contract: the loop keeps what is left to go back. Assumes nothing.
use Rattle.std.proofs.Common.{◌≡◌, ◌-◌, ◌+◌, sym, ap, ap₂, ◌∙◌, arith, get_or, ℕ}
use Rattle.walks.specs.Trail.{back_trail, push, pop}
use Rattle.walks.proofs.Stamps.{back_step, back_end}
use Rattle.walks.proofs.trail.back_along.Goals as goal

pub loop-preserved : goal.loop-preserved
loop-preserved c =
    let v = c.loop in
    let left : c.args.d - v.counter - 1 ≡ c.args.d - (v.counter + 1) = omega arith in
    v.invariant ∙ back_step (c.args.d - v.counter) v.bit v.rest v.trail (omega (arith, c.loop-test.true)) ∙ ap (λ (k : ℕ). back_trail k (get_or v.rest.bits 0 0) (pop v.rest) (push (get_or v.rest.checks 0 0) v.bit v.trail)) left
    ∙ ap₂ (back_trail _ _) (sym c.pop-rest.ensures) (sym c.push-trail.ensures)

pub returns : goal.returns
returns c = let v = c.loop in back_end _ v.bit v.rest v.trail (omega (arith, c.loop-test.false)) ∙ sym v.invariant
