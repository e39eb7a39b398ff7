-- `bidiagonal::last::shifts` meets its contract: a row more has at most one shift more. Assumes nothing.
use Rattle.std.proofs.Common.{ℕ, ◌-◌, ◌∷◌, [], ◌++◌, List, refl, sym, ap, ◌∙◌, arith, length-set}
use Rattle.std.proofs.lemmas.List.{take_more_set}
use Rattle.graph.specs.Count.{range}
use Rattle.exponent.specs.Plan.{block_at}
use Rattle.bidiagonal.specs.Shape.{shifts_of}
use Rattle.bidiagonal.proofs.Columns.{shift_more, shift_none}
use Rattle.bidiagonal.proofs.last.shifts.Goals as goal
use Rattle.bidiagonal.proofs.last.shifts.Goals.{in-Shift+else-n-eq3, in_default}

pub loop-i-init : goal.loop-i-init
unfolding shifts_of range
loop-i-init c = (omega arith, refl, refl)

pub loop-i-preserved : goal.loop-i-preserved
loop-i-preserved c =
    let s = c.args.plan.now.shape in
    let column = λ (k : ℕ). block_at c.args.plan.now.entries.now s.cols s.lift k (s.rows - 1) in
    let l = c.loop-i in
    let (few, three, held) = l.invariant in
    elim c.match-block_at.branch [
      | in-Shift+else-n-eq3 w ↦
          let e = w.in-Shift.e in (
            omega (arith, w.n-is, w.if-n-eq3.false),
            rw w.three-is (length-set l.three l.n e ∙ three),
            rw (w.n-is, w.three-is)
                (take_more_set l.three l.n e (omega (arith, w.if-n-eq3.false))
                ∙ ap (λ (p : List ℕ). p ++ e ∷ []) held
                ∙ sym (shift_more column l.i e (sym c.block_at.ensures ∙ w.in-Shift.is))),
          )
      | in_default w ↦
          rw (w.n-is, w.three-is) (few, three, held ∙ sym (shift_none column l.i (λ e q. w.in_default.not-Shift e (c.block_at.ensures ∙ q))))
    ]
