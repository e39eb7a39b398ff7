-- `comparer::compare_lines` meets its contract. Assumes nothing.
use mathlib.Core.Path.{sym, ap}
use Rattle.std.proofs.lemmas.Result.{err_from_is_err_and}
use Rattle.refusal.specs.Answer.{ok_unless}
use Rattle.lines.proofs.Rest.{lines_next}
use Rattle.comparer.proofs.Reading.{line_wrong}
use Rattle.comparer.proofs.compare_lines.Goals as goal

pub returns-in_err-c : goal.returns-in_err-c
returns-in_err-c c =
    let p = err_from_is_err_and c.from_residual.result c.from_residual.ensures.1 in
    let next = lines_next c.args.form c.args.plan.now c.args.l.shape _ _ (rw c.line_count-i-end.ensures at c.loop-i-test.true) c.line_at-line.ensures.0 in
    rw (p.1, p.2, c.loop-i.invariant.1) (sym (ap ok_unless (line_wrong _ _ _ _ _ _ next _ c.in_err-c.ensures)))
