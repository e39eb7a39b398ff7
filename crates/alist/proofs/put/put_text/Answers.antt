-- `alist::put::put_text` meets its contract. Assumes nothing.
use native.Mathlib.Omega.{arith}
use Rattle.tokens.specs.declared.Form.TheVariants.{Padded}
use Rattle.lines.proofs.Rest.{lines_next, lines_end}
use Rattle.alist.proofs.Laid.{line_room, lines_done}
use Rattle.alist.proofs.put.put_text.Goals as goal

pub put_line-o-requires : goal.put_line-o-requires
put_line-o-requires c =
    let inside = rw c.line_count-i-end.ensures at c.loop-i-test.true in
    let next = lines_next Padded c.args.plan.now c.args.l.shape _ _ inside c.line_at-line.ensures.0 in
    (c.requires.0, c.requires.1, c.line_at-line.ensures.1, line_room _ c.loop-i.invariant.1 _ _ next (omega (arith, c.requires.2)))

pub returns : goal.returns
returns c =
    let past = rw c.line_count-i-end.ensures at c.loop-i-test.false in
    lines_done _ c.loop-i.invariant.1 (lines_end Padded c.args.plan.now c.args.l.shape _ past)
