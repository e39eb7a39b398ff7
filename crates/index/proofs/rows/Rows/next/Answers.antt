-- What the list says at (i, j) is the next filled one, or the limit. Assumes nothing.
use Rattle.std.proofs.Common.{rules}
use Rattle.index.proofs.Onward.{next_of, none_left}
use Rattle.index.proofs.rows.Rows.next.Goals as goal

pub returns-then-j-cols : goal.returns-then-j-cols
returns-then-j-cols c =
    let a = c.args in
    let s = a.self.now in
    next_of _ _ _ _ _ c.below.ensures (s.onward.next a.i a.j (search rules) c.if-j-cols.true)

pub returns-else-j-cols : goal.returns-else-j-cols
returns-else-j-cols c = none_left _ _ _ c.if-j-cols.false
