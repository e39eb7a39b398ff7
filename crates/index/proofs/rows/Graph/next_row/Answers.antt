-- What the list says at (i, j) is the next filled one, or the limit. Assumes nothing.
use Rattle.std.proofs.Common.{rules}
use Rattle.index.proofs.Onward.{next_of, none_left}
use Rattle.index.proofs.rows.Graph.next_row.Goals as goal

pub returns-then-i-shape : goal.returns-then-i-shape
returns-then-i-shape c =
    let a = c.args in
    let s = a.self.now in
    next_of _ _ _ _ _ c.below.ensures (s.downward.next a.i a.j c.if-i-shape.true (search rules))

pub returns-else-i-shape : goal.returns-else-i-shape
returns-else-i-shape c = none_left _ _ _ c.if-i-shape.false
