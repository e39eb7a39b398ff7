-- `alist::put::put_numbers` meets its contract. Assumes nothing.
use Rattle.tokens.specs.declared.Form.TheVariants.{Padded}
use Rattle.lines.proofs.Rest.{line_end}
use Rattle.lines.proofs.Weights.{listed}
use Rattle.alist.proofs.Laid.{number_room, feed_room, feed_done}
use Rattle.alist.proofs.put.put_numbers.Goals as goal

pub width-k-end-requires : goal.width-k-end-requires
width-k-end-requires c = (listed _ _ _ _ _ _ c.requires.0 c.requires.1, c.requires.2)

pub put_item-o-requires : goal.put_item-o-requires
put_item-o-requires c =
    let inside = rw c.width-k-end.ensures at c.loop-k-test.true in
    number_room _ _ c.loop-k.invariant.1 _ _ (c.number_at-n.ensures _ inside) c.requires.3

pub put_byte-requires : goal.put_byte-requires
put_byte-requires c =
    let past = rw c.width-k-end.ensures at c.loop-k-test.false in
    feed_room _ _ c.loop-k.invariant.1 (line_end _ _ _ _ _ _ c.requires.0 c.requires.1 Padded c.args.line _ _ past) c.requires.3

pub returns : goal.returns
returns c =
    let past = rw c.width-k-end.ensures at c.loop-k-test.false in
    feed_done _ _ c.loop-k.invariant.1 (line_end _ _ _ _ _ _ c.requires.0 c.requires.1 Padded c.args.line _ _ past) c.put_byte.ensures
