-- `alist::put::put_node` meets its contract: the index leads from neighbour to neighbour. Assumes nothing.
use Rattle.lines.proofs.Rest.{node_end, node_goes}
use Rattle.alist.proofs.Laid.{number_room, feed_room, feed_done}
use Rattle.alist.proofs.put.put_node.Goals as goal

pub put_item-o-requires : goal.put_item-o-requires
put_item-o-requires c =
    let inside = rw c.most_of-k-end.ensures at c.loop-k-test.true in
    number_room _ _ c.loop-k.invariant.1 _ _ (node_goes c.args.plan.now c.args.l c.args.side c.args.x _ _ _ c.next_neighbour-n.ensures _ inside) c.requires.2

pub put_byte-requires : goal.put_byte-requires
put_byte-requires c =
    let past = rw c.most_of-k-end.ensures at c.loop-k-test.false in
    feed_room _ _ c.loop-k.invariant.1 (node_end c.args.plan.now c.args.l c.args.side c.args.x _ _ _ past) c.requires.2

pub returns : goal.returns
returns c =
    let past = rw c.most_of-k-end.ensures at c.loop-k-test.false in
    feed_done _ _ c.loop-k.invariant.1 (node_end c.args.plan.now c.args.l c.args.side c.args.x _ _ _ past) c.put_byte.ensures
