-- Assumes nothing.
use native.Mathlib.Nat.{le_trans}
use Rattle.square.proofs.Runs.{room, turn}
use Rattle.table.specs.Write.{line, lines}
use Rattle.table.proofs.write.put_part.Goals as goal

pub put_line-to-requires : goal.put_line-to-requires
unfolding lines
put_line-to-requires c = let a = c.args in
    let h = c.loop-n-test.true in
    (c.requires.0, le_trans h c.requires.1, room (line a.size a.table.now a.mask.now a.part) c.loop-n.invariant a.count h c.requires.2)

pub loop-n-preserved : goal.loop-n-preserved
loop-n-preserved c = let a = c.args in
    turn (line a.size a.table.now a.mask.now a.part) c.loop-n.invariant c.put_line-to.ensures
