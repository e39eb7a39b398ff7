-- `trees::columns::any_pair` meets its contract: no column passed has a pair. Assumes nothing.
use Rattle.std.proofs.Common.{arith}
use Rattle.trees.proofs.Overfull.{overfull_no}
use Rattle.trees.proofs.columns.any_pair.Goals as goal

pub column_pair-requires : goal.column_pair-requires
column_pair-requires c =
    let p = c.requires in
    let h = c.loop-j-test.true in
    (p.0, p.1, h, omega (arith, overfull_no _ _ _ p.2 c.loop-j.j h, c.loop-j.auto.work))
