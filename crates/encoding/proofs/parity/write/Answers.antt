-- `encoding::parity::write` meets its contract: data bits behind zeros, the sums of the rows, the columns before m − 1. Assumes nothing.
use Rattle.std.proofs.Common.{◌≤◌, arith}
use Rattle.encoding.proofs.Words.{parts}
use Rattle.encoding.proofs.Written.{laid, encoded_written}
use Rattle.encoding.proofs.parity.write.Goals as goal

pub lay-requires : goal.lay-requires
lay-requires c =
    let f = c.requires.0 in
    let s = c.args.plan.now.shape in
    omega (arith, f.whole, f.data_whole, parts s.rows s.cols s.lift (let h : s.rows ≤ s.cols = omega (arith, f.data_column) in h))

pub sum_rows-requires : goal.sum_rows-requires
sum_rows-requires c = let f = c.requires.0 in (laid f c.lay.ensures, f.third_low)

pub returns : goal.returns
returns c = encoded_written c.requires.0 c.lay.ensures (c.settle_front.ensures.settled _ _ c.sum_rows.ensures)
