-- `encoding::columns::add_data` meets its contract: what the data columns before j have is added. Assumes nothing.
use Rattle.std.proofs.Common.{◌≡◌, arith}
use Rattle.encoding.specs.Encoded.{data_sum}
use Rattle.encoding.proofs.Adding.{added_ready, columns_none, columns_more}
use Rattle.encoding.proofs.columns.add_data.Goals as goal

pub loop-j-init : goal.loop-j-init
loop-j-init c =
    let a = c.args in
    let p = a.plan.now in
    columns_none p.entries.now p.shape.cols p.shape.lift a.i a.turn a.word.now p.shape.rows c.requires.0.bits

pub add_block-requires : goal.add_block-requires
add_block-requires c = let r = c.requires in (added_ready c.loop-j.invariant r.0, r.1, c.loop-j-test.true, (λ e. omega arith), r.2)

pub loop-j-preserved : goal.loop-j-preserved
loop-j-preserved c =
    let a = c.args in
    let p = a.plan.now in
    columns_more p.entries.now p.shape.cols p.shape.lift a.i a.turn a.word.now _ _ p.shape.rows c.loop-j.j p.well_formed.some_lift (omega arith) (λ e. omega arith) c.loop-j.invariant
    c.add_block.ensures

pub returns : goal.returns
unfolding data_sum
returns c = let p = c.args.plan.now in let end : c.loop-j.j ≡ p.shape.cols = omega (arith, c.requires.0.data_column) in rw end at c.loop-j.invariant
