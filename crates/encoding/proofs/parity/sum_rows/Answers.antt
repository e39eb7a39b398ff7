-- `encoding::parity::sum_rows` meets its contract: the rows before i are summed, and then the last one. Assumes nothing.
use Rattle.std.proofs.Common.{◌≡◌, ◌-◌, ◌<◌, arith}
use native.Mathlib.Nat.{mod-lt}
use Rattle.encoding.proofs.Adding.{added_ready, two_columns}
use Rattle.encoding.proofs.Steps.{summed_none, summed_more, summed_all}
use Rattle.encoding.proofs.parity.sum_rows.Goals as goal

pub loop-i-init : goal.loop-i-init
loop-i-init c = let p = c.args.plan.now in summed_none p.entries.now p.shape _ c.args.word.now c.requires.0

pub add_column-requires : goal.add_column-requires
add_column-requires c =
    let p = c.args.plan.now in
    -- the turn lies below the lift
    let turn_low : c.wrap-turn.result < p.shape.lift = omega (arith, c.wrap-turn.ensures, mod-lt (p.shape.lift - c.args.third) p.well_formed.some_lift) in
    let column = c.requires.0.ready.data_column in
    (two_columns (added_ready c.add_data.ensures c.loop-i.invariant.ready) (p.shape.rows - 1) c.loop-i.i (omega (arith, column)) (omega (arith, column)) (λ e. omega arith), turn_low)

pub loop-i-preserved : goal.loop-i-preserved
loop-i-preserved c =
    let p = c.args.plan.now in
    summed_more p.entries.now p.shape _ _ c.loop-i.i _ _ _ (omega arith) c.loop-i.invariant c.add_data.ensures c.add_column.ensures

pub returns : goal.returns
returns c =
    let p = c.args.plan.now in
    let end : c.loop-i.i ≡ p.shape.rows - 1 = omega arith in
    summed_all p.entries.now p.shape c.args.third _ _ _ _ c.wrap-turn.ensures (rw end at c.loop-i.invariant) c.add_data-2.ensures
