-- With one lane of each side counted anew both lists are those of the new plan. Assumes nothing.
use Rattle.std.proofs.Math.Facts.{to_z-of_z}
use Rattle.weights.specs.declared.Side.TheVariants.{Bits, Checks}
use Rattle.weights.specs.Change.{stored}
use Rattle.weights.proofs.Stored.{weights_stored}
use Rattle.weights.proofs.change.store.Goals as goal

pub returns-clause-rows : goal.returns-clause-rows
unfolding stored
returns-clause-rows c =
    let a = c.args in
    let p = c.requires in
    let real = to_z-of_z c.ranges.entry in
    let law = weights_stored a.plan.now a.s a.at a.entry p.well p.row_in p.col_in Checks in
    rw (← law, ← p.weighed.rows_right) (rw real at c.recount.ensures)

pub returns-clause-cols : goal.returns-clause-cols
unfolding stored
returns-clause-cols c =
    let a = c.args in
    let p = c.requires in
    let real = to_z-of_z c.ranges.entry in
    let law = weights_stored a.plan.now a.s a.at a.entry p.well p.row_in p.col_in Bits in
    rw (← law, ← p.weighed.cols_right) (rw real at c.recount-2.ensures)
