-- It makes the tests in their order. Assumes nothing.
use Rattle.std.proofs.Common.{◌∙◌, sym, ap}
use Rattle.std.proofs.Math.Facts.{to_z-of_z}
use Rattle.exponent.specs.Plan.{is_invalid}
use Rattle.weights.proofs.Weights.{lists_right, lists_wrong}
use Rattle.weights.proofs.Rules.{entry_accepted, block_out, block_in}
use Rattle.weights.proofs.change.judge_block.Goals as goal

pub returns-then-s-at : goal.returns-then-s-at
returns-then-s-at c =
    let a = c.args in
    let valid = c.if-is_invalid.ensures ∙ ap is_invalid (rw (to_z-of_z c.ranges.entry) at c.entry.ensures) in
    rw (entry_accepted a.plan.now a.s a.at a.entry a.byrow.now a.bycol.now c.requires (sym valid), block_out a.plan.now a.s a.at a.entry a.byrow.now a.bycol.now c.then-s-at.either)

pub returns-then-not-are_right : goal.returns-then-not-are_right
returns-then-not-are_right c =
    let a = c.args in
    let valid = c.if-is_invalid.ensures ∙ ap is_invalid (rw (to_z-of_z c.ranges.entry) at c.entry.ensures) in
    rw (
      entry_accepted a.plan.now a.s a.at a.entry a.byrow.now a.bycol.now c.requires (sym valid),
      block_in a.plan.now a.s a.at a.entry a.byrow.now a.bycol.now c.if-s-at.false c.if-s-at-2.false,
      lists_wrong a.plan.now a.s a.byrow.now a.bycol.now (sym c.if-not-are_right.ensures),
    )

pub returns : goal.returns
returns c =
    let a = c.args in
    let valid = c.if-is_invalid.ensures ∙ ap is_invalid (rw (to_z-of_z c.ranges.entry) at c.entry.ensures) in
    rw (
      entry_accepted a.plan.now a.s a.at a.entry a.byrow.now a.bycol.now c.requires (sym valid),
      block_in a.plan.now a.s a.at a.entry a.byrow.now a.bycol.now c.if-s-at.false c.if-s-at-2.false,
      lists_right a.plan.now a.s a.byrow.now a.bycol.now (sym c.if-not-are_right.ensures),
    )
