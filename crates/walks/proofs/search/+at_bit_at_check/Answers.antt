-- The cycle of calls {at_bit, at_check}: each turn goes on from where the index leads to, and adds what is found behind its step.
-- Assumes nothing.
use Rattle.std.specs.Prelude.{Some}
use Rattle.std.proofs.Common.{arith, sym, ap, ◌∙◌, ◌-◌}
use Rattle.walks.specs.Steps.{blocks}
use Rattle.walks.specs.Ways.{from_bit, from_check, joint}
use Rattle.walks.specs.Stamps.{Ran}
use Rattle.walks.proofs.Loops.{left_stay, left_found, left_vain, left_miss, left_hit, more_nothing, more_met, ran_shown, ran_same}
use Rattle.walks.proofs.Skips.{skip_columns, skip_rows, no_columns, no_rows}
use Rattle.walks.proofs.Steps.{at_bit_left, ends_at}
use Rattle.walks.proofs.search.+at_bit_at_check.Goals as goal
use Rattle.walks.proofs.search.+at_bit_at_check.Goals.{at_bit-then-depth-eq1, at_bit-else-depth-eq1}

-- AT A BIT

pub at_bit-loop-row-init : goal.at_bit-loop-row-init
at_bit-loop-row-init t c = at_bit_left _ _ _ _ _ _ (λ e. omega (arith, c.requires.0))

pub at_bit-loop-row-preserved-in_default-to_row : goal.at_bit-loop-row-preserved-in_default-to_row
at_bit-loop-row-preserved-in_default-to_row t c =
    let plan = c.args.graph.now.rows.plan in
    let next = c.in-Some.ensures in
    left_stay (skip_rows plan.entries.now plan.shape c.args.p next.0 c.loop-row.invariant) next.1 (sym c.to_row.ensures ∙ c.in_default-to_row.is)

pub at_bit-returns-then-is_some : goal.at_bit-returns-then-is_some
at_bit-returns-then-is_some t c =
    let a = c.args in
    let plan = a.graph.now.rows.plan in
    let next = c.in-Some.ensures in
    let ran : Ran a.stamp (from_check (blocks plan) a.corner (from_bit (blocks plan) a.corner (a.depth - 1)) c.in-Some-to_row.q) c.loop-row.seen c.if-depth-eq1.met c.if-depth-eq1.seen =
    elim c.if-depth-eq1.branch [
      | at_bit-then-depth-eq1 w ↦ ran_same w.met-is w.seen-is (ends_at (blocks plan) a.corner c.in-Some-to_row.q (omega arith) w.ends-met.ensures)
      | at_bit-else-depth-eq1 w ↦ ran_same w.met-is w.seen-is w.at_check-met.ensures
    ] in
    left_found (skip_rows plan.entries.now plan.shape a.p next.0 c.loop-row.invariant) _ next.1 (sym c.to_row.ensures ∙ c.in-Some-to_row.is) ran c.if-is_some.ensures

pub at_bit-loop-row-preserved : goal.at_bit-loop-row-preserved
at_bit-loop-row-preserved t c =
    let a = c.args in
    let plan = a.graph.now.rows.plan in
    let next = c.in-Some.ensures in
    let ran : Ran a.stamp (from_check (blocks plan) a.corner (from_bit (blocks plan) a.corner (a.depth - 1)) c.in-Some-to_row.q) c.loop-row.seen c.if-depth-eq1.met c.if-depth-eq1.seen =
    elim c.if-depth-eq1.branch [
      | at_bit-then-depth-eq1 w ↦ ran_same w.met-is w.seen-is (ends_at (blocks plan) a.corner c.in-Some-to_row.q (omega arith) w.ends-met.ensures)
      | at_bit-else-depth-eq1 w ↦ ran_same w.met-is w.seen-is w.at_check-met.ensures
    ] in
    left_vain (skip_rows plan.entries.now plan.shape a.p next.0 c.loop-row.invariant) _ next.1 (sym c.to_row.ensures ∙ c.in-Some-to_row.is) ran c.if-is_some.ensures

pub at_bit-returns : goal.at_bit-returns
at_bit-returns t c = let plan = c.args.graph.now.rows.plan in no_rows plan.entries.now plan.shape c.args.p c.in_default.ensures c.loop-row.invariant

-- AT A CHECK

pub at_check-loop-col-preserved-in_default-to_column : goal.at_check-loop-col-preserved-in_default-to_column
at_check-loop-col-preserved-in_default-to_column t c =
    let plan = c.args.graph.now.rows.plan in
    let next = c.in-Some.ensures in
    left_stay (skip_columns plan.entries.now plan.shape c.args.p next.0 c.loop-col.invariant) next.1 (sym c.to_column.ensures ∙ c.in_default-to_column.is)

pub at_check-returns-in-Some-at_bit : goal.at_check-returns-in-Some-at_bit
at_check-returns-in-Some-at_bit t c =
    let a = c.args in
    let plan = a.graph.now.rows.plan in
    let next = c.in-Some.ensures in
    ran_shown (ap Some (sym c.behind.ensures))
    (left_hit (skip_columns plan.entries.now plan.shape a.p next.0 c.loop-col.invariant) next.1 (sym c.to_column.ensures ∙ c.in-Some-to_column.is)
    (more_met (joint (blocks plan) a.p c.in-Some-to_column.q) (ran_shown c.in-Some-at_bit.is c.at_bit.ensures)))

pub at_check-loop-col-preserved : goal.at_check-loop-col-preserved
at_check-loop-col-preserved t c =
    let a = c.args in
    let plan = a.graph.now.rows.plan in
    let next = c.in-Some.ensures in
    left_miss (skip_columns plan.entries.now plan.shape a.p next.0 c.loop-col.invariant) next.1 (sym c.to_column.ensures ∙ c.in-Some-to_column.is)
    (more_nothing (joint (blocks plan) a.p c.in-Some-to_column.q) (ran_shown c.in_default-at_bit.is c.at_bit.ensures))

pub at_check-returns : goal.at_check-returns
at_check-returns t c = let plan = c.args.graph.now.rows.plan in no_columns plan.entries.now plan.shape c.args.p c.in_default.ensures c.loop-col.invariant
