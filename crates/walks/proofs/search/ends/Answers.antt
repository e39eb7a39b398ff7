-- `walks::search::ends` meets its contract: a loop over the bits of a check, each of them an end. Each turn goes on from where the
-- index leads to. Assumes nothing.
use Rattle.std.specs.Prelude.{Some}
use Rattle.std.proofs.Common.{arith, sym, ap, ◌∙◌}
use Rattle.walks.specs.Steps.{blocks}
use Rattle.walks.specs.Ways.{joint}
use Rattle.walks.proofs.Loops.{left_miss, left_hit, more_nothing, more_met, ran_shown}
use Rattle.walks.proofs.Skips.{skip_columns, no_columns}
use Rattle.walks.proofs.Steps.{listed, to_bit, ends_ran}
use Rattle.walks.proofs.search.ends.Goals as goal

pub arrive-requires : goal.arrive-requires
arrive-requires c =
    let room = c.requires.1 in
    let b = to_bit c.requires.0 c.in-Some.ensures.1 (sym c.to_column.ensures ∙ c.in-Some-to_column.is) in
    (omega (arith, b.col, b.formed.few_cols), b.formed.small_lift, b.voltage, listed (omega (arith, c.loop-col.auto.seen)) b.col b.voltage)

pub returns-in-Some-arrive : goal.returns-in-Some-arrive
returns-in-Some-arrive c =
    let a = c.args in
    let next = c.in-Some.ensures in
    ends_ran (blocks a.rows.now.plan) a.corner a.p
    (ran_shown (ap Some (sym c.behind.ensures))
    (left_hit (skip_columns a.rows.now.plan.entries.now a.rows.now.plan.shape a.p next.0 c.loop-col.invariant) next.1 (sym c.to_column.ensures ∙ c.in-Some-to_column.is)
    (more_met (joint (blocks a.rows.now.plan) a.p c.in-Some-to_column.q) (ran_shown c.in-Some-arrive.is c.arrive.ensures))))

pub loop-col-preserved : goal.loop-col-preserved
loop-col-preserved c =
    let a = c.args in
    let next = c.in-Some.ensures in
    left_miss (skip_columns a.rows.now.plan.entries.now a.rows.now.plan.shape a.p next.0 c.loop-col.invariant) next.1 (sym c.to_column.ensures ∙ c.in-Some-to_column.is)
    (more_nothing (joint (blocks a.rows.now.plan) a.p c.in-Some-to_column.q) (ran_shown c.in_default-arrive.is c.arrive.ensures))

pub returns : goal.returns
returns c =
    let a = c.args in
    ends_ran (blocks a.rows.now.plan) a.corner a.p (no_columns a.rows.now.plan.entries.now a.rows.now.plan.shape a.p c.in_default.ensures c.loop-col.invariant)
