-- `walks::meet::meet_at` meets its contract: the run finds the repeat, and the second, with that one's end stamped
-- beforehand, the way that it repeats. Assumes nothing.
use Rattle.std.specs.Prelude.{Some}
use Rattle.std.proofs.Common.{ℕ, ◌*◌, ◌/◌, ◌<◌, ap, ◌∙◌, arith}
use Rattle.walks.specs.Ways.{odd}
use Rattle.walks.specs.Trail.{join_trail}
use Rattle.walks.proofs.Runs.{left_below, meets_none, end_low, both_below, meets_lost, meets_both}
use Rattle.walks.proofs.Stamps.{below_more}
use Rattle.walks.proofs.meet.meet_at.Goals as goal

pub returns-in_err-first : goal.returns-in_err-first
returns-in_err-first c = let p = c.requires in
    record {
      shown = c.from_residual.ensures ∙ meets_none c.args.graph.now.rows.plan.entries.now c.args.graph.now.rows.plan.shape c.args.graph.now.rows.plan.well_formed.some_lift c.args.n c.args.k p.1 p.2 p.3 p.4 c.ways_from.ensures c.in_err-first.was;
      fresh = below_more (omega arith) (left_below c.args.graph.now.rows.plan.entries.now c.args.graph.now.rows.plan.shape c.args.graph.now.rows.plan.well_formed.some_lift c.args.n c.args.k p.1 p.2 p.3 p.4 c.ways_from.ensures);
    }

pub offset_bounds-seen-first : goal.offset_bounds-seen-first
offset_bounds-seen-first c =
    let p = c.requires in
    -- the end of the way that the run finds has a place
    let end_in : (c.in_ok-first.first.end < c.args.graph.now.rows.plan.shape.cols * c.args.graph.now.rows.plan.shape.lift) =
    end_low c.args.graph.now.rows.plan.entries.now c.args.graph.now.rows.plan.shape c.args.graph.now.rows.plan.well_formed.some_lift c.args.n c.args.k p.1 p.2 p.3 p.4 c.ways_from.ensures c.in_ok-first.was in
    record { fits = omega (arith, end_in, c.args.graph.now.rows.plan.well_formed.few_bits) }

pub bounds-seen-first : goal.bounds-seen-first
bounds-seen-first c =
    let p = c.requires in
    omega (arith, end_low c.args.graph.now.rows.plan.entries.now c.args.graph.now.rows.plan.shape c.args.graph.now.rows.plan.well_formed.some_lift c.args.n c.args.k p.1 p.2 p.3 p.4 c.ways_from.ensures c.in_ok-first.was, p.3, c.ways_from.auto.seen)

pub returns-in_err-second : goal.returns-in_err-second
returns-in_err-second c = let p = c.requires in
    let kept = c.ways_from.auto.seen in
    record {
      shown = c.from_residual-in_err-second.ensures ∙ meets_lost c.args.graph.now.rows.plan.entries.now c.args.graph.now.rows.plan.shape c.args.graph.now.rows.plan.well_formed.some_lift c.args.n c.args.k p.1 p.2 p.3 p.4 c.ways_from.ensures c.in_ok-first.was kept c.ways_from-2.ensures c.in_err-second.was;
      fresh = both_below c.args.graph.now.rows.plan.entries.now c.args.graph.now.rows.plan.shape c.args.graph.now.rows.plan.well_formed.some_lift c.args.n c.args.k p.1 p.2 p.3 p.4 c.ways_from.ensures c.in_ok-first.was kept c.ways_from-2.ensures;
    }

pub returns : goal.returns
returns c = let p = c.requires in
    let kept = c.ways_from.auto.seen in
    record {
      shown = ap Some (c.join.ensures ∙ ap (λ (z : ℕ). join_trail (odd c.args.n) (c.args.n / 2) z c.in_ok-first.first c.in_ok-second.second) c.number-z.ensures)
          ∙ meets_both c.args.graph.now.rows.plan.entries.now c.args.graph.now.rows.plan.shape c.args.graph.now.rows.plan.well_formed.some_lift c.args.n c.args.k p.1 p.2 p.3 p.4 c.ways_from.ensures c.in_ok-first.was kept c.ways_from-2.ensures c.in_ok-second.was;
      fresh = both_below c.args.graph.now.rows.plan.entries.now c.args.graph.now.rows.plan.shape c.args.graph.now.rows.plan.well_formed.some_lift c.args.n c.args.k p.1 p.2 p.3 p.4 c.ways_from.ensures c.in_ok-first.was kept c.ways_from-2.ensures;
    }
