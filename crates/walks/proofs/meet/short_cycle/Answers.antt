-- `walks::meet::short_cycle` meets its contract: root after root. The loop keeps what is left of them, and that the stamps are below
-- the next one. Assumes nothing.
use Rattle.std.proofs.Common.{◌<◌, arith}
use Rattle.walks.specs.Steps.{blocks}
use Rattle.walks.specs.Ways.{roots}
use Rattle.walks.specs.Meeting.{short_cycle}
use Rattle.walks.proofs.Runs.{few_roots, roots_found, roots_vain, roots_end}
use Rattle.walks.proofs.Stamps.{below_more}
use Rattle.walks.proofs.meet.short_cycle.Goals as goal

pub returns-then-is_some : goal.returns-then-is_some
unfolding short_cycle
returns-then-is_some c =
    -- the loop goes over the roots
    let in_roots : c.loop-k.k < roots (blocks c.args.graph.now.rows.plan) c.args.n = omega (arith, c.loop-k-test.true, c.root_count-k-end.ensures) in
    record {
      shown = roots_found _ _ _ in_roots c.meet_at-met.ensures.shown c.if-is_some.ensures c.loop-k.invariant.left;
      fresh = below_more (omega (arith, in_roots, few_roots c.args.graph.now.rows.plan.well_formed c.args.n)) c.meet_at-met.ensures.fresh;
    }

pub loop-k-preserved : goal.loop-k-preserved
loop-k-preserved c =
    let in_roots : c.loop-k.k < roots (blocks c.args.graph.now.rows.plan) c.args.n = omega (arith, c.loop-k-test.true, c.root_count-k-end.ensures) in
    record {
      left = roots_vain _ _ _ in_roots c.meet_at-met.ensures.shown c.if-is_some.ensures c.loop-k.invariant.left;
      fresh = below_more (omega arith) c.meet_at-met.ensures.fresh;
    }

pub returns : goal.returns
unfolding short_cycle
returns c =
    let v = c.loop-k.invariant in
    record {
      shown = roots_end _ _ (omega (arith, c.loop-k-test.false, c.root_count-k-end.ensures)) v.left;
      fresh = below_more (omega (arith, c.loop-k.auto.k-end, c.root_count-k-end.ensures, few_roots c.args.graph.now.rows.plan.well_formed c.args.n)) v.fresh;
    }
