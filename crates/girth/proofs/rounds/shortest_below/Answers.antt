-- `girth::rounds::shortest_below` meets its contract: it looks for a cycle of 2, 3, … checks. The loop keeps what is left of that.
-- Assumes nothing.
use Rattle.std.specs.Prelude.{Some}
use Rattle.std.proofs.Common.{sym, ap, ◌∙◌}
use Rattle.walks.specs.Steps.{blocks}
use Rattle.girth.proofs.Fewest.{fewest_miss, fewest_hit, fewest_end}
use Rattle.girth.proofs.rounds.shortest_below.Goals as goal

pub returns-in-Some : goal.returns-in-Some
returns-in-Some c = let a = c.args in
    ap Some c.witness.ensures
    ∙ fewest_hit (blocks a.graph.now.rows.plan) a.half c.loop-n-test.true (sym c.in-Some.is ∙ c.short_cycle.ensures.shown) c.loop-n.invariant.left

pub loop-n-preserved : goal.loop-n-preserved
loop-n-preserved c = let a = c.args in
    record {
      left = fewest_miss (blocks a.graph.now.rows.plan) a.half c.loop-n-test.true (sym c.in_default.is ∙ c.short_cycle.ensures.shown) c.loop-n.invariant.left;
      fresh = c.short_cycle.ensures.fresh;
    }

pub returns : goal.returns
returns c = let a = c.args in fewest_end (blocks a.graph.now.rows.plan) a.half c.loop-n-test.false c.loop-n.invariant.left
