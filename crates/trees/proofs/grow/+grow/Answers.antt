-- The cycle of calls {grow, at_bit, at_check}: by each way behind a step, the tree of the position that it leads to is written.
-- Assumes nothing.
use Rattle.std.proofs.Common.{◌+◌, ◌-◌, ◌∙◌, not, refl, sym, arith}
use Rattle.walks.specs.Steps.{blocks}
use Rattle.trees.specs.Tree.{tree}
use Rattle.trees.specs.Grow.{Grew, full}
use Rattle.trees.proofs.Placing.{grows_next, grows_rest, landed, node_fits}
use Rattle.trees.proofs.Growing.{tree_some, grew_leaf, grew_same, grew_full, grew_until, grows_start, grows_stay, grows_more, grows_over, grows_end}
use Rattle.trees.proofs.grow.+grow.Goals as goal
use Rattle.trees.proofs.grow.+grow.Goals.{grow-then-left-eq1, grow-else-left-eq1+then-bit, grow-else-left-eq1+else-bit}

pub grow-returns-then-limit-at : goal.grow-returns-then-limit-at
grow-returns-then-limit-at t c =
    let a = c.args in
    let some = tree_some (blocks a.graph.now.rows.plan) a.bit a.left a.p in
    let h = c.if-limit-at.true in
    full (omega arith)

pub grow-loop-i-init : goal.grow-loop-i-init
grow-loop-i-init t c =
    let a = c.args in
    let h = c.if-limit-at.false in
    grows_start (blocks a.graph.now.rows.plan) a.bit a.left a.p a.limit c.put.new.work (a.at + 1) (omega arith)

pub grow-loop-i-preserved-in_default-step_to : goal.grow-loop-i-preserved-in_default-step_to
grow-loop-i-preserved-in_default-step_to t c =
    let next = c.in-Some.ensures in
    grows_stay (grows_next c.args.graph.now.rows.plan.entries.now c.args.graph.now.rows.plan.shape c.loop-i.invariant next.0) next.1 (sym c.step_to.ensures ∙ c.in_default-step_to.is)

pub grow-node-requires-then-left-eq1 : goal.grow-node-requires-then-left-eq1
grow-node-requires-then-left-eq1 t c = node_fits (landed c.requires.2 c.in-Some.ensures.1 (sym c.step_to.ensures ∙ c.in-Some-step_to.is)) (omega arith)

pub grow-returns-in_err-end : goal.grow-returns-in_err-end
grow-returns-in_err-end t c =
    let a = c.args in
    let p = a.graph.now.rows.plan in
    let B = blocks p in
    let l = c.loop-i in
    let next = c.in-Some.ensures in
    let step = sym c.step_to.ensures ∙ c.in-Some-step_to.is in
    let grew : Grew l.work l.end a.limit (tree B (not a.bit) (a.left - 1) c.in-Some-step_to.q) c.if-left-eq1.work c.if-left-eq1.grown =
    elim c.if-left-eq1.branch [
      | grow-then-left-eq1 w ↦ grew_same w.grown-is w.work-is (grew_leaf B (not a.bit) (a.left - 1) c.in-Some-step_to.q (omega (arith, w.if-left-eq1.true)) w.node-then-left-eq1.ensures w.leaf-grown.ensures)
      | grow-else-left-eq1+then-bit w ↦ grew_same w.grown-is w.work-is (rw w.if-bit.true w.at_check.ensures)
      | grow-else-left-eq1+else-bit w ↦ grew_same w.grown-is w.work-is (rw w.if-bit.false w.at_bit.ensures)
    ] in
    rw c.from_residual.ensures (full (grows_over (grows_next p.entries.now p.shape l.invariant next.0) next.1 step (λ e. omega (arith, c.requires.0)) a.at refl (grew_full grew c.in_err-end.was)))

pub grow-loop-i-preserved : goal.grow-loop-i-preserved
grow-loop-i-preserved t c =
    let a = c.args in
    let p = a.graph.now.rows.plan in
    let B = blocks p in
    let l = c.loop-i in
    let next = c.in-Some.ensures in
    let step = sym c.step_to.ensures ∙ c.in-Some-step_to.is in
    let grew : Grew l.work l.end a.limit (tree B (not a.bit) (a.left - 1) c.in-Some-step_to.q) c.if-left-eq1.work c.if-left-eq1.grown =
    elim c.if-left-eq1.branch [
      | grow-then-left-eq1 w ↦ grew_same w.grown-is w.work-is (grew_leaf B (not a.bit) (a.left - 1) c.in-Some-step_to.q (omega (arith, w.if-left-eq1.true)) w.node-then-left-eq1.ensures w.leaf-grown.ensures)
      | grow-else-left-eq1+then-bit w ↦ grew_same w.grown-is w.work-is (rw w.if-bit.true w.at_check.ensures)
      | grow-else-left-eq1+else-bit w ↦ grew_same w.grown-is w.work-is (rw w.if-bit.false w.at_bit.ensures)
    ] in
    grows_more (grows_next p.entries.now p.shape l.invariant next.0) next.1 step (grew_until grew c.in_ok-end.was)

pub grow-returns : goal.grow-returns
grow-returns t c =
    let (m, all, g) = grows_rest c.args.graph.now.rows.plan.entries.now c.args.graph.now.rows.plan.shape c.loop-i.invariant c.in_default.ensures in
    grows_end g all (λ e. omega (arith, c.requires.0)) c.put.ensures c.node.ensures refl
