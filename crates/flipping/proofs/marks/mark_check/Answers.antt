-- `flipping::marks::mark_check` meets its contract: the bits that the check has in the columns before `from` are marked. Assumes nothing.
use Rattle.std.proofs.Common.{◌-◌, sym, ◌∙◌, refl, arith}
use native.Mathlib.Nat.{mod-lt}
use Rattle.graph.specs.Count.{range}
use Rattle.exponent.specs.Neighbours.{gather}
use Rattle.exponent.proofs.Numbers.{number_low}
use Rattle.exponent.proofs.Tanner.{shift_low}
use Rattle.index.proofs.Onward.{to_limit}
use Rattle.syndrome.specs.Scan.{Shifted}
use Rattle.flipping.proofs.Marking.{marked_none, marked_skip, marked_block, marked_row, row_room}
use Rattle.flipping.proofs.marks.mark_check.Goals as goal

pub loop-j-init : goal.loop-j-init
unfolding gather range
loop-j-init c = (omega arith, marked_none _)

pub mark_block-requires : goal.mark_block-requires
unfolding Shifted
mark_block-requires c =
    let a = c.args in
    let p = a.rows.now.plan in
    let w = p.well_formed in
    let low = mod-lt a.c w.some_lift in
    let inside = c.in-Some.ensures.1 in
    let passed = marked_skip p.entries.now p.shape _ _ _ _ _ _ c.in-Some.ensures.0 c.loop-j.invariant.1 in (
      λ e q. shift_low _ _ _ _ _ e w.some_lift (sym c.block_at.ensures ∙ q),
      low,
      w.small_lift,
      omega (arith, number_low c.in-Some.j (p.shape.lift - 1) p.shape.cols p.shape.lift inside (omega (arith, w.some_lift)), c.requires.0, w.some_lift, c.loop-j.invariant.1.same_length),
      row_room p.entries.now p.shape a.word.now c.loop-j.word _ _ c.in-Some.j 7 w.some_lift low (omega arith) c.requires.2 passed,
    )

pub loop-j-preserved : goal.loop-j-preserved
loop-j-preserved c =
    let a = c.args in
    let p = a.rows.now.plan in
    let inside = c.in-Some.ensures.1 in (
      omega arith,
      marked_block p.entries.now p.shape a.word.now c.loop-j.word _ _ _ _ _ c.block_at.ensures c.mark_block.ensures
          (marked_skip p.entries.now p.shape _ _ _ _ _ _ c.in-Some.ensures.0 c.loop-j.invariant.1),
    )

pub returns : goal.returns
returns c =
    let p = c.args.rows.now.plan in
    marked_row p.entries.now p.shape _ _ _ _ p.well_formed.some_lift refl
    (marked_skip p.entries.now p.shape _ _ _ _ _ _ (to_limit _ _ _ c.loop-j.invariant.0 c.in_default.ensures) c.loop-j.invariant.1)
