-- `syndrome::scan::scan_check` meets its contract: s is the scan of the row's bits in the columns before `from`. Assumes nothing.
use Rattle.std.proofs.Common.{◌-◌, sym, ◌∙◌, refl, arith, rules}
use native.Mathlib.Nat.{mod-lt}
use Rattle.graph.specs.Count.{range}
use Rattle.exponent.specs.Neighbours.{gather}
use Rattle.exponent.proofs.Numbers.{number_low}
use Rattle.exponent.proofs.Tanner.{shift_low}
use Rattle.index.proofs.Onward.{to_limit}
use Rattle.syndrome.specs.Scan.{Shifted}
use Rattle.syndrome.proofs.Scanning.{scanned_none, scanned_skip, scanned_block, scanned_row}
use Rattle.syndrome.proofs.scan.scan_check.Goals as goal

pub loop-j-init : goal.loop-j-init
unfolding gather range
loop-j-init c = (search rules, search rules, search rules, scanned_none _)

pub add_block-s-requires : goal.add_block-s-requires
unfolding Shifted
add_block-s-requires c =
    let p = c.args.rows.now.plan in
    let w = p.well_formed in
    let inside = c.in-Some.ensures.1 in (
      λ e q. shift_low _ _ _ _ _ e w.some_lift (sym c.block_at.ensures ∙ q),
      mod-lt c.args.c w.some_lift,
      w.small_lift,
      omega (arith, number_low _ (p.shape.lift - 1) _ p.shape.lift inside (omega (arith, w.some_lift)), c.requires.0, w.some_lift),
      omega (arith, w.few_cols),
      omega (arith, w.few_cols),
    )

pub loop-j-preserved : goal.loop-j-preserved
loop-j-preserved c =
    let p = c.args.rows.now.plan in
    let next = c.in-Some.ensures.0 in
    let grown = c.add_block-s.ensures.grown in
    let further = next.from_here in
    let inside = c.in-Some.ensures.1 in (
      omega arith,
      omega arith,
      omega arith,
      scanned_block p.entries.now p.shape _ _ _ _ _ _ _ c.block_at.ensures c.add_block-s.ensures (scanned_skip p.entries.now p.shape _ _ _ _ _ _ next c.loop-j.invariant.3),
    )

pub returns : goal.returns
returns c =
    let p = c.args.rows.now.plan in
    scanned_row p.entries.now p.shape _ _ _ _ p.well_formed.some_lift refl (scanned_skip p.entries.now p.shape _ _ _ _ _ _ (to_limit _ _ _ c.loop-j.invariant.0 c.in_default.ensures) c.loop-j.invariant.3)
