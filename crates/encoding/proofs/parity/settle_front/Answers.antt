-- `encoding::parity::settle_front` meets its contract: the columns before k are settled, whatever the third shift and the data bits. Assumes nothing.
use Rattle.std.proofs.Common.{◌≡◌, ℕ, ◌-◌, subst, arith}
use Rattle.encoding.specs.Work.{Settled}
use Rattle.encoding.proofs.Adding.{added_ready}
use Rattle.encoding.proofs.Steps.{settled_first, settled_more}
use Rattle.encoding.proofs.parity.settle_front.Goals as goal

pub loop-k-init : goal.loop-k-init
loop-k-init c = (added_ready c.add_block.ensures c.requires.0, λ third bit h. h)

pub add_block-requires-in-loop-k : goal.add_block-requires-in-loop-k
add_block-requires-in-loop-k c =
    (added_ready c.add_column.ensures c.loop-k.invariant.0, omega arith, omega (arith, c.requires.0.data_column), (λ e. omega arith), c.args.plan.now.well_formed.some_lift)

pub loop-k-preserved : goal.loop-k-preserved
loop-k-preserved c = let p = c.args.plan.now in (
  added_ready c.add_block-in-loop-k.ensures (added_ready c.add_column.ensures c.loop-k.invariant.0),
  λ third bit h. settled_more p.entries.now p.shape third bit c.loop-k.k _ _ _ (omega arith) (omega arith) (c.loop-k.invariant.1 third bit h) c.add_column.ensures c.add_block-in-loop-k.ensures,
)

pub returns : goal.returns
returns c =
    let p = c.args.plan.now in
    let end : c.loop-k.k ≡ p.shape.rows - 1 = omega arith in
    record {
      settled = λ third bit h.
          subst (λ (k : ℕ). Settled p.entries.now p.shape third bit k c.loop-k.word) end
          (c.loop-k.invariant.1 third bit (settled_first p.entries.now p.shape third bit _ _ c.requires.1 h c.add_block.ensures));
    }
