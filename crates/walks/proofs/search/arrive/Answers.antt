-- `walks::search::arrive` meets its contract: the test of the stamp says which case of `scan` holds.
-- Assumes nothing.
use Rattle.std.specs.Prelude.{Some, None}
use Prim.Native.Nat.{ℕ}
use mathlib.Core.Path.{sym, subst, subst₂}
use mathlib.Core.List.{[], ◌∷◌}
use lib.ListN.{set}
use Rattle.walks.specs.declared.trail.Trail.{Trail}
use Rattle.walks.specs.Stamps.{Ran}
use Rattle.walks.proofs.Loops.{arrive_met, arrive_new}
use Rattle.walks.proofs.search.arrive.Goals as goal

pub returns-then-seen-bit : goal.returns-then-seen-bit
returns-then-seen-bit c = subst₂ (λ (b : ℕ) (t : Trail). Ran c.args.stamp (record { joints = []; end = b } ∷ []) c.args.seen.now (Some t) c.args.seen.now)
    c.number-bit.ensures (sym c.empty.ensures) (arrive_met c.args.stamp c.number-bit.result c.args.seen.now c.if-seen-bit.true)

pub returns : goal.returns
returns c = subst (λ (b : ℕ). Ran c.args.stamp (record { joints = []; end = b } ∷ []) c.args.seen.now None (set c.args.seen.now c.number-bit.result c.args.stamp))
    c.number-bit.ensures (arrive_new c.args.stamp c.number-bit.result c.args.seen.now c.if-seen-bit.false)
