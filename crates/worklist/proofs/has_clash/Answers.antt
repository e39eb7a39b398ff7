-- `worklist::has_clash` meets its contract: the parity of a check is that of the scan's sum. Assumes nothing.
use Prim.Native.Nat.{ℕ, ◌%◌}
use mathlib.Core.Path.{sym, ap, ◌∙◌}
use Rattle.graph.specs.Erasure.{parity}
use Rattle.graph.specs.Filling.{clash}
use Rattle.graph.proofs.Peeling.{any_some}
use Rattle.graph.proofs.Filling.{odd_check_law}
use Rattle.exponent.specs.Tanner.{tanner}
use Rattle.worklist.proofs.has_clash.Goals as goal

pub returns-then-s-eq1 : goal.returns-then-s-eq1
unfolding clash tanner parity
returns-then-s-eq1 c =
    let s = c.scan_check-s.ensures in
    sym
    (any_some _ _ _ c.loop-c-test.true
    (odd_check_law _ _ _ (sym s.erasures ∙ c.if-s-eq0.true) (ap (λ (x : ℕ). x % 2) (sym s.sum) ∙ c.if-s-eq1.true)))
