-- `worklist::fill_check` meets its contract: the scan finds how many bits of the check are erasures, and the only one takes the parity.
-- Assumes nothing.
use mathlib.Core.Path.{refl, sym, ◌∙◌}
use native.Mathlib.Omega.{arith}
use Rattle.graph.proofs.Peeling.{erased_low}
use Rattle.exponent.specs.Tanner.{tanner}
use Rattle.worklist.proofs.Steps.{fill_one}
use Rattle.worklist.proofs.fill_check.Goals as goal

pub returns-then-s-eq1 : goal.returns-then-s-eq1
unfolding tanner
returns-then-s-eq1 c =
    let s = c.scan_check-s in
    let one = s.ensures.one (omega arith) in
    rw s.ensures.sum
    (erased_low c.args.word.now s.result.at one.1, fill_one c.args.c s.result.at c.requires.1 (sym s.ensures.erasures ∙ c.if-s-eq1.true) one.0 one.1)

pub returns-else-s-eq1 : goal.returns-else-s-eq1
returns-else-s-eq1 c = (λ e. c.if-s-eq1.false (c.scan_check-s.ensures.erasures ∙ e), refl)
