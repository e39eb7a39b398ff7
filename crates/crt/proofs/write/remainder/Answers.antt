-- The formula gives the number that is found. Assumes nothing.
use Rattle.crt.proofs.Remainders.{found, found_low, found_remainders}
use native.Mathlib.Omega.{arith}
use mathlib.Core.Path.{sym}
use Rattle.crt.proofs.write.remainder.Goals as goal

pub returns : goal.returns
unfolding found
returns c = let p = c.requires.0 in
    let a = c.args in (
      sym (found_remainders a.p a.q a.unit p.some_p p.some_q p.unit a.e a.f),
      omega (arith, found_low a.p a.q a.unit p.some_p p.some_q p.unit a.e a.f, p.small_product),
    )
