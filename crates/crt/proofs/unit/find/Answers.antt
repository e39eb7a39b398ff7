-- Where no multiple leaves 1, the sizes share a divisor. Assumes nothing.
use Rattle.std.proofs.Common.{◌≡◌, arith}
use Rattle.crt.specs.Work.{nothing, at}
use Rattle.crt.proofs.Units.{is_unit, none_shared}
use Rattle.crt.proofs.unit.find.Goals as goal

pub returns-then-u-q : goal.returns-then-u-q
returns-then-u-q c = let a = c.args in
    at _ (is_unit a.p a.q c.loop-k.k c.requires.0 c.loop-k-test.true c.if-u-q.true)

pub returns : goal.returns
returns c = let end : c.loop-k.k ≡ c.args.q = omega arith in
    nothing (none_shared c.args.p c.args.q c.requires.0 c.requires.1 (rw end at c.loop-k.invariant))
