-- `encoding::parity::settle_front` meets its contract: the columns before k are settled, whatever the third shift and the data bits. Assumes nothing.
use Prim.Native.Nat.{ℕ}
use Rattle.encoding.specs.Work.{Ready, Settled}
use Rattle.encoding.proofs.parity.settle_front.Given as goal

abbrev pub invariant-loop-k : goal.invariant-loop-k
invariant-loop-k l = Ready l.plan.entries.now l.plan.shape l.word × ((third : ℕ) (bit : ℕ → ℕ → ℕ) → Settled l.plan.entries.now l.plan.shape third bit 1 l.initial.word → Settled l.plan.entries.now l.plan.shape third bit l.k l.word)
