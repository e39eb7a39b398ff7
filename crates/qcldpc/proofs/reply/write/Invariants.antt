-- What is left of `from`, written from the next place on, gives what is asked. Assumes nothing.
use Rattle.std.proofs.Common.{◌≡◌, ◌+◌, length, drop}
use Rattle.std.proofs.lemmas.List.Edits.{sets}
use Rattle.qcldpc.proofs.reply.write.Given as goal

abbrev pub invariant-loop-k : goal.invariant-loop-k
invariant-loop-k l = (length l.out ≡ length l.initial.out) × (sets l.out (l.at + l.k) (drop l.k l.from) ≡ sets l.initial.out l.at l.from)
