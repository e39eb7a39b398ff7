-- What is left of the data, laid from the next place on, gives what is asked. Assumes nothing.
use Rattle.std.proofs.Common.{◌≡◌, ◌+◌, length, drop}
use Rattle.std.proofs.lemmas.List.Edits.{sets}
use Rattle.encoding.proofs.parity.lay.Given as goal

abbrev pub invariant-loop-k : goal.invariant-loop-k
invariant-loop-k l = (length l.word ≡ length l.initial.word) × (sets l.word (l.start + l.k) (drop l.k l.info) ≡ sets l.initial.word l.start l.info)
