-- `tokens::is_number` meets its contract. The loop's invariant: the first i bytes are what is left of the number exactly where the bytes are
-- the number. Assumes nothing.
use mathlib.Core.Path.{◌≡◌}
use lib.ListN.{take}
use Rattle.decimal.specs.Decimal.{decimal}
use Rattle.tokens.specs.Tokens.{same}
use Rattle.tokens.proofs.is_number.Given as goal

abbrev pub invariant-loop-i : goal.invariant-loop-i
invariant-loop-i l = same (take l.i l.word) (decimal l.rest) ≡ same l.word (decimal l.n)
