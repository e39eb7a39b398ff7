-- `tokens::token_end` meets its contract. The loop's invariant: the token ends where what is left of it ends.
-- The measure is what is left of the text. Assumes nothing.
use Prim.Native.Nat.{◌+◌, ◌-◌}
use mathlib.Core.Path.{◌≡◌}
use lib.ListN.{length}
use Rattle.tokens.specs.Tokens.{token_at}
use Rattle.tokens.proofs.token_end.Given as goal

abbrev pub invariant-loop-i : goal.invariant-loop-i
invariant-loop-i l = l.i + length (token_at l.text l.i) ≡ l.at + length (token_at l.text l.at)

abbrev pub decreases-loop-i : goal.decreases-loop-i
decreases-loop-i l = length l.text - l.i
