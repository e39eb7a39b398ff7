-- `decimal::put_number` meets its contract: the digits of the hundredth, and the last two after them; past the end they are counted.
-- The measure is the number. Assumes nothing.
use Rattle.decimal.proofs.+put_number.Given as goal

abbrev pub decreases-put_number : goal.decreases-put_number
decreases-put_number l = l.n
