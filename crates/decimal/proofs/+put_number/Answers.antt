-- `decimal::put_number` meets its contract: the digits of the hundredth, and the last two after them. Assumes nothing.
use Rattle.writing.proofs.Wrote.{wrote_then}
use Rattle.decimal.proofs.Digits.{decimal_hundred}
use Rattle.decimal.proofs.+put_number.Goals as goal

pub returns-else-n-lt100 : goal.returns-else-n-lt100
returns-else-n-lt100 t c = rw (decimal_hundred c.args.n c.if-n-lt100.false) (wrote_then c.put_number-next.ensures c.put_two-else-n-lt100.ensures)
