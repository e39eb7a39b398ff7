-- `planning::print::refused` meets its contract: three runs of bytes, one after the other. Assumes nothing.
use Rattle.planning.proofs.Printing.{line_wrote}
use Rattle.planning.proofs.print.refused.Goals as goal

pub returns : goal.returns
returns c = line_wrote c.args.r c.number-number.ensures c.put_bytes-a.ensures c.put_number-b.ensures c.put_byte-end.ensures c.min.ensures
