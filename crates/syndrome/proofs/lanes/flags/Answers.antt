-- `syndrome::lanes::flags` meets its contract: the law of a lane at eight bytes. Assumes nothing.
use Rattle.syndrome.proofs.Flags.{repeat, counted}
use Rattle.syndrome.proofs.lanes.flags.Goals as goal

pub returns : goal.returns
unfolding repeat
returns c = counted 8 c.args.x
