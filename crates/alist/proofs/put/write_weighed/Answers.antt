-- `alist::put::write_weighed` meets its contract. Assumes nothing.
use Rattle.alist.proofs.Laid.{put_roomed}
use Rattle.alist.proofs.put.write_weighed.Goals as goal

pub returns : goal.returns
returns c = rw c.measure-l.ensures at (put_roomed _ _ c.in_ok-judge_room.ensures c.put_text.ensures)
