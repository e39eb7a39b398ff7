-- 13 lost bits come back at every built plan: it passes at 12 and has three filled blocks in each column. Assumes nothing.
use Rattle.table.proofs.Plans.{built_is_good}
use Rattle.promises.specs.Three.{at_12}
use Rattle.promises.specs.Table.{Thirteen}
use Rattle.promises.proofs.Three.{recovered}

pub thirteen : Thirteen
thirteen order lift table mask room accepted f f' code loses =
    let good = built_is_good order lift table mask room accepted in
    recovered _ _ _ lift 12 13 at_12 good.is_well_formed good.passes good.three_blocks f f' code loses
