-- The place and the lists are as long as the plan of that weight. Assumes nothing.
use Rattle.std.proofs.Common.{arith}
use Rattle.std.proofs.lemmas.Grind.{common_steps}
use Rattle.refusal.specs.Lowest.{lowest}
use Rattle.table.specs.Build.{mask_rules}
use Rattle.table.proofs.Accepted.{ones_are}
use Rattle.table.proofs.judge.judge_mask.Goals as goal

pub returns-then-room-rows : goal.returns-then-room-rows
unfolding mask_rules lowest
returns-then-room-rows c = grind (arith, common_steps, ones_are c.args.order c.args.mask.now)

pub returns-then-room-rows-2 : goal.returns-then-room-rows-2
unfolding mask_rules lowest
returns-then-room-rows-2 c = grind (arith, common_steps, ones_are c.args.order c.args.mask.now)

pub returns : goal.returns
unfolding mask_rules lowest
returns c = grind (arith, common_steps, ones_are c.args.order c.args.mask.now)
