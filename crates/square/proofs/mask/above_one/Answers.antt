-- Assumes nothing.
use Rattle.std.proofs.Common.{rules, tests, ◌∙◌}
use lib.Dec.{ltb}
use Rattle.std.proofs.lemmas.Iterator.{YieldsList-from_slice}
use Rattle.std.proofs.lemmas.Iterator.Search.{any_from_yields_List}
use Rattle.square.proofs.Found.{any_is}
use Rattle.square.proofs.mask.above_one.Goals as goal

pub returns : goal.returns
returns c =
    any_from_yields_List (ltb 1) _ _ _ c.any.ensures.ran (YieldsList-from_slice c.args.mask.now cc) (λ x b q k. search (rules, tests)) ∙ any_is (ltb 1) c.args.mask.now
