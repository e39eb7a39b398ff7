-- The chain compares the blocks place by place. Assumes nothing.
use Rattle.std.proofs.Common.{rules, tests, ◌∙◌}
use Rattle.std.proofs.lemmas.Iterator.{YieldsList-from_slice, YieldsList-from_zip}
use Rattle.std.proofs.lemmas.Iterator.Search.{any_from_yields_List}
use Rattle.crt.proofs.Judging.{apart, any_apart}
use Rattle.crt.proofs.judge.blocks_differ.Goals as goal

pub returns : goal.returns
returns c = let a = c.args in
    any_from_yields_List (apart a.p a.q) c.any.new.self _ _ c.any.ensures.ran
    (YieldsList-from_zip (YieldsList-from_slice a.first.now cc) (YieldsList-from_slice a.second.now cc)) (λ x b q k. search (rules, tests))
    ∙ any_apart a.p a.q a.first.now a.second.now c.requires
