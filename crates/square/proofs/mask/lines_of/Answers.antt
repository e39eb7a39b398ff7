-- The chain counts. Assumes nothing.
use Rattle.std.proofs.Common.{rules, ◌≡◌, ◌∙◌, refl, ℕ, length, Bool}
use native.Mathlib.Omega.{arith}
use lib.Dec.{eqb}
use Rattle.std.proofs.Common.{◌*◌}
use Rattle.square.specs.Inner.{line_ones}
use Rattle.std.specs.List.{range_with_len, filter}
use Rattle.std.proofs.lemmas.Iterator.{YieldsList-from_range}
use Rattle.std.proofs.lemmas.Iterator.Consumers.{YieldsList-at, YieldsList-from_filter, count_from_yields_List}
use Rattle.square.proofs.Counts.{length_counted}
use Rattle.square.proofs.mask.lines_of.Goals as goal

pub returns : goal.returns
unfolding line_ones
returns c = let a = c.args in
    let test : ℕ → Bool = λ j. eqb (line_ones a.order a.mask.now (j * a.across) a.step) a.weight in
    let chain : c.count.result ≡ length (filter test (range_with_len 0 a.order)) =
    count_from_yields_List _ _ c.count.ensures.ran
    (YieldsList-from_filter _ test (YieldsList-at c.filter.ensures.source (YieldsList-from_range 0 a.order a.order refl (omega arith))) c.filter.ensures.closure (λ x b q k. search rules)) in
    chain ∙ length_counted test a.order
