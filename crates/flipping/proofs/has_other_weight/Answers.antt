-- `flipping::has_other_weight` meets its contract: the chain asks of each column whether its weight is another. Assumes nothing.
use Rattle.std.proofs.Common.{rules, tests, ◌∙◌, refl, arith}
use Rattle.std.proofs.lemmas.Iterator.{YieldsList-from_range}
use Rattle.std.proofs.lemmas.Iterator.Search.{any_from_yields_List}
use mathlib.Core.Bool.{not}
use lib.Dec.{eqb}
use Prim.Native.Nat.{ℕ}
use Rattle.exponent.specs.Tanner.{column_weight}
use Rattle.flipping.specs.Flip.{other_weight}
use Rattle.flipping.proofs.Rules.{any_listed}
use Rattle.flipping.proofs.has_other_weight.Goals as goal

pub returns : goal.returns
unfolding other_weight
returns c =
    let s = c.args.plan.now.shape in
    any_from_yields_List (λ (j : ℕ). not (eqb (column_weight c.args.plan.now.entries.now s.rows s.cols s.lift j) 3)) c.any.new.self _ _ c.any.ensures.ran
    (YieldsList-from_range 0 s.cols s.cols refl (omega arith)) (λ x b q k. search (rules, tests))
    ∙ any_listed s.cols _
