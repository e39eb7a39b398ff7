-- `encoding::parity::lay` meets its contract: zeros, and the data behind them. Assumes nothing.
use Rattle.std.proofs.Common.{rules, ◌≡◌, ◌*◌, ◌∙◌, ap, ◌++◌, List, ℕ, replicate, arith, length, length-drop}
use Rattle.std.proofs.lemmas.List.{length-replicate}
use Rattle.encoding.proofs.Laying.{laid_whole}
use Rattle.encoding.proofs.parity.lay.Goals as goal

pub returns : goal.returns
returns c =
    let start = c.args.plan.now.shape.rows * c.args.plan.now.shape.lift in
    let zeros : c.fill.new.self ≡ replicate start 0 = search rules in
    laid_whole _ _ _ _ start c.loop-k.k (ap length zeros ∙ length-replicate start 0) (omega (arith, length-drop start c.args.word.now)) (omega arith) c.loop-k.invariant.1
    ∙ ap (λ (l : List ℕ). l ++ c.args.info.now) zeros
