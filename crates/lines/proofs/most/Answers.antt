-- `lines::most` meets its contract. Assumes nothing.
use Rattle.std.proofs.Common.{rules, ◌∙◌}
use Rattle.lines.proofs.Weights.{IsTop, top_greatest}
use Rattle.lines.proofs.most.Goals as goal

pub returns : goal.returns
returns c =
    let top : IsTop c.args.list.now c.max.result = search rules in
    c.unwrap_or.ensures ∙ top_greatest _ _ top
