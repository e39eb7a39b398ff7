-- `comparer::expect_numbers` meets its contract. Assumes nothing.
use mathlib.Core.Path.{sym, ap}
use mathlib.Core.List.{map}
use Rattle.std.proofs.lemmas.Result.{err_from_is_err_and}
use Rattle.tokens.specs.Tokens.{numeral}
use Rattle.tokens.proofs.Reading.{read_wrong}
use Rattle.lines.proofs.Weights.{listed}
use Rattle.comparer.proofs.expect_numbers.Goals as goal

pub width-k-end-requires : goal.width-k-end-requires
width-k-end-requires c = (listed _ _ _ _ _ _ c.requires.0 c.requires.1, c.requires.2)

pub returns-in_err-c : goal.returns-in_err-c
returns-in_err-c c =
    let p = err_from_is_err_and c.from_residual.result c.from_residual.ensures.1 in
    let next = c.number_at-n.ensures c.width-k-end.result c.loop-k-test.true in
    rw (p.1, p.2, c.loop-k.invariant.1, ← c.width-k-end.ensures) (sym (read_wrong _ _ _ _ _ _ (ap (map numeral) next) _ c.in_err-c.ensures))
