-- A table that is refused is refused with its mask. Assumes nothing.
use Rattle.std.proofs.Common.{◌∙◌, sym}
use Rattle.std.proofs.lemmas.Result.{err_from_is_err_and}
use Rattle.table.proofs.Accepted.{table_refused}
use Rattle.table.proofs.judge.judge.Goals as goal

pub returns-in_err-judge_table : goal.returns-in_err-judge_table
returns-in_err-judge_table c = let a = c.args in
    let p = err_from_is_err_and c.from_residual.result c.from_residual.ensures.1 in
    rw (p.1, p.2, table_refused a.order a.lift a.table.now a.mask.now a.room _ (sym c.judge_table.ensures ∙ c.in_err-judge_table.was))
