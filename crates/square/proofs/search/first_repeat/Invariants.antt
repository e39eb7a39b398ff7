-- No i, k, r, t passed repeat.
use Rattle.std.proofs.Common.{ℕ, ◌≡◌, ◌<◌, false}
use Rattle.square.specs.Table.{table_at, repeats}
use Rattle.square.specs.Inner.{quad}
use Rattle.square.proofs.search.first_repeat.Given as goal

abbrev pub invariant-loop-n : goal.invariant-loop-n
invariant-loop-n l = (m : ℕ) → m < l.n → repeats l.lift (table_at l.order l.table) (quad l.order m) ≡ false
