-- The first n entries are written.
use Prim.Native.Nat.{ℕ, ◌/◌, ◌%◌}
use mathlib.Core.List.{[], ◌∷◌}
use lib.IntN.{ℤ, pos}
use Rattle.writing.specs.Wrote.{Wrote}
use Rattle.square.specs.declared.supply.Family.{Family}
use Rattle.square.specs.Each.{each}
use Rattle.square.specs.Table.{supplied_at}
use Rattle.square.proofs.supply.put_table.Given as goal

abbrev pub number : Family → ℕ → ℕ → ℤ
number family order n = pos (supplied_at family order (n / order) (n % order))

abbrev pub invariant-loop-n : goal.invariant-loop-n
invariant-loop-n l = Wrote l.initial.table 0 (each l.n (λ k. number l.family l.order k ∷ [])) l.n l.table
