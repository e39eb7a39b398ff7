-- The first n entries are written.
use Prim.Native.Nat.{ℕ, ◌/◌, ◌%◌}
use mathlib.Core.List.{List, [], ◌∷◌}
use lib.IntN.{ℤ}
use Rattle.writing.specs.Wrote.{Wrote}
use Rattle.square.specs.Each.{each}
use Rattle.steiner.specs.System.{cols}
use Rattle.steiner.specs.Build.{entry}
use Rattle.steiner.proofs.write.fill.Given as goal

-- the n-th entry of the plan
abbrev pub number : ℕ → ℕ → List ℤ → ℕ → ℤ
number order lift voltages n = entry order lift voltages (n / cols order) (n % cols order)

abbrev pub invariant-loop-n : goal.invariant-loop-n
invariant-loop-n l = Wrote l.initial.plan 0 (each l.n (λ k. number l.order l.lift l.voltages k ∷ [])) l.n l.plan
