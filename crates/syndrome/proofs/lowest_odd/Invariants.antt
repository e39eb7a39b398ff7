-- `syndrome::lowest_odd` meets its contract. The loop's invariant: every check passed is even. Assumes nothing.
use Prim.Native.Nat.{ℕ, ◌<◌}
use mathlib.Core.Path.{◌≡◌}
use Rattle.graph.specs.Erasure.{parity}
use Rattle.exponent.specs.Graphs.{graph}
use Rattle.syndrome.proofs.lowest_odd.Given as goal

abbrev pub invariant-loop-c : goal.invariant-loop-c
invariant-loop-c l = (d : ℕ) → d < l.c → parity (graph l.rows.plan) l.word d ≡ 0
