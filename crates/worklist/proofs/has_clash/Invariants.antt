-- `worklist::has_clash` meets its contract. The loop's invariant: no check passed is odd without an erasure. Assumes nothing.
use mathlib.Core.Path.{◌≡◌}
use mathlib.Core.Bool.{false}
use Rattle.graph.specs.Erasure.{any}
use Rattle.graph.specs.Filling.{odd_check}
use Rattle.exponent.specs.Graphs.{graph}
use Rattle.worklist.proofs.has_clash.Given as goal

abbrev pub invariant-loop-c : goal.invariant-loop-c
invariant-loop-c l = any l.c (odd_check (graph l.rows.plan) l.word) ≡ false
