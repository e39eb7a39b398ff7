-- A plan of one row passes every target: a bit has one check in a row, so there is no cycle at all. Assumes nothing.
use Prim.Native.Nat.{ℕ, ◌<◌}
use mathlib.Core.List.{List}
use native.Mathlib.Omega.{arith}
use lib.IntN.{ℤ}
use lib.ListN.{get_or}
use Rattle.graph.specs.Girth.{Passes}
use Rattle.exponent.specs.declared.Shape.{Shape}
use Rattle.exponent.specs.Tanner.{tanner}
use Rattle.walks.proofs.Link.{edge_over, same_check}

pub one_row_passes : (plan : List ℤ) (cols lift : ℕ) → 0 < lift → (t : ℕ) → Passes (tanner plan 1 cols lift) t
unfolding Passes
one_row_passes plan cols lift some_lift t n cs bs y =
    let s : Shape = record { rows = 1; cols = cols; lift = lift } in
    let first = y.forth 0 (omega (arith, y.least)) in
    let second = y.back 0 (omega (arith, y.least)) in
    let p = (edge_over plan s some_lift (get_or cs 0 0) (get_or bs 0 0) first).row in
    let q = (edge_over plan s some_lift (get_or cs 1 0) (get_or bs 0 0) second).row in
    let same = same_check plan s some_lift (get_or bs 0 0) (get_or cs 0 0) (get_or cs 1 0) first second (omega arith) in
    absurd (y.checks_differ 0 1 (omega arith) (omega (arith, y.least)) same)
