-- Positions at a bit or at a check: what they allow, where a step leads, and which step is next. Assumes nothing.
use Rattle.std.specs.Prelude.{None, Some}
use Prim.Native.Nat.{ℕ, ◌+◌, ◌-◌, ◌*◌, ◌≤◌, ◌<◌}
use mathlib.Core.Path.{◌≡◌}
use mathlib.Core.Bool.{Bool, true, false, not, cond}
use mathlib.Core.List.{List}
use native.Mathlib.Omega.{arith}
use native.Mathlib.Nat.{mod-lt}
use lib.Dec.{eqb}
use lib.IntN.{ℤ}
use Rattle.graph.proofs.Decide.{by_le}
use Rattle.index.proofs.Onward.{to_limit}
use Rattle.exponent.specs.declared.Shape.{Shape}
use Rattle.exponent.specs.declared.position.Position.{Position}
use Rattle.exponent.specs.Plan.{block_at}
use Rattle.exponent.specs.Position.{forward, back}
use Rattle.exponent.proofs.Numbers.{number_low}
use Rattle.index.specs.Index.{NextFrom, NextOf}
use Rattle.walks.specs.Steps.{blocks_of, AtBit, AtCheck}
use Rattle.walks.proofs.Steps.{lands}
use Rattle.walks.proofs.Skips.{no_column, no_row}
use Rattle.trees.specs.Tree.{step_to, block, parent}
use Rattle.trees.specs.Grow.{Placed, open_at}
use Rattle.trees.proofs.Growing.{Grows, grows_skip}

-- the number of a vertex
pub vertex_low : (i lift v : ℕ) → i < 512 → lift ≤ 4096 → v < lift → i * lift + v < 2097152
vertex_low i lift v h k q = omega (arith, number_low i v 512 lift h q)

module _ {plan : List ℤ} {s : Shape} {p : Position} where
  pub at_bit : Placed plan s true p → AtBit plan s p
  at_bit a = record { formed = a.formed; col = a.inside; voltage = a.voltage }

  pub at_check : Placed plan s false p → AtCheck plan s p
  at_check a = record { formed = a.formed; row = a.inside; voltage = a.voltage }

  -- so its node fits into a number
  pub node_fits : {bit : Bool} → Placed plan s bit p → {left : ℕ} → left < 16
      → (block bit p < 512) × (s.lift ≤ 4096) × (p.voltage < s.lift) × (left < 16) × (parent bit p ≤ 512)
  node_fits {bit = true} a h = (omega (arith, a.inside, a.formed.few_cols), a.formed.small_lift, a.voltage, h, a.from)
  node_fits {bit = false} a h = (omega (arith, a.inside, a.formed.few_rows), a.formed.small_lift, a.voltage, h, a.from)

  -- a step leads to a position on the other side
  pub landed : {bit : Bool} → Placed plan s bit p → {i : ℕ} → i < cond bit s.rows s.cols → {q : Position} → step_to (blocks_of plan s) bit p i ≡ Some q → Placed plan s (not bit) q
  landed {bit = true} a {i} h e =
      lands (Placed plan s false) (eqb i p.row) (block_at plan s.cols s.lift i p.col) (back s.lift p i)
      (λ x. record { formed = a.formed; inside = h; from = omega (arith, a.inside, a.formed.few_cols); voltage = mod-lt (p.voltage + (s.lift - x)) a.formed.some_lift }) e
  landed {bit = false} a {i} h e =
      lands (Placed plan s true) (eqb i p.col) (block_at plan s.cols s.lift p.row i) (forward s.lift p i)
      (λ x. record { formed = a.formed; inside = h; from = omega (arith, a.inside, a.formed.few_rows); voltage = mod-lt (p.voltage + x) a.formed.some_lift }) e

closed : (plan : List ℤ) (s : Shape) (p : Position) (bit : Bool) (k : ℕ) → open_at plan s bit p k ≡ false → step_to (blocks_of plan s) bit p k ≡ None
closed plan s p true k e = no_row plan s p k e
closed plan s p false k e = no_column plan s p k e

-- what has been written of the branches, from where the index leads to; and where it leads to nothing more, all is written
module _ (plan : List ℤ) (s : Shape) {left : ℕ} {bit : Bool} {p : Position} {limit begin i end : ℕ} {start work : List ℕ}
    (g : Grows (blocks_of plan s) bit left p limit start begin i work end) where
  pub grows_next : {m : ℕ} → NextFrom (open_at plan s bit p) i (cond bit s.rows s.cols) m → Grows (blocks_of plan s) bit left p limit start begin m work end
  grows_next n = grows_skip g n (closed plan s p bit)

  pub grows_rest : NextOf (open_at plan s bit p) i (cond bit s.rows s.cols) None
      → (m : ℕ) × (cond bit s.rows s.cols ≤ m) × Grows (blocks_of plan s) bit left p limit start begin m work end
  grows_rest n =
      by_le (cond bit s.rows s.cols) i
      (λ h. (i, h, g))
      (λ h. (cond bit s.rows s.cols, omega arith, grows_next (to_limit _ _ _ (omega arith) n)))
