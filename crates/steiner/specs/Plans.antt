-- What is promised of a built plan (document 02, slip 6).
use Rattle.std.specs.Prelude.{ℕ, ◌+◌, ◌-◌, ◌*◌, ◌/◌, ◌%◌, ◌<◌, ◌≡◌, List, ℤ, pos, negsuc, get_or}
use Rattle.std.specs.Prelude.{None}
use Rattle.refusal.specs.Lowest.{lowest}
use Rattle.graph.specs.Girth.{Passes}
use Rattle.exponent.specs.Limits.{plan_rules, WellFormed}
use Rattle.exponent.specs.Tanner.{tanner, column_weight, row_weight, ThreeBlocks}
use Rattle.steiner.specs.declared.system.Triple.{Triple}
use Rattle.steiner.specs.System.{cols, triple_at}
use Rattle.steiner.specs.Build.{voltage_at}

-- i is the k-th point of a triple
pub data Point (t : Triple) : ℕ → ℕ → Type 0 where
  first : Point t 0 t.a
  second : Point t 1 t.b
  third : Point t 2 t.c

-- the entry e in row i and column j: the voltage of point i of triple j modulo the lift, −1 where the triple does not have the point
pub record EntryOf (order lift : ℕ) (voltages : List ℤ) (i j : ℕ) (e : ℤ) : Type 0 where
  pub filled : (k : ℕ) → Point (triple_at order j) k i → e ≡ pos (voltage_at voltages (3 * j + k) % lift)
  pub empty : ((k : ℕ) → Point (triple_at order j) k i → ⊥) → e ≡ negsuc 0

-- what a built plan is
pub record TriplePlan (order lift : ℕ) (voltages plan : List ℤ) : Type 0 where
  -- refusals 1 to 6 cannot fall on it
  pub well_formed : WellFormed plan order (cols order) lift
  pub accepted_by_1_to_6 : lowest (plan_rules plan order (cols order) lift) ≡ None
  -- rows are points, columns are triples
  pub entries : (i j : ℕ) → i < order → j < cols order → EntryOf order lift voltages i j (get_or plan (i * cols order + j) (pos 0))
  -- three filled blocks in each column, (v − 1)/2 in each row
  pub three_in_columns : (j : ℕ) → j < cols order → column_weight plan order (cols order) lift j ≡ 3
  pub half_in_rows : (i : ℕ) → i < order → row_weight plan (cols order) lift i ≡ (order - 1) / 2
  pub three_blocks : ThreeBlocks plan order (cols order) lift
  -- and no cycle of 4 edges, whatever the voltages are
  pub passes : Passes (tanner plan order (cols order) lift) 6
