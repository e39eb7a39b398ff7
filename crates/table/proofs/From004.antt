-- Every plan that `build` builds is the target matrix of source document 004. Assumes nothing.
use Prim.Native.Nat.{ℕ}
use mathlib.Core.Path.{◌≡◌}
use mathlib.Core.List.{List, map}
use Rattle.std.specs.Prelude.{None}
use lib.IntN.{ℤ}
use lib.ListN.{length}
use Rattle.refusal.specs.Lowest.{lowest}
use Rattle.weights.specs.declared.Room.{Room}
use Rattle.square.specs.Table.{table_at}
use Rattle.square.specs.Mask.{mask_at, weight}
use Rattle.grid.specs.Plan.{plan_rows, plan_cols}
use Rattle.grid.specs.Source004.{kept_columns, kept_rows, target, written}
use Rattle.grid.proofs.Source004.{source_004, shape_004}
use Rattle.table.specs.Build.{build_rules, built_plan}
use Rattle.table.proofs.Accepted.{taken}

-- and so is every plan that `build` builds
pub built_from_004 : (order lift : ℕ) (table : List ℤ) (mask : List ℕ) (room : Room) → lowest (build_rules order lift table mask room) ≡ None
    → map (written lift) (target order (weight order mask) (table_at order table) (mask_at order mask)) ≡ built_plan order lift table mask
unfolding built_plan
built_from_004 order lift table mask room e = source_004 order (weight order mask) (table_at order table) mask (taken order lift table mask room e).of_mask lift

pub built_shape_004 : (order lift : ℕ) (table : List ℤ) (mask : List ℕ) (room : Room) → lowest (build_rules order lift table mask room) ≡ None
    → (length (kept_rows order (weight order mask) (table_at order table) (mask_at order mask)) ≡ plan_rows order (weight order mask))
    × (length (kept_columns order (weight order mask) (mask_at order mask)) ≡ plan_cols order (weight order mask))
built_shape_004 order lift table mask room e = shape_004 order (weight order mask) (table_at order table) mask (taken order lift table mask room e).of_mask
