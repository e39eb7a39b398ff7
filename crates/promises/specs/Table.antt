-- Demand 2's gift to demand 3: every built table plan passes at 12, so 13 lost bits always come back.
use Rattle.std.specs.Prelude.{ℕ, ◌≡◌, List, ℤ}
use Rattle.std.specs.Prelude.{None}
use Rattle.refusal.specs.Lowest.{lowest}
use Rattle.graph.specs.Erasure.{Codeword}
use Rattle.exponent.specs.Tanner.{tanner}
use Rattle.square.specs.Mask.{weight}
use Rattle.grid.specs.Plan.{plan_rows, plan_cols}
use Rattle.weights.specs.declared.Room.{Room}
use Rattle.table.specs.Build.{build_rules, built_plan}
use Rattle.promises.specs.Three.{Loses, Recovered}

-- a code frame of a built plan that loses up to 13 bits comes back
abbrev pub Thirteen : Type 0
Thirteen =
    (order lift : ℕ) (table : List ℤ) (mask : List ℕ) (room : Room) → lowest (build_rules order lift table mask room) ≡ None
    → (let plan = built_plan order lift table mask in
    let rows = plan_rows order (weight order mask) in
    let cols = plan_cols order (weight order mask) in
    (f f' : List ℕ) → Codeword (tanner plan rows cols lift) f → Loses f f' 13 → Recovered plan rows cols lift f f')
