-- The answers of the calls (document 01, "Turned away", and document 02, slip 7): the refusals in rising order of number, and what the
-- lent memory then holds.
use Rattle.std.specs.Prelude.{ℕ, ◌*◌, not, ◌||◌, List, [], ◌∷◌, ◌++◌, ltb, eqb, ℤ, length}
use Rattle.std.specs.Prelude.{Option}
use Rattle.refusal.specs.declared.Refusal.{Refusal}
use Rattle.refusal.specs.declared.Refusal.TheVariants.{Lift, Order, TableLength, NegativeEntry, Unsound, MaskByte, MaskWeight, TableBits, PlanPlace}
use Rattle.refusal.specs.Lowest.{Rule, refuse, lowest}
use Rattle.refusal.specs.Place.{first_place, somewhere}
use Rattle.refusal.specs.Lent.{lent}
use Rattle.exponent.specs.Limits.{outside}
use Rattle.exponent.specs.declared.Shape.{Shape}
use Rattle.weights.specs.declared.Room.{Room}
use Rattle.weights.specs.Weights.{shape_of, Held, with_weights, room_of, length_rules}
use Rattle.square.specs.declared.search.Quad.{Quad}
use Rattle.square.specs.Table.{table_at, negative, unsound, first_repeat}
use Rattle.square.specs.Mask.{mask_at, common, weight}
use Rattle.grid.specs.Plan.{plan_rows, plan_cols, table_plan}

-- SUPPLIED TABLES. The order is 4 to 7, the place order² long.
unfoldable pub supply_rules : ℕ → ℕ → List Rule
supply_rules order room = refuse Order (outside 4 7 order) ∷ refuse TableLength (not (eqb room (order * order))) ∷ []

-- TABLE PLANS. The lift, the table's order, length, entries and soundness;
abbrev pub unsound_at : Quad → Refusal
unsound_at q = Unsound q.i q.k q.r q.t

unfoldable pub table_rules : ℕ → ℕ → List ℤ → List Rule
table_rules order lift table =
    refuse Lift (outside 1 4096 lift)
    ∷ refuse Order (outside 4 7 order)
    ∷ refuse TableLength (not (eqb (length table) (order * order)))
    ∷ refuse (NegativeEntry (first_place negative table)) (somewhere negative table)
    ∷ refuse (unsound_at (first_repeat order lift (table_at order table))) (unsound order lift (table_at order table))
    ∷ []

-- the mask's bytes and common weight L, at most 65,536 bits, a lent place of exactly 3LJ × JL², and lists of 3LJ and JL² weights.
unfoldable pub mask_rules : ℕ → ℕ → List ℕ → Room → List Rule
mask_rules order lift mask room =
    let rows = plan_rows order (weight order mask) in
    let cols = plan_cols order (weight order mask) in
    refuse MaskByte (not (eqb (length mask) (order * order)) || somewhere (ltb 1) mask)
    ∷ refuse MaskWeight (not (common order mask))
    ∷ refuse TableBits (ltb 65536 (cols * lift))
    ∷ refuse PlanPlace (not (eqb room.plan (rows * cols)))
    ∷ length_rules room rows cols

unfoldable pub build_rules : ℕ → ℕ → List ℤ → List ℕ → Room → List Rule
build_rules order lift table mask room = table_rules order lift table ++ mask_rules order lift mask room

-- the plan that is built where nothing is refused, and its sizes
unfoldable pub built_plan : ℕ → ℕ → List ℤ → List ℕ → List ℤ
built_plan order lift table mask = table_plan order (weight order mask) lift (table_at order table) (mask_at order mask)

abbrev pub built_shape : ℕ → ℕ → List ℕ → Shape
built_shape order lift mask = shape_of (plan_rows order (weight order mask)) (plan_cols order (weight order mask)) lift

-- THE CALL, of what the three lent lists hold: why it is refused, if it is; the plan with its weights, or all as it was; the answer
abbrev pub build_refusal : ℕ → ℕ → List ℤ → List ℕ → Held → Option Refusal
build_refusal order lift table mask h = lowest (build_rules order lift table mask (room_of h))

abbrev pub after_build : ℕ → ℕ → List ℤ → List ℕ → Held → Held
after_build order lift table mask h = lent (build_refusal order lift table mask h) (with_weights (built_plan order lift table mask) (built_shape order lift mask)) h
