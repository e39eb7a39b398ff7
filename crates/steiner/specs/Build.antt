-- The builder (document 02, slips 6 and 7): its refusals in rising order of number, its plan and weights, its sizes.
use Rattle.std.specs.Option.{unwrap_or}
use Rattle.exponent.specs.declared.Shape.{Shape}
use Rattle.std.specs.Prelude.{ℕ, ◌+◌, ◌*◌, ◌%◌, ◌≤◌, ◌≡◌, true, not, ◌||◌, List, [], ◌∷◌, eqb, ℤ, pos, length, get_or}
use Rattle.std.specs.Prelude.{Option}
use Rattle.refusal.specs.declared.Refusal.{Refusal}
use Rattle.refusal.specs.declared.Refusal.TheVariants.{Lift, Bits, Entry, SteinerOrder, SteinerLength}
use Rattle.refusal.specs.Lowest.{Rule, refuse, lowest}
use Rattle.refusal.specs.Place.{first_place, somewhere}
use Rattle.refusal.specs.Lent.{lent}
use Rattle.exponent.specs.Limits.{outside}
use Rattle.weights.specs.declared.Room.{Room}
use Rattle.weights.specs.Weights.{shape_of, Held, with_weights, room_of, length_rules}
use Rattle.square.specs.Each.{each}
use Rattle.square.specs.Table.{signed, negative, block}
use Rattle.steiner.specs.System.{is_order, cols, triple_at, place_in, has, too_long}

-- the lift; too many bits; a negative voltage, with its first place; the order; the lengths of voltages and plan; those of the weights
unfoldable pub build_rules : ℕ → ℕ → List ℤ → Room → List Rule
build_rules order lift voltages room =
    refuse Lift (outside 1 4096 lift)
    ∷ refuse Bits (too_long order lift)
    ∷ refuse (Entry (first_place negative voltages)) (somewhere negative voltages)
    ∷ refuse SteinerOrder (not (is_order order))
    ∷ refuse SteinerLength (not (eqb (length voltages) (3 * cols order)) || not (eqb room.plan (order * cols order)))
    ∷ length_rules room order (cols order)

-- the voltage at a place (a negative one, which 6 turns away, is taken for 0)
abbrev pub voltage_at : List ℤ → ℕ → ℕ
voltage_at voltages n = unwrap_or (signed (get_or voltages n (pos 0))) 0

-- the entry of point i and triple j: the voltage of that point of the triple modulo the lift, and −1 elsewhere
unfoldable pub entry : ℕ → ℕ → List ℤ → ℕ → ℕ → ℤ
entry order lift voltages i j = block (has (triple_at order j) i) (voltage_at voltages (3 * j + unwrap_or (place_in (triple_at order j) i) 0) % lift)

-- the plan, row by row: points from 0, triples in the order of the list
unfoldable pub steiner_plan : ℕ → ℕ → List ℤ → List ℤ
steiner_plan order lift voltages = each order (λ i. each (cols order) (λ j. entry order lift voltages i j ∷ []))

-- THE CALL, of what the three lent lists hold: why it is refused, if it is; the sizes that it answers else, in which points are rows and
-- triples are columns; the plan with its weights, or all as it was
abbrev pub build_refusal : ℕ → ℕ → List ℤ → Held → Option Refusal
build_refusal order lift voltages h = lowest (build_rules order lift voltages (room_of h))

abbrev pub built_shape : ℕ → ℕ → Shape
built_shape order lift = shape_of order (cols order) lift

abbrev pub after_build : ℕ → ℕ → List ℤ → Held → Held
after_build order lift voltages h = lent (build_refusal order lift voltages h) (with_weights (steiner_plan order lift voltages) (built_shape order lift)) h

-- what the inner functions require
pub record Ready (order lift : ℕ) (voltages : List ℤ) : Type 0 where
  pub known : is_order order ≡ true
  pub some_lift : 1 ≤ lift
  pub small_lift : lift ≤ 4096
  pub whole : length voltages ≡ 3 * cols order
