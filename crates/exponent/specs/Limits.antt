-- Refusals 1 to 6, by which a plan is turned away (document 01, "Turned away").
use Rattle.std.specs.Prelude.{ℕ, ◌*◌, ◌≤◌, ◌<◌, ◌≡◌, Bool, false, not, ◌||◌, List, [], ◌∷◌, ◌++◌, ltb, eqb, ℤ, pos, length, get_or}
use Rattle.refusal.specs.declared.Refusal.TheVariants.{Rows, Cols, Lift, Bits, PlanLength, Entry}
use Rattle.refusal.specs.Lowest.{Rule, refuse}
use Rattle.refusal.specs.Place.{first_place, somewhere}
use Rattle.exponent.specs.Plan.{invalid_entry}

abbrev pub outside : ℕ → ℕ → ℕ → Bool
outside low high n = ltb n low || ltb high n

-- Rows 1 to 192, columns 1 to 512, lift 1 to 4,096, at most 65,536 bits, a list of rows × cols numbers;
abbrev pub size_rules : ℕ → ℕ → ℕ → ℕ → List Rule
size_rules numbers rows cols lift =
    refuse Rows (outside 1 192 rows)
    ∷ refuse Cols (outside 1 512 cols)
    ∷ refuse Lift (outside 1 4096 lift)
    ∷ refuse Bits (ltb 65536 (cols * lift))
    ∷ refuse PlanLength (not (eqb numbers (rows * cols)))
    ∷ []

-- no invalid entry.
abbrev pub entry_rules : ℕ → List ℤ → List Rule
entry_rules lift entries = refuse (Entry (first_place (invalid_entry lift) entries)) (somewhere (invalid_entry lift) entries) ∷ []

unfoldable pub plan_rules : List ℤ → ℕ → ℕ → ℕ → List Rule
plan_rules plan rows cols lift = size_rules (length plan) rows cols lift ++ entry_rules lift plan

-- what a plan has that none of 1 to 6 falls on
pub record WellFormed (plan : List ℤ) (rows cols lift : ℕ) : Type 0 where
  pub some_rows : 1 ≤ rows
  pub few_rows : rows ≤ 192
  pub some_cols : 1 ≤ cols
  pub few_cols : cols ≤ 512
  pub some_lift : 1 ≤ lift
  pub small_lift : lift ≤ 4096
  pub few_bits : cols * lift ≤ 65536
  pub whole : length plan ≡ rows * cols
  pub entries : (place : ℕ) → place < length plan → invalid_entry lift (get_or plan place (pos 0)) ≡ false
