-- One block changed, computed: the plan 0 0 / 0 1 at P = 2 with its weights, and each refusal of the call. Assumes nothing.
use Prim.Native.Nat.{ℕ}
use mathlib.Core.Path.{◌≡◌, refl}
use mathlib.Core.List.{List, [], ◌∷◌}
use Rattle.std.specs.Prelude.{Option, None, Some}
use lib.IntN.{ℤ, pos, negsuc}
use Rattle.refusal.specs.declared.Refusal.{Refusal}
use Rattle.refusal.specs.declared.Refusal.TheVariants.{Rows, PlanLength, Entry, BlockPlace, Weights}
use Rattle.refusal.specs.Lowest.{lowest}
use Rattle.refusal.specs.Place.{first_place}
use Rattle.graph.specs.Count.{range, count}
use Rattle.exponent.specs.Plan.{entry_at, block_at}
use Rattle.exponent.specs.Tanner.{column_weight, row_weight}
use Rattle.weights.specs.Weights.{weights_of, Held, held, same, right}
use Rattle.weights.specs.Change.{change_rules, stored, call, refusal_of, after}

-- the plan, and its weights
abbrev corner : List ℤ
corner = pos 0 ∷ pos 0 ∷ pos 0 ∷ pos 1 ∷ []

abbrev full : Held
full = held corner (2 ∷ 2 ∷ []) (2 ∷ 2 ∷ [])

-- the last block emptied, and filled again with a voltage above P, stored as it is given
abbrev short : Held
short = held (pos 0 ∷ pos 0 ∷ pos 0 ∷ negsuc 0 ∷ []) (2 ∷ 1 ∷ []) (2 ∷ 1 ∷ [])

pub emptied : after (call 2 2 2 1 1 (negsuc 0)) full ≡ short
unfolding after refusal_of change_rules stored lowest first_place weights_of same right column_weight row_weight count range block_at entry_at
emptied = refl

pub filled_again : after (call 2 2 2 1 1 (pos 32767)) short ≡ held (pos 0 ∷ pos 0 ∷ pos 0 ∷ pos 32767 ∷ []) (2 ∷ 2 ∷ []) (2 ∷ 2 ∷ [])
unfolding after refusal_of change_rules stored lowest first_place weights_of same right column_weight row_weight count range block_at entry_at
filled_again = refl

-- refused: the numbers of a call and what it is lent, with the answer
record Case : Type 0 where
  rows : ℕ
  row : ℕ
  col : ℕ
  entry : ℤ
  lent : Held
  answer : Option Refusal

abbrev cases : List Case
cases =
    -- 1 before all else; 5
    record { rows = 0; row = 2; col = 2; entry = negsuc 1; lent = held [] [] []; answer = Some Rows }
    ∷ record { rows = 3; row = 3; col = 2; entry = negsuc 1; lent = full; answer = Some PlanLength }
    -- 6 of the plan's own entry, then of the new one, with place R × C, before 24
    ∷ record { rows = 2; row = 2; col = 2; entry = negsuc 1; lent = held (pos 0 ∷ negsuc 5 ∷ pos 0 ∷ pos 1 ∷ []) [] []; answer = Some (Entry 1) }
    ∷ record { rows = 2; row = 2; col = 2; entry = negsuc 1; lent = held corner [] []; answer = Some (Entry 4) }
    -- 24 of row R and of column C, before 25
    ∷ record { rows = 2; row = 2; col = 0; entry = pos 0; lent = held corner [] []; answer = Some BlockPlace }
    ∷ record { rows = 2; row = 0; col = 2; entry = pos 0; lent = held corner [] []; answer = Some BlockPlace }
    -- 25: a row weight missing, one too many, a wrong count of a column
    ∷ record { rows = 2; row = 0; col = 0; entry = pos 0; lent = held corner (2 ∷ []) (2 ∷ 2 ∷ []); answer = Some Weights }
    ∷ record { rows = 2; row = 0; col = 0; entry = pos 0; lent = held corner (2 ∷ 2 ∷ 0 ∷ []) (2 ∷ 2 ∷ []); answer = Some Weights }
    ∷ record { rows = 2; row = 0; col = 0; entry = pos 0; lent = held corner (2 ∷ 2 ∷ []) (2 ∷ 1 ∷ []); answer = Some Weights }
    -- and a call that is taken
    ∷ record { rows = 2; row = 1; col = 1; entry = pos 0; lent = full; answer = None }
    ∷ []

abbrev Hold : List Case → Type 0
Hold [] = Unit {0}
Hold (c ∷ l) = (refusal_of (call c.rows 2 2 c.row c.col c.entry) c.lent ≡ c.answer) × Hold l

pub cases_hold : Hold cases
unfolding refusal_of change_rules lowest first_place weights_of same right column_weight row_weight count range block_at entry_at
cases_hold = (refl, (refl, (refl, (refl, (refl, (refl, (refl, (refl, (refl, (refl, tt))))))))))
