-- The girth lines of document 01's bench cases, a plan with cycles of two lengths, and targets 14 to 18: the model's answer, computed.
-- Assumes nothing.
use Prim.Native.Nat.{ℕ, ◌-◌, ◌≤◌}
use mathlib.Core.Path.{◌≡◌, refl, sym, ◌∙◌}
use mathlib.Core.List.{List, [], ◌∷◌, ◌++◌}
use Rattle.std.specs.Prelude.{Option, None, Some, Result, Ok, Err}
use Rattle.std.proofs.lemmas.Option.{none-some}
use native.Mathlib.Omega.{arith}
use lib.IntN.{ℤ}
use lib.ListN.{replicate}
use Rattle.refusal.specs.declared.Refusal.{Refusal}
use Rattle.refusal.specs.declared.Refusal.TheVariants.{Lift}
use Rattle.refusal.specs.Lowest.{lowest}
use Rattle.refusal.specs.Place.{first_place}
use Rattle.graph.specs.Count.{member}
use Rattle.graph.specs.Girth.{SimpleCycle, Passes}
use Rattle.graph.proofs.Cases.{cycle_if}
use Rattle.exponent.specs.Limits.{plan_rules}
use Rattle.exponent.specs.Plan.{shifts, entry_at, block_at}
use Rattle.exponent.specs.Tanner.{tanner}
use Rattle.walks.specs.Ways.{each, from_bit, ways}
use Rattle.walks.specs.Meeting.{repeat, back_along, meeting, first_of, short_cycle}
use Rattle.walks.specs.Trail.{places, lay}
use Rattle.girth.specs.declared.Cycle.{Cycle}
use Rattle.girth.specs.Test.{allowed, test_rules, Answer, refused, passed, failed}
use Rattle.girth.specs.Model.{shortest, model}

pub record Case : Type 0 where
  pub plan : List ℤ
  pub rows : ℕ
  pub cols : ℕ
  pub lift : ℕ
  pub target : ℕ
  pub answer : Result (Option Cycle) Refusal

abbrev case : List ℕ → ℕ → ℕ → ℕ → ℕ → Result (Option Cycle) Refusal → Case
case l rows cols lift target answer = record { plan = shifts l; rows = rows; cols = cols; lift = lift; target = target; answer = answer }

abbrev shows : ℕ → List ℕ → List ℕ → Result (Option Cycle) Refusal
shows n checks bits =
    let unused : List ℕ = replicate (places - n) 0 in
    Ok (Some (record { n = n; checks = checks ++ unused; bits = bits ++ unused }))

-- 0 0 0 / 0 1 1: at lift 2 its columns 0 and 1 have a cycle of 8 edges, its columns 1 and 2 one of 4
abbrev two_lengths : List ℕ
two_lengths = 0 ∷ 0 ∷ 0 ∷ 0 ∷ 1 ∷ 1 ∷ []

-- the 2 × 2 plan of zeros; 0 0 / 0 1, which closes on the second round at lift 2; 0 0 / 0 2; 002's example 1; one row; lift 4,097;
-- cycles of two lengths; 0 0 / 0 1 at lifts 3 and 4, where it closes after 12 and 16 edges, which fills all places
abbrev pub cases : List Case
cases =
    case (0 ∷ 0 ∷ 0 ∷ 0 ∷ []) 2 2 1 6 (shows 2 (1 ∷ 0 ∷ []) (0 ∷ 1 ∷ []))
    ∷ case (0 ∷ 0 ∷ 0 ∷ 1 ∷ []) 2 2 2 8 (Ok None)
    ∷ case (0 ∷ 0 ∷ 0 ∷ 1 ∷ []) 2 2 2 10 (shows 4 (1 ∷ 2 ∷ 0 ∷ 3 ∷ []) (3 ∷ 0 ∷ 2 ∷ 1 ∷ []))
    ∷ case (0 ∷ 0 ∷ 0 ∷ 1 ∷ []) 2 2 3 12 (Ok None)
    ∷ case (0 ∷ 0 ∷ 0 ∷ 2 ∷ []) 2 2 4 10 (shows 4 (2 ∷ 4 ∷ 0 ∷ 6 ∷ []) (6 ∷ 0 ∷ 4 ∷ 2 ∷ []))
    ∷ case (0 ∷ 0 ∷ 0 ∷ 0 ∷ 0 ∷ 0 ∷ 1 ∷ 1 ∷ 0 ∷ 1 ∷ 0 ∷ 1 ∷ []) 3 4 2 6 (shows 2 (2 ∷ 0 ∷ []) (0 ∷ 2 ∷ []))
    ∷ case (0 ∷ 0 ∷ 0 ∷ []) 1 3 4096 12 (Ok None)
    ∷ case (0 ∷ []) 1 1 4097 12 (Err Lift)
    ∷ case two_lengths 2 3 2 10 (shows 2 (3 ∷ 0 ∷ []) (2 ∷ 4 ∷ []))
    ∷ case (0 ∷ 0 ∷ 0 ∷ 1 ∷ []) 2 2 3 14 (shows 6 (4 ∷ 1 ∷ 3 ∷ 0 ∷ 5 ∷ 2 ∷ []) (1 ∷ 4 ∷ 0 ∷ 3 ∷ 2 ∷ 5 ∷ []))
    ∷ case (0 ∷ 0 ∷ 0 ∷ 1 ∷ []) 2 2 4 16 (Ok None)
    ∷ case (0 ∷ 0 ∷ 0 ∷ 1 ∷ []) 2 2 4 18 (shows 8 (2 ∷ 5 ∷ 1 ∷ 4 ∷ 0 ∷ 7 ∷ 3 ∷ 6 ∷ []) (6 ∷ 1 ∷ 5 ∷ 0 ∷ 4 ∷ 3 ∷ 7 ∷ 2 ∷ []))
    ∷ []

abbrev pub Computed : List Case → Type 0
Computed [] = Unit {0}
Computed (c ∷ l) = (model c.plan c.rows c.cols c.lift c.target ≡ c.answer) × Computed l

pub computed : Computed cases
unfolding model lowest test_rules plan_rules first_place allowed member entry_at block_at shortest short_cycle first_of meeting repeat ways from_bit each back_along lay
computed = (refl, (refl, (refl, (refl, (refl, (refl, (refl, (refl, (refl, (refl, (refl, (refl, tt))))))))))))

-- of the plan with two lengths every answer that the contract allows, however it was found, shows a cycle of 4 edges

four_edges : SimpleCycle (tanner (shifts two_lengths) 2 3 2) 2 (0 ∷ 3 ∷ []) (4 ∷ 2 ∷ [])
unfolding tanner block_at entry_at
four_edges = cycle_if (tanner (shifts two_lengths) 2 3 2) 0 (0 ∷ 3 ∷ []) (4 ∷ 2 ∷ []) refl refl refl refl refl refl refl

taken : lowest (test_rules (shifts two_lengths) 2 3 2 10) ≡ None
unfolding lowest test_rules plan_rules first_place allowed member entry_at
taken = refl

pub shows_four : {r : Result (Option Cycle) Refusal} → Answer (shifts two_lengths) 2 3 2 10 r → (c : Cycle) × (r ≡ Ok (Some c)) × (c.n ≡ 2)
unfolding Passes
shows_four (refused x e) = absurd (none-some x (sym taken ∙ e))
shows_four (passed e p) = absurd (let h : 10 ≤ 4 = p 2 _ _ four_edges in omega arith)
shows_four (failed c e w) = (c, refl, omega (arith, w.none_shorter 2 _ _ four_edges, w.cycle.least))
