-- The syndrome check (document 01, "Frames and filling": frame check).
use Rattle.std.specs.Prelude.{Result}
use Rattle.std.specs.Prelude.{ℕ, ◌*◌, cond, List, [], ◌∷◌, ◌++◌, eqb, ltb, ℤ}
use Rattle.std.specs.Prelude.{Option, None, Some}
use Rattle.refusal.specs.declared.Refusal.{Refusal}
use Rattle.refusal.specs.declared.Refusal.TheVariants.{Erasure}
use Rattle.refusal.specs.Lowest.{Rule, refuse, lowest}
use Rattle.refusal.specs.Answer.{outcome}
use Rattle.refusal.specs.Place.{first_place, somewhere}
use Rattle.graph.specs.Count.{below}
use Rattle.graph.specs.Graph.{Bipartite}
use Rattle.graph.specs.Erasure.{parity}
use Rattle.exponent.specs.Tanner.{tanner}
use Rattle.syndrome.specs.Word.{is_erasure, word_rules}

-- 19: an erasure, with its first place, after 1 to 6, 16 and 18
unfoldable pub check_rules : List ℤ → ℕ → ℕ → ℕ → List ℕ → List Rule
check_rules plan rows cols lift word =
    word_rules plan rows cols lift word
    ++ refuse (Erasure (first_place is_erasure word)) (somewhere is_erasure word)
    ∷ []

-- the lowest check that is odd, or the number of checks
unfoldable pub lowest_odd : Bipartite → List ℕ → ℕ
lowest_odd G word = first_place (λ c. eqb (parity G word c) 1) (below G.checks)

-- the lowest odd check, if there is one: c, unless it is the number of checks
abbrev pub found : ℕ → ℕ → Option ℕ
found checks c = cond (ltb c checks) (Some c) None

-- what the call answers
unfoldable pub syndrome_of : List ℤ → ℕ → ℕ → ℕ → List ℕ → Result (Option ℕ) Refusal
syndrome_of plan rows cols lift word =
    outcome (lowest (check_rules plan rows cols lift word)) (found (rows * lift) (lowest_odd (tanner plan rows cols lift) word))
