-- Document 02, slip 6: Steiner triple plans. The supplied list, and every plan that the builder builds.
use Rattle.std.specs.Prelude.{ℕ, ◌≡◌, List, ℤ, Ok}
use Rattle.refusal.specs.Answer.{outcome}
use Rattle.exponent.specs.declared.Shape.{Shape}
use Rattle.graph.specs.Erasure.{Codeword}
use Rattle.exponent.specs.Tanner.{tanner}
use Rattle.weights.specs.Weights.{Held}
use Rattle.steiner.specs.System as system
use Rattle.steiner.specs.Listed.{Listed, PairsOnce}
use Rattle.steiner.specs.Build.{build_refusal, after_build, built_shape}
use Rattle.steiner.specs.Plans.{TriplePlan}
use Rattle.promises.specs.Two.{Passing}
use Rattle.promises.specs.Three.{Loses, Recovered}

-- a built plan: its sizes, what it holds, that the girth test passes it at 6, and that so three lost bits come back
pub record SteinerPlan (order lift : ℕ) (voltages plan : List ℤ) (rows cols : ℕ) : Type 0 where
  pub points_are_rows : rows ≡ order
  pub triples_are_columns : cols ≡ system.cols order
  pub holds : TriplePlan order lift voltages plan
  pub passing : Passing plan rows cols lift 6
  pub three_lost : (f f' : List ℕ) → Codeword (tanner plan rows cols lift) f → Loses f f' 3 → Recovered plan rows cols lift f f'

-- wherever the builder answers that it built, of what its lent place then holds
abbrev pub SteinerPlans : Type 0
SteinerPlans =
    (order lift : ℕ) (voltages : List ℤ) (h : Held) (s : Shape)
    → outcome (build_refusal order lift voltages h) (built_shape order lift) ≡ Ok s
    → SteinerPlan order lift voltages (after_build order lift voltages h).plan s.rows s.cols

-- which triples the list has, that they cover each pair of points once, and what is built from them
pub record SteinerTriples : Type 0 where
  pub the_list : Listed
  pub pairs : PairsOnce
  pub plans : SteinerPlans
