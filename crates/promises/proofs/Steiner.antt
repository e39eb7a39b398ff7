-- The supplied triples and the plans built from them are what slip 6 says. Assumes nothing.
use Rattle.std.specs.Prelude.{Ok}
use Rattle.refusal.specs.Answer.{outcome}
use Rattle.exponent.specs.declared.Shape.{Shape}
use Prim.Native.Nat.{ℕ}
use mathlib.Core.Path.{subst, ◌≡◌, refl}
use mathlib.Core.List.{List}
use Rattle.std.specs.Prelude.{Option, None, Some}
use native.Mathlib.Omega.{arith}
use lib.IntN.{ℤ}
use Rattle.refusal.specs.declared.Refusal.{Refusal}
use Rattle.refusal.specs.Lowest.{lowest}
use Rattle.graph.specs.Count.{member}
use Rattle.girth.specs.Test.{allowed}
use Rattle.girth.proofs.Rules.{not_refused as test_accepted}
use Rattle.refusal.specs.Lent.{lent}
use Rattle.weights.specs.declared.Room.{Room}
use Rattle.weights.specs.Weights.{with_weights, room_of}
use Rattle.steiner.specs.System as system
use Rattle.steiner.specs.Build.{build_rules, build_refusal, built_shape, steiner_plan}
use Rattle.steiner.proofs.Listed.{the_list}
use Rattle.steiner.proofs.Pairs.{pairs_once}
use Rattle.steiner.proofs.Plans.{built_plan_law}
use Rattle.promises.specs.Three.{at_6}
use Rattle.promises.specs.Steiner.{SteinerPlan, SteinerPlans, SteinerTriples}
use Rattle.promises.proofs.Two.{verdict}
use Rattle.promises.proofs.Three.{recovered}

pub steiner_plan_law : (order lift : ℕ) (voltages : List ℤ) (room : Room) → lowest (build_rules order lift voltages room) ≡ None
    → SteinerPlan order lift voltages (steiner_plan order lift voltages) order (system.cols order)
unfolding allowed member
steiner_plan_law order lift voltages room e =
    let h = built_plan_law order lift voltages room e in
    record {
      points_are_rows = refl;
      triples_are_columns = refl;
      holds = h;
      passing = λ r a. (verdict _ _ _ lift 6 a).passed.1 (test_accepted _ _ _ lift 6 h.accepted_by_1_to_6 refl, h.passes);
      three_lost = λ f f' code loses. recovered _ _ _ lift 6 3 at_6 h.well_formed h.passes h.three_blocks f f' code loses;
    }

steiner_plans : SteinerPlans
steiner_plans order lift voltages h s = go (build_refusal order lift voltages h) refl
  where
    go : (o : Option Refusal) → build_refusal order lift voltages h ≡ o → outcome o (built_shape order lift) ≡ Ok s
        → SteinerPlan order lift voltages (lent o (with_weights (steiner_plan order lift voltages) (built_shape order lift)) h).plan s.rows s.cols
    go None q e =
        let same : built_shape order lift ≡ s = cc in
        subst (λ (s : Shape). SteinerPlan order lift voltages (steiner_plan order lift voltages) s.rows s.cols) same (steiner_plan_law order lift voltages (room_of h) q)
    go (Some x) q e = absurd (let z : ◌≡◌ {A = ℕ} 0 1 = cc in omega arith)

pub steiner_triples : SteinerTriples
steiner_triples = record { the_list = the_list; pairs = pairs_once; plans = steiner_plans }
