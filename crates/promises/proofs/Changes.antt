-- Slip 7: after any list of changes from a built plan the weights are the counts. Assumes nothing.
use Rattle.std.specs.Prelude.{Ok}
use Rattle.refusal.specs.Answer.{outcome}
use Prim.Native.Nat.{ℕ}
use mathlib.Core.Path.{◌≡◌, refl, subst}
use mathlib.Core.List.{List}
use Rattle.std.specs.Prelude.{Option, None, Some}
use native.Mathlib.Omega.{arith}
use lib.IntN.{ℤ}
use Rattle.refusal.specs.declared.Refusal.{Refusal}
use Rattle.refusal.specs.Lent.{lent}
use Rattle.exponent.specs.declared.Shape.{Shape}
use Rattle.exponent.specs.Limits.{WellFormed}
use Rattle.weights.specs.Weights.{Held, with_weights, room_of}
use Rattle.weights.specs.Change.{Call}
use Rattle.weights.specs.Changes.{after_all}
use Rattle.weights.proofs.Changes.{all_true}
use Rattle.table.specs.Build.{build_refusal, built_plan, built_shape}
use Rattle.table.proofs.Plans.{built_is_good}
use Rattle.steiner.specs.Build as steiner
use Rattle.steiner.proofs.Plans.{built_plan_law}
use Rattle.promises.specs.Changes.{StillCounted, ChangesCounted}
use Rattle.promises.proofs.KeptCounts.{still}

-- from a well-formed plan with its own weights
from_built : (plan : List ℤ) (s : Shape) → WellFormed plan s.rows s.cols s.lift → (calls : List Call) → StillCounted s (after_all calls (with_weights plan s))
from_built plan s w calls =
    let h = with_weights plan s in
    still s (after_all calls h) (all_true calls s h (record { well = w; weighed = record { rows_right = refl; cols_right = refl } }))

-- by the refusal of the builder, of which there is none where it answers that it built
tables : (order lift : ℕ) (table : List ℤ) (mask : List ℕ) (h : Held) (s : Shape) (o : Option Refusal)
    → build_refusal order lift table mask h ≡ o → outcome o (built_shape order lift mask) ≡ Ok s
    → (calls : List Call) → StillCounted s (after_all calls (lent o (with_weights (built_plan order lift table mask) (built_shape order lift mask)) h))
tables order lift table mask h s None q e calls =
    let built = built_shape order lift mask in
    let same : built ≡ s = cc in
    let p = built_plan order lift table mask in
    subst (λ (s : Shape). StillCounted s (after_all calls (with_weights p built))) same
    (from_built p built (built_is_good order lift table mask (room_of h) q).is_well_formed calls)
tables order lift table mask h s (Some x) q e calls = absurd (let z : ◌≡◌ {A = ℕ} 0 1 = cc in omega arith)

triples : (order lift : ℕ) (voltages : List ℤ) (h : Held) (s : Shape) (o : Option Refusal)
    → steiner.build_refusal order lift voltages h ≡ o → outcome o (steiner.built_shape order lift) ≡ Ok s
    → (calls : List Call) → StillCounted s (after_all calls (lent o (with_weights (steiner.steiner_plan order lift voltages) (steiner.built_shape order lift)) h))
triples order lift voltages h s None q e calls =
    let built = steiner.built_shape order lift in
    let same : built ≡ s = cc in
    let p = steiner.steiner_plan order lift voltages in
    subst (λ (s : Shape). StillCounted s (after_all calls (with_weights p built))) same
    (from_built p built (built_plan_law order lift voltages (room_of h) q).well_formed calls)
triples order lift voltages h s (Some x) q e calls = absurd (let z : ◌≡◌ {A = ℕ} 0 1 = cc in omega arith)

pub changes_counted : ChangesCounted
changes_counted =
    record {
      tables = λ order lift table mask h s. tables order lift table mask h s _ refl;
      triples = λ order lift voltages h s. triples order lift voltages h s _ refl;
    }
