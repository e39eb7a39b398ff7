-- Lists of changes: from a plan with its true lists both lists stay true, and no other entry or weight moves. Assumes nothing.
use Prim.Native.Nat.{ℕ, zero, suc, ◌+◌, ◌*◌}
use mathlib.Core.Path.{◌≡◌, refl, sym, ap, subst, ◌∙◌}
use mathlib.Core.Logic.{◌≢◌}
use mathlib.Core.List.{List, [], ◌∷◌}
use Rattle.std.specs.Prelude.{Option, None, Some}
use lib.IntN.{ℤ, pos, negsuc}
use lib.ListN.{length, get_or}
use lib.Seq.{get_or-set_other}
use Rattle.refusal.specs.declared.Refusal.{Refusal}
use Rattle.refusal.specs.declared.Refusal.TheVariants.{Weights}
use Rattle.graph.specs.Count.{below, count}
use Rattle.graph.proofs.Count.{count_same}
use Rattle.exponent.specs.declared.Shape.{Shape}
use Rattle.exponent.specs.Plan.{block_of, invalid_entry, entry_at, block_at, filled}
use Rattle.weights.specs.declared.Side.{Side}
use Rattle.weights.specs.declared.Side.TheVariants.{Bits, Checks}
use Rattle.weights.specs.Weights.{blocks, filled_on, weight_of, weights_of, Held, with_weights, Weighed}
use Rattle.weights.specs.Change.{Accepted, Call, refusal_of, new_plan, after}
use Rattle.weights.specs.Changes.{after_all, Counted, OnlyThere}
use Rattle.weights.proofs.Weights.{weight_count, length_weights, weights_at, weights_by, right_exactly}
use Rattle.weights.proofs.Stored.{lane_of, stored_length, stored_other, stored_well, weights_stored}
use Rattle.weights.proofs.Rules.{accepted, not_weights}

-- ANY LIFT: whether an entry is a filled block, or invalid, does not depend on it
filled_any : (l m : ℕ) (z : ℤ) → filled (block_of l z) ≡ filled (block_of m z)
filled_any l m (pos e) = refl
filled_any l m (negsuc zero) = refl
filled_any l m (negsuc (suc n)) = refl

invalid_any : (l m : ℕ) (z : ℤ) → invalid_entry l z ≡ invalid_entry m z
invalid_any l m (pos e) = refl
invalid_any l m (negsuc zero) = refl
invalid_any l m (negsuc (suc n)) = refl

module _ (plan : List ℤ) (rows cols l m : ℕ) where
  abbrev S : ℕ → Shape
  S lift = record { rows = rows; cols = cols; lift = lift }

  block_any : (side : Side) (lane k : ℕ) → filled_on plan (S l) side lane k ≡ filled_on plan (S m) side lane k
  unfolding block_at entry_at
  block_any Bits lane k = filled_any l m (get_or plan (k * cols + lane) (pos 0))
  block_any Checks lane k = filled_any l m (get_or plan (lane * cols + k) (pos 0))

  lane_any : (side : Side) (lane : ℕ) → weight_of plan (S l) side lane ≡ weight_of plan (S m) side lane
  lane_any side lane =
      weight_count plan (S l) side lane
      ∙ count_same (filled_on plan (S l) side lane) (filled_on plan (S m) side lane) (below (blocks (S l) side)) (λ k i. block_any side lane k)
      ∙ by side
    where
      by : (side : Side) → count (filled_on plan (S m) side lane) (below (blocks (S l) side)) ≡ weight_of plan (S m) side lane
      by Bits = sym (weight_count plan (S m) Bits lane)
      by Checks = sym (weight_count plan (S m) Checks lane)

  weights_any : (side : Side) → weights_of plan (S l) side ≡ weights_of plan (S m) side
  weights_any Bits = weights_by plan (S m) Bits (weights_of plan (S l) Bits) (length_weights plan (S l) Bits) (λ i h. weights_at plan (S l) Bits i h ∙ lane_any Bits i)
  weights_any Checks = weights_by plan (S m) Checks (weights_of plan (S l) Checks) (length_weights plan (S l) Checks) (λ i h. weights_at plan (S l) Checks i h ∙ lane_any Checks i)

-- shapes with as many rows and columns have the same weights
weights_same : (plan : List ℤ) (s t : Shape) → s.rows ≡ t.rows → s.cols ≡ t.cols → (side : Side) → weights_of plan s side ≡ weights_of plan t side
weights_same plan s t p q side =
    weights_any plan s.rows s.cols s.lift t.lift side
    ∙ ap (λ (u : Shape). weights_of plan u side) (λ i. record { rows = p i; cols = q i; lift = t.lift })

-- ONE CALL: what it leaves where it is taken, and where it is refused
module _ (c : Call) (h : Held) where
  pub taken : refusal_of c h ≡ None → after c h ≡ with_weights (new_plan c h) c.shape
  unfolding after
  taken e = rw e

  pub stays : (r : Refusal) → refusal_of c h ≡ Some r → after c h ≡ h
  unfolding after
  stays r e = rw e

  pub was_accepted : refusal_of c h ≡ None → Accepted h.plan c.shape c.at c.entry h.rows h.cols
  unfolding refusal_of
  was_accepted e = (accepted h.plan c.shape c.at c.entry h.rows h.cols).0 e

  by_refusal : (P : Held → Type 0) → (refusal_of c h ≡ None → P (with_weights (new_plan c h) c.shape)) → P h → P (after c h)
  by_refusal P f g = step (refusal_of c h) refl
    where
      step : (o : Option Refusal) → refusal_of c h ≡ o → P (after c h)
      step None e = subst P (sym (taken e)) (f e)
      step (Some r) e = subst P (sym (stays r e)) g

  -- nothing else moves, whatever is lent
  pub only_there : OnlyThere c h (after c h)
  only_there =
      by_refusal (OnlyThere c h)
      (λ e.
      let a = was_accepted e in
      let weight : (side : Side) (l : List ℕ) → l ≡ weights_of h.plan c.shape side → (lane : ℕ) → lane ≢ lane_of c.at side
      → get_or (weights_of (new_plan c h) c.shape side) lane 0 ≡ get_or l lane 0 =
      λ side l q lane apart.
      ap (λ (m : List ℕ). get_or m lane 0) (sym (weights_stored h.plan c.shape c.at c.entry a.well a.row_in a.col_in side))
      ∙ get_or-set_other (weights_of h.plan c.shape side) (lane_of c.at side) lane _ 0 apart
      ∙ ap (λ (m : List ℕ). get_or m lane 0) (sym q) in
      let long : (side : Side) (l : List ℕ) → l ≡ weights_of h.plan c.shape side → length (weights_of (new_plan c h) c.shape side) ≡ length l =
      λ side l q. length_weights (new_plan c h) c.shape side ∙ sym (ap length q ∙ length_weights h.plan c.shape side) in
      record {
        as_long = (
          stored_length h.plan c.shape c.at c.entry a.well a.row_in a.col_in,
          long Checks h.rows a.weighed.rows_right,
          long Bits h.cols a.weighed.cols_right,
        );
        entries = stored_other h.plan c.shape c.at c.entry a.well a.row_in a.col_in;
        rows = weight Checks h.rows a.weighed.rows_right;
        cols = weight Bits h.cols a.weighed.cols_right;
      })
      (record { as_long = (refl, refl, refl); entries = λ place apart. refl; rows = λ row apart. refl; cols = λ col apart. refl })

  module _ (s : Shape) (true-before : Counted s h) where
    -- a call that is taken names the plan's rows and columns: the lists tell them
    same_rows : refusal_of c h ≡ None → c.shape.rows ≡ s.rows
    same_rows e = sym (length_weights h.plan c.shape Checks) ∙ ap length (sym (was_accepted e).weighed.rows_right ∙ true-before.weighed.rows_right) ∙ length_weights h.plan s Checks

    same_cols : refusal_of c h ≡ None → c.shape.cols ≡ s.cols
    same_cols e = sym (length_weights h.plan c.shape Bits) ∙ ap length (sym (was_accepted e).weighed.cols_right ∙ true-before.weighed.cols_right) ∙ length_weights h.plan s Bits

    -- the lists stay true
    pub stays_true : Counted s (after c h)
    stays_true =
        by_refusal (Counted s)
        (λ e.
        let a = was_accepted e in
        let w = stored_well h.plan c.shape c.at c.entry a.well a.row_in a.col_in a.valid in
        let v = true-before.well in
        record {
          well =
              record {
                some_rows = v.some_rows;
                few_rows = v.few_rows;
                some_cols = v.some_cols;
                few_cols = v.few_cols;
                some_lift = v.some_lift;
                small_lift = v.small_lift;
                few_bits = v.few_bits;
                whole = stored_length h.plan c.shape c.at c.entry a.well a.row_in a.col_in ∙ v.whole;
                entries = λ place i. invalid_any s.lift c.shape.lift (get_or (new_plan c h) place (pos 0)) ∙ w.entries place i;
              };
          weighed =
              record {
                rows_right = weights_same (new_plan c h) c.shape s (same_rows e) (same_cols e) Checks;
                cols_right = weights_same (new_plan c h) c.shape s (same_rows e) (same_cols e) Bits;
              };
        })
        true-before

-- A LIST OF CALLS: the lists stay true
pub all_true : (calls : List Call) (s : Shape) (h : Held) → Counted s h → Counted s (after_all calls h)
unfolding after_all
all_true [] s h t = t
all_true (c ∷ calls) s h t = all_true calls s (after c h) (stays_true c h s t)

-- so both lists are right at whatever lift, and 25 never falls on a further change
pub still_weighed : (s : Shape) (h : Held) → Counted s h → (t : Shape) → t.rows ≡ s.rows → t.cols ≡ s.cols → Weighed h.plan t h.rows h.cols
still_weighed s h c t p q =
    let same = weights_same h.plan s t (sym p) (sym q) in
    record { rows_right = c.weighed.rows_right ∙ same Checks; cols_right = c.weighed.cols_right ∙ same Bits }

pub never_25 : (s : Shape) (h : Held) → Counted s h → (c : Call) → c.shape.rows ≡ s.rows → c.shape.cols ≡ s.cols → refusal_of c h ≢ Some Weights
unfolding refusal_of
never_25 s h t c p q e =
    let found = (right_exactly h.plan c.shape h.rows h.cols).1 (still_weighed s h t c.shape p q) in
    not_weights h.plan c.shape c.at c.entry h.rows h.cols found e
