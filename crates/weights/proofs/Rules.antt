-- Laws of the refusals of `change`: their numbers rise, what the plan's own refusals say comes first, and none applies exactly where
-- the call is accepted. Assumes nothing.
use Prim.Native.Nat.{ℕ, suc, ◌+◌, ◌≤◌, ◌<◌}
use mathlib.Core.Path.{◌≡◌, refl, sym, ap, ◌∙◌}
use mathlib.Core.Logic.{◌↔◌, ◌⊎◌, inl, inr}
use mathlib.Core.Bool.{Bool, true, false, not, ◌&&◌}
use mathlib.Core.List.{List, [], ◌∷◌, ◌++◌}
use Rattle.std.specs.Prelude.{Option, None, Some}
use Rattle.std.proofs.lemmas.Option.{none-some}
use native.Mathlib.Omega.{arith}
use borrow.Author.Tests.{ltb-true, lt-ltb, le-ltb, not-false}
use lib.Dec.{ltb}
use lib.IntN.{ℤ}
use lib.ListN.{length, length-append}
use Rattle.refusal.specs.declared.Refusal.{Refusal}
use Rattle.refusal.specs.declared.Refusal.TheVariants.{Entry, BlockPlace, Weights}
use Rattle.refusal.specs.Lowest.{Rule, lowest, rising}
use Rattle.refusal.specs.Place.{first_place, somewhere}
use Rattle.refusal.proofs.Lowest.{lowest_here, lowest_next, lowest_accepted, lowest_refused, none_append, none_holds, not_after}
use Rattle.graph.proofs.Decide.{both_ways, by_bool, by_le, and_left, and_right, and_both}
use Rattle.exponent.specs.declared.Shape.{Shape}
use Rattle.exponent.specs.Plan.{invalid_entry}
use Rattle.exponent.specs.Limits.{size_rules, entry_rules, plan_rules, WellFormed}
use Rattle.exponent.proofs.Rules as plan_laws
use Rattle.weights.specs.declared.change.At.{At}
use Rattle.weights.specs.Weights.{right, weight_rules}
use Rattle.weights.specs.Change.{block_rules, own_rules, change_rules, Accepted}
use Rattle.weights.proofs.Weights.{right_exactly, lists_right}

-- THE FIRST PLACE in a list with one more at its end
module _ {A : Type 0} (test : A → Bool) (x : A) where
  pub first_found : (l : List A) → first_place test l < length l → first_place test (l ++ x ∷ []) ≡ first_place test l
  unfolding first_place
  first_found [] h = absurd (omega arith)
  first_found (y ∷ l) h = by_bool (test y) (λ e. rw e) (λ e. rw e (ap suc (first_found l (let z = rw e at h in omega arith))))

  first_new : (l : List A) → length l ≤ first_place test l → first_place test (l ++ x ∷ []) ≡ length l + first_place test (x ∷ [])
  unfolding first_place
  first_new [] h = omega arith
  first_new (y ∷ l) h =
      by_bool (test y)
      (λ e. absurd (let z = rw e at h in omega arith))
      (λ e. rw e (omega (arith, first_new l (let z = rw e at h in omega arith))))

  more : (l : List A) → length (l ++ x ∷ []) ≡ suc (length l)
  more l = length-append l (x ∷ []) ∙ omega arith

  -- found in the list, or only at its end, or nowhere
  pub found : (l : List A) → somewhere test l ≡ true → somewhere test (l ++ x ∷ []) ≡ true
  found l e =
      let h = ltb-true (first_place test l) (length l) e in
      lt-ltb (first_place test (l ++ x ∷ [])) (length (l ++ x ∷ [])) (omega (arith, first_found l h, more l))

  pub at_end : (l : List A) → somewhere test l ≡ false → test x ≡ true → (first_place test (l ++ x ∷ []) ≡ length l) × (somewhere test (l ++ x ∷ []) ≡ true)
  unfolding first_place
  at_end l e t =
      by_le (length l) (first_place test l)
      (λ h. let p : first_place test (l ++ x ∷ []) ≡ length l = first_new l h ∙ rw t (omega arith) in (p, lt-ltb (first_place test (l ++ x ∷ [])) (length (l ++ x ∷ [])) (omega (arith, p, more l))))
      (λ h. both_ways (lt-ltb _ _ h) e)

  pub nowhere : (l : List A) → somewhere test l ≡ false → test x ≡ false → somewhere test (l ++ x ∷ []) ≡ false
  unfolding first_place
  nowhere l e t =
      by_le (length l) (first_place test l)
      (λ h. let p : first_place test (l ++ x ∷ []) ≡ length l + 1 = first_new l h ∙ rw t refl in le-ltb (first_place test (l ++ x ∷ [])) (length (l ++ x ∷ [])) (omega (arith, p, more l)))
      (λ h. both_ways (lt-ltb _ _ h) e)

module _ (plan : List ℤ) (s : Shape) (at : At) (entry : ℤ) (rows cols : List ℕ) where
  pub change_rise : rising (change_rules plan s at entry rows cols) ≡ true
  unfolding change_rules
  change_rise = refl

  abbrev Sizes : List Rule
  Sizes = size_rules (length plan) s.rows s.cols s.lift

  abbrev Rest : List Rule
  Rest = own_rules plan s at entry rows cols

  -- the plan's own refusals first
  pub plan_refused : (r : Refusal) → lowest (plan_rules plan s.rows s.cols s.lift) ≡ Some r → lowest (change_rules plan s at entry rows cols) ≡ Some r
  unfolding plan_rules change_rules
  plan_refused r e = by (lowest Sizes) refl
    where
      own : somewhere (invalid_entry s.lift) plan ≡ true → Some (Entry (first_place (invalid_entry s.lift) plan)) ≡ Some r → lowest Rest ≡ Some r
      own t q =
          lowest_here _ _ _ (found (invalid_entry s.lift) entry plan t)
          ∙ ap (λ (p : ℕ). Some (Entry p)) (first_found (invalid_entry s.lift) entry plan (ltb-true _ _ t))
          ∙ q

      by : (o : Option Refusal) → lowest Sizes ≡ o → lowest (Sizes ++ Rest) ≡ Some r
      by (Some q) p = lowest_refused Sizes Rest q p ∙ sym (lowest_refused Sizes (entry_rules s.lift plan) q p) ∙ e
      by None p =
          let f = sym (lowest_accepted Sizes (entry_rules s.lift plan) p) ∙ e in
          lowest_accepted Sizes Rest p
          ∙ by_bool (somewhere (invalid_entry s.lift) plan)
          (λ t. own t (sym (lowest_here _ _ _ t) ∙ f))
          (λ t. absurd (none-some r (sym ((none_holds []).1 tt) ∙ sym (lowest_next _ _ [] t) ∙ f)))

  pub plan_accepted : lowest (plan_rules plan s.rows s.cols s.lift) ≡ None → lowest (change_rules plan s at entry rows cols) ≡ lowest Rest
  unfolding plan_rules change_rules
  plan_accepted e = lowest_accepted Sizes Rest ((none_append Sizes (entry_rules s.lift plan)).0 e).0

  module _ (w : WellFormed plan s.rows s.cols s.lift) where
    own_none : somewhere (invalid_entry s.lift) plan ≡ false
    unfolding plan_rules
    own_none = ((none_holds _).0 ((none_append Sizes _).0 ((plan_laws.accepted plan s.rows s.cols s.lift).1 w)).1).0

    -- then the new entry
    pub entry_refused : invalid_entry s.lift entry ≡ true → lowest Rest ≡ Some (Entry (length plan))
    entry_refused t =
        let (p, q) = at_end (invalid_entry s.lift) entry plan own_none t in
        lowest_here _ _ _ q ∙ ap (λ (p : ℕ). Some (Entry p)) p

    pub entry_accepted : invalid_entry s.lift entry ≡ false → lowest Rest ≡ lowest (block_rules s at ++ weight_rules plan s rows cols)
    entry_accepted t = lowest_next _ _ _ (nowhere (invalid_entry s.lift) entry plan own_none t)

  -- then the block's place, and the lists
  pub block_out : (s.rows ≤ at.row) ⊎ ((at.row < s.rows) × (s.cols ≤ at.col)) → lowest (block_rules s at ++ weight_rules plan s rows cols) ≡ Some BlockPlace
  block_out (inl h) = lowest_here _ _ _ (rw (le-ltb at.row s.rows h))
  block_out (inr (h, k)) = lowest_here _ _ _ (rw (lt-ltb at.row s.rows h, le-ltb at.col s.cols k))

  pub block_in : at.row < s.rows → at.col < s.cols → lowest (block_rules s at ++ weight_rules plan s rows cols) ≡ lowest (weight_rules plan s rows cols)
  block_in h k = lowest_next _ _ _ (rw (lt-ltb at.row s.rows h, lt-ltb at.col s.cols k))

  -- THE LAW: nothing applies exactly where the call is accepted
  pub accepted : (lowest (change_rules plan s at entry rows cols) ≡ None) ↔ Accepted plan s at entry rows cols
  accepted = (gives, takes)
    where
      own : (o : Option Refusal) → lowest (plan_rules plan s.rows s.cols s.lift) ≡ o → lowest (change_rules plan s at entry rows cols) ≡ None → o ≡ None
      own None p e = refl
      own (Some r) p e = absurd (none-some r (sym e ∙ plan_refused r p))

      gives : lowest (change_rules plan s at entry rows cols) ≡ None → Accepted plan s at entry rows cols
      gives e =
          let p : lowest (plan_rules plan s.rows s.cols s.lift) ≡ None = own _ refl e in
          let w = (plan_laws.accepted plan s.rows s.cols s.lift).0 p in
          let f : lowest Rest ≡ None = sym (plan_accepted p) ∙ e in
          by_bool (invalid_entry s.lift entry)
          (λ t. absurd (none-some (Entry (length plan)) (sym f ∙ entry_refused w t)))
          (λ t.
          let (b, (r, _)) = (none_holds (block_rules s at ++ weight_rules plan s rows cols)).0 (sym (entry_accepted w t) ∙ f) in
          let i = not-false (ltb at.row s.rows && ltb at.col s.cols) b in
          record {
            well = w;
            row_in = ltb-true _ _ (and_left (ltb at.row s.rows) (ltb at.col s.cols) i);
            col_in = ltb-true _ _ (and_right (ltb at.row s.rows) (ltb at.col s.cols) i);
            valid = t;
            weighed = (right_exactly plan s rows cols).0 (not-false (right plan s rows cols) r);
          })

      takes : Accepted plan s at entry rows cols → lowest (change_rules plan s at entry rows cols) ≡ None
      takes a =
          plan_accepted ((plan_laws.accepted plan s.rows s.cols s.lift).1 a.well)
          ∙ entry_accepted a.well a.valid
          ∙ (none_holds (block_rules s at ++ weight_rules plan s rows cols)).1 (
            ap not (and_both _ _ (lt-ltb _ _ a.row_in) (lt-ltb _ _ a.col_in)),
            (ap not ((right_exactly plan s rows cols).1 a.weighed), tt),
          )

  -- 25 falls only on lists that are found wrong: the refusals before it have lower numbers
  pub not_weights : right plan s rows cols ≡ true → lowest (change_rules plan s at entry rows cols) ≡ Some Weights → ⊥
  unfolding change_rules
  not_weights t e = not_after (Sizes ++ entry_rules s.lift (plan ++ entry ∷ []) ++ block_rules s at) (weight_rules plan s rows cols) Weights refl (lists_right plan s rows cols t) e
