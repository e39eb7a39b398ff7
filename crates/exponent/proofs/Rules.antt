-- Laws of refusals 1 to 6: their numbers rise, and none of them applies exactly where the plan is well formed.
-- Assumes nothing.
use Rattle.std.specs.Prelude.{Ok, Err}
use Rattle.refusal.specs.Answer.{ok_unless}
use Prim.Native.Nat.{ℕ, ◌*◌, ◌≤◌, ◌<◌}
use mathlib.Core.Path.{◌≡◌, refl, ap}
use mathlib.Core.Logic.{◌↔◌, ◌⊎◌, inl, inr}
use mathlib.Core.Bool.{true, false, not}
use mathlib.Core.List.{List}
use Rattle.std.specs.Prelude.{Option, None, Some}
use native.Mathlib.Omega.{arith}
use lib.Dec.{ltb}
use lib.IntN.{ℤ, pos}
use lib.ListN.{length}
use borrow.Author.Tests.{ltb-true, ltb-false, lt-ltb, le-ltb, eqb-true, eq-eqb, not-false}
use Rattle.refusal.specs.declared.Refusal.{Refusal}
use Rattle.refusal.specs.Lowest.{lowest, rising}
use Rattle.refusal.proofs.Lowest.{NoneHolds, none_holds}
use Rattle.refusal.proofs.Place.{somewhere_no, somewhere_none}
use Rattle.graph.proofs.Decide.{neither, by_bool}
use Rattle.exponent.specs.Plan.{invalid_entry}
use Rattle.exponent.specs.Limits.{outside, plan_rules, WellFormed}

-- computed, whatever the plan is
pub rules_rise : (plan : List ℤ) (rows cols lift : ℕ) → rising (plan_rules plan rows cols lift) ≡ true
unfolding plan_rules
rules_rise plan rows cols lift = refl

-- n is not outside of low to high exactly where it lies between them
pub inside : (low high n : ℕ) → (outside low high n ≡ false) ↔ ((low ≤ n) × (n ≤ high))
inside low high n = (
  λ e. let (p, q) = neither (ltb n low) (ltb high n) e in (ltb-false n low p, ltb-false high n q),
  λ h. rw (le-ltb n low h.0) (le-ltb high n h.1),
)

-- and outside exactly where it lies below or above
pub outside_exactly : (low high n : ℕ) → (outside low high n ≡ true) ↔ ((n < low) ⊎ (high < n))
outside_exactly low high n = (
  λ e. by_bool (ltb n low) (λ p. inl (ltb-true n low p)) (λ p. inr (ltb-true high n (rw p at e))),
  λ h. beyond h,
)
  where
    beyond : (n < low) ⊎ (high < n) → outside low high n ≡ true
    beyond (inl h) = rw (lt-ltb n low h)
    beyond (inr h) = by_bool (ltb n low) (λ p. rw p) (λ p. rw (p, lt-ltb high n h))

-- none of them applies exactly where the plan is well formed
pub accepted : (plan : List ℤ) (rows cols lift : ℕ) → (lowest (plan_rules plan rows cols lift) ≡ None) ↔ WellFormed plan rows cols lift
unfolding plan_rules
accepted plan rows cols lift = (λ e. well ((none_holds (plan_rules plan rows cols lift)).0 e), λ w. (none_holds (plan_rules plan rows cols lift)).1 (none_of w))
  where
    well : NoneHolds (plan_rules plan rows cols lift) → WellFormed plan rows cols lift
    well (r, (c, (l, (b, (w, (p, _)))))) =
        record {
          some_rows = ((inside 1 192 rows).0 r).0;
          few_rows = ((inside 1 192 rows).0 r).1;
          some_cols = ((inside 1 512 cols).0 c).0;
          few_cols = ((inside 1 512 cols).0 c).1;
          some_lift = ((inside 1 4096 lift).0 l).0;
          small_lift = ((inside 1 4096 lift).0 l).1;
          few_bits = ltb-false 65536 (cols * lift) b;
          whole = eqb-true (length plan) (rows * cols) (not-false _ w);
          entries = somewhere_no (invalid_entry lift) (pos 0) plan p;
        }

    none_of : WellFormed plan rows cols lift → NoneHolds (plan_rules plan rows cols lift)
    none_of w =
        let r = (inside 1 192 rows).1 (w.some_rows, w.few_rows) in
        let c = (inside 1 512 cols).1 (w.some_cols, w.few_cols) in
        let l = (inside 1 4096 lift).1 (w.some_lift, w.small_lift) in
        let b = le-ltb 65536 (cols * lift) w.few_bits in
        let q = ap not (eq-eqb (length plan) (rows * cols) w.whole) in
        let p = somewhere_none (invalid_entry lift) (pos 0) plan w.entries in
        (r, (c, (l, (b, (q, (p, tt))))))

-- what an answer of `validate` says of the refusals
pub valid_none : (o : Option Refusal) → ok_unless o ≡ Ok tt → o ≡ None
valid_none None e = refl
valid_none (Some r) e = absurd (let z : ◌≡◌ {A = ℕ} 0 1 = cc in omega arith)

pub refused_some : (o : Option Refusal) (r : Refusal) → ok_unless o ≡ Err r → o ≡ Some r
refused_some None r e = absurd (let z : ◌≡◌ {A = ℕ} 0 1 = cc in omega arith)
refused_some (Some s) r e = let q : s ≡ r = cc in ap Some q

-- a plan that is let through is well formed
pub formed : (plan : List ℤ) (rows cols lift : ℕ) → ok_unless (lowest (plan_rules plan rows cols lift)) ≡ Ok tt → WellFormed plan rows cols lift
formed plan rows cols lift e = (accepted plan rows cols lift).0 (valid_none _ e)
