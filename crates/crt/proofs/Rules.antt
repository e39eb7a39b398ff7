-- Laws of the refusals of a join: what they leave, and which of them is the lowest. Assumes nothing.
use Prim.Native.Nat.{ℕ, ◌*◌, ◌<◌}
use mathlib.Core.Path.{◌≡◌, refl, sym, ap₂, ◌∙◌}
use mathlib.Core.Logic.{◌≢◌}
use mathlib.Core.Bool.{Bool, true, false, not, ◌||◌, beq}
use mathlib.Core.List.{[]}
use Rattle.std.specs.Prelude.{None, Some}
use borrow.Author.Tests.{eqb-true, eq-eqb, ne_eqb, not-false}
use lib.Dec.{eqb}
use lib.ListN.{length}
use Rattle.refusal.specs.declared.Refusal.TheVariants.{SharedDivisor, PlansDiffer, JoinedPlace}
use Rattle.refusal.specs.Lowest.{lowest, rising}
use Rattle.refusal.proofs.Lowest.{lowest_here, lowest_next, none_holds, lower_none, or_else_none}
use Rattle.graph.specs.Erasure.{any}
use Rattle.graph.proofs.Decide.{neither}
use Rattle.graph.proofs.Peeling.{any_false}
use Rattle.exponent.specs.Plan.{entry_at, filled}
use Rattle.exponent.proofs.Rules.{accepted}
use Rattle.crt.specs.Remainders.{shared}
use Rattle.crt.specs.Join.{Sized, plan_refusal, at_product, both_refusal, differ, join_rules, join_refusal}
use Rattle.crt.specs.Work.{Both}

-- computed, whatever the plans are
pub rules_rise : (a b : Sized) (room : ℕ) → rising (join_rules a b room) ≡ true
unfolding join_rules
rules_rise a b room = refl

-- BOTH PLANS, and the joined size, may be used
pub both_formed : (a b : Sized) → both_refusal a b ≡ None → Both a b
unfolding both_refusal
both_formed a b e =
    let (p, r) = (lower_none _ (plan_refusal (at_product a b))).0 e in
    let (p, q) = (lower_none (plan_refusal a) (plan_refusal b)).0 p in
    record {
      one = (accepted a.plan a.rows a.cols a.lift).0 p;
      two = (accepted b.plan b.rows b.cols b.lift).0 q;
      product = (accepted a.plan a.rows a.cols (a.lift * b.lift)).0 r;
    }

-- 28. Plans that differ in rows, in columns alone, in neither;
module _ (a b : Sized) where
  abbrev others : Bool
  others = any (length a.plan) (λ place. not (beq (filled (entry_at a.plan a.lift place)) (filled (entry_at b.plan b.lift place))))

  pub rows_differ : a.rows ≢ b.rows → differ a b ≡ true
  unfolding differ
  rows_differ d = rw (ne_eqb a.rows b.rows d)

  pub cols_differ : a.rows ≡ b.rows → a.cols ≢ b.cols → differ a b ≡ true
  unfolding differ
  cols_differ e d = rw (eq-eqb a.rows b.rows e, ne_eqb a.cols b.cols d)

  pub blocks_differ : a.rows ≡ b.rows → a.cols ≡ b.cols
      → differ a b ≡ any (length a.plan) (λ place. not (beq (filled (entry_at a.plan a.lift place)) (filled (entry_at b.plan b.lift place))))
  unfolding differ
  blocks_differ e f = rw (eq-eqb a.rows b.rows e, eq-eqb a.cols b.cols f)

  -- plans that do not differ
  pub record Alike : Type 0 where
    pub same_rows : a.rows ≡ b.rows
    pub same_cols : a.cols ≡ b.cols
    pub same_blocks : (place : ℕ) → place < length a.plan → filled (entry_at a.plan a.lift place) ≡ filled (entry_at b.plan b.lift place)

  alike_blocks : (t u : Bool) → not (beq t u) ≡ false → t ≡ u
  alike_blocks true true e = refl
  alike_blocks true false e = e
  alike_blocks false true e = sym e
  alike_blocks false false e = refl

  pub alike : differ a b ≡ false → Alike
  unfolding differ
  alike e =
      let (p, r) = neither (not (eqb a.rows b.rows)) (not (eqb a.cols b.cols) || others) e in
      let (q, m) = neither (not (eqb a.cols b.cols)) others r in
      record {
        same_rows = eqb-true a.rows b.rows (not-false _ p);
        same_cols = eqb-true a.cols b.cols (not-false _ q);
        same_blocks = λ place h. alike_blocks _ _ (any_false (length a.plan) _ m place h);
      }

  -- plans that may be used and do not differ are of the same length
  pub same_lengths : Both a b → Alike → length a.plan ≡ length b.plan
  same_lengths both like = both.one.whole ∙ ap₂ (λ (m n : ℕ). m * n) like.same_rows like.same_cols ∙ sym both.two.whole

  -- 27 TO 29, one after the other
  module _ (room : ℕ) where
    pub refused_27 : shared a.lift b.lift ≡ true → lowest (join_rules a b room) ≡ Some SharedDivisor
    unfolding join_rules
    refused_27 e = lowest_here _ SharedDivisor _ e

    module _ (coprime : shared a.lift b.lift ≡ false) where
      pub refused_28 : differ a b ≡ true → lowest (join_rules a b room) ≡ Some PlansDiffer
      unfolding join_rules
      refused_28 e = lowest_next _ SharedDivisor _ coprime ∙ lowest_here _ PlansDiffer _ e

      module _ (same : differ a b ≡ false) where
        pub refused_29 : room ≢ length a.plan → lowest (join_rules a b room) ≡ Some JoinedPlace
        unfolding join_rules
        refused_29 d =
            lowest_next _ SharedDivisor _ coprime
            ∙ lowest_next _ PlansDiffer _ same
            ∙ lowest_here _ JoinedPlace [] (rw (ne_eqb room (length a.plan) d))

        pub none_refused : room ≡ length a.plan → length a.plan ≡ length b.plan → lowest (join_rules a b room) ≡ None
        unfolding join_rules lowest
        none_refused e f = rw (coprime, same, eq-eqb room (length a.plan) e, eq-eqb room (length b.plan) (e ∙ f))

  -- WHAT A JOIN KNOWS that is refused by nothing
  pub record Joinable (room : ℕ) : Type 0 where
    pub both : Both a b
    pub coprime : shared a.lift b.lift ≡ false
    pub like : Alike
    pub room_is : room ≡ length a.plan

  pub joinable : (room : ℕ) → join_refusal a b room ≡ None → Joinable room
  unfolding join_refusal join_rules
  joinable room e =
      let (p, q) = (or_else_none (both_refusal a b) (lowest (join_rules a b room))).0 e in
      let (coprime, (same, (place, _))) = (none_holds (join_rules a b room)).0 q in
      let (long, _) = neither (not (eqb room (length a.plan))) (not (eqb room (length b.plan))) place in
      record {
        both = both_formed a b p;
        coprime = coprime;
        like = alike same;
        room_is = eqb-true room (length a.plan) (not-false _ long);
      }
