-- Slip 4 of a join: plans with the same remainders, joined with another plan, give the same answer and the same plan. Assumes nothing.
use Prim.Native.Nat.{ℕ, ◌*◌}
use Rattle.refusal.specs.Answer.{outcome}
use mathlib.Core.Path.{◌≡◌, refl}
use mathlib.Core.Bool.{not, ◌||◌, beq}
use mathlib.Core.List.{List, map}
use lib.Dec.{eqb}
use lib.IntN.{ℤ}
use lib.ListN.{length}
use Rattle.refusal.specs.Lent.{lent}
use Rattle.graph.specs.Count.{below}
use Rattle.graph.specs.Erasure.{any}
use Rattle.exponent.specs.Plan.{entry_at, filled}
use Rattle.exponent.specs.Remainders.{SameRemainders}
use Rattle.exponent.proofs.Remainders.{same_length, same_entry, same_rules_at}
use Rattle.crt.specs.Join.{joined_entry, joined_plan, Sized, sized, both_refusal, differ, join_rules, join_refusal}
use Rattle.promises.specs.Remainders.{SameJoin}

-- the same refusal and the same plan make the same join
same_join : (a b c d : Sized) (place : List ℤ) → a.lift ≡ c.lift → b.lift ≡ d.lift → join_refusal a b (length place) ≡ join_refusal c d (length place)
    → joined_plan a.plan a.lift b.plan b.lift ≡ joined_plan c.plan c.lift d.plan d.lift → SameJoin a b c d place
same_join a b c d place p q e f =
    record {
      answer = λ k. outcome (e k) (p k * q k);
      joined = λ k. lent (e k) (f k) place;
    }

-- what goes into a join, by a list's length, its entries and its refusals of 1 to 6
module _ (lift : ℕ) {p q : List ℤ} (same : SameRemainders lift p q) (rows cols : ℕ) where
  module _ (b : Sized) where
    first_plan : joined_plan p lift b.plan b.lift ≡ joined_plan q lift b.plan b.lift
    unfolding joined_plan
    first_plan = λ k. map (λ place. joined_entry lift b.lift (same_entry lift same place k) (entry_at b.plan b.lift place)) (below (same_length lift same k))

    first_differ : differ (sized p rows cols lift) b ≡ differ (sized q rows cols lift) b
    unfolding differ
    first_differ =
        λ k.
        not (eqb rows b.rows)
        || (not (eqb cols b.cols) || any (same_length lift same k) (λ place. not (beq (filled (same_entry lift same place k)) (filled (entry_at b.plan b.lift place)))))

    first_refusal : (room : ℕ) → join_refusal (sized p rows cols lift) b room ≡ join_refusal (sized q rows cols lift) b room
    unfolding join_refusal both_refusal join_rules
    first_refusal room = rw (same_rules_at lift same rows cols lift, same_rules_at lift same rows cols (lift * b.lift), first_differ, same_length lift same)

    pub first_alike : (place : List ℤ) → SameJoin (sized p rows cols lift) b (sized q rows cols lift) b place
    first_alike place = same_join _ _ _ _ place refl refl (first_refusal (length place)) first_plan

  module _ (a : Sized) where
    second_plan : joined_plan a.plan a.lift p lift ≡ joined_plan a.plan a.lift q lift
    unfolding joined_plan
    second_plan = λ k. map (λ place. joined_entry a.lift lift (entry_at a.plan a.lift place) (same_entry lift same place k)) (below (length a.plan))

    second_differ : differ a (sized p rows cols lift) ≡ differ a (sized q rows cols lift)
    unfolding differ
    second_differ =
        λ k.
        not (eqb a.rows rows)
        || (not (eqb a.cols cols) || any (length a.plan) (λ place. not (beq (filled (entry_at a.plan a.lift place)) (filled (same_entry lift same place k)))))

    second_refusal : (room : ℕ) → join_refusal a (sized p rows cols lift) room ≡ join_refusal a (sized q rows cols lift) room
    unfolding join_refusal both_refusal join_rules
    second_refusal room = rw (same_rules_at lift same rows cols lift, second_differ, same_length lift same)

    pub second_alike : (place : List ℤ) → SameJoin a (sized p rows cols lift) a (sized q rows cols lift) place
    second_alike place = same_join _ _ _ _ place refl refl (second_refusal (length place)) second_plan
