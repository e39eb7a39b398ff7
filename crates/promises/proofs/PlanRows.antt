-- Rows 1 to 6 and 14, the plan designer's: the tests of `validate` and of the girth test say what the rows say. Assumes nothing.
use Prim.Native.Nat.{ℕ, zero, suc, ◌*◌}
use mathlib.Core.Path.{◌≡◌, refl, sym, ap, ◌∙◌}
use mathlib.Core.Logic.{◌↔◌, ◌⊎◌, inl, inr, ◌≢◌}
use mathlib.Core.Bool.{Bool, true, false, not, ◌&&◌, ◌||◌}
use mathlib.Core.List.{List, [], ◌∷◌}
use borrow.Author.Tests.{ltb-true, lt-ltb, eqb-false, ne_eqb, not-true}
use lib.Dec.{ltb, eqb}
use lib.IntN.{ℤ, pos, negsuc}
use lib.ListN.{length, get_or}
use Rattle.refusal.specs.declared.Refusal.{Refusal}
use Rattle.refusal.specs.declared.Refusal.TheVariants.{Rows, Cols, Lift, Bits, PlanLength, Entry, Target}
use Rattle.refusal.specs.Lowest.{refuse, In}
use Rattle.refusal.specs.Place.{First, first_place, somewhere}
use Rattle.refusal.proofs.Place.{first_exactly}
use Rattle.graph.specs.Count.{member}
use Rattle.graph.proofs.Decide.{both_ways, or_either, neither}
use Rattle.exponent.specs.Plan.{invalid_entry}
use Rattle.exponent.specs.Limits.{outside, plan_rules}
use Rattle.exponent.proofs.Rules.{outside_exactly}
use Rattle.girth.specs.Test.{targets, allowed, test_rules}
use Rattle.promises.specs.TurnedAway.{row_3, BelowMinusOne, is_below, PlanRow, row_1, row_2, of_lift, row_4, row_5, row_6, TargetRow, row_14, ◌or◌}
use Rattle.promises.proofs.Matching.{Listed, RowOf, Matches, join, by_rule, no_rule, at_rule, further, one_rule}

-- two numbers that the test finds different
pub differs : (m n : ℕ) → (not (eqb m n) ≡ true) ↔ (m ≢ n)
differs m n = (λ e q. eqb-false m n (not-true (eqb m n) e) q, λ h. ap not (ne_eqb m n h))

-- either test holds, or not both do
pub either_exactly : (a b : Bool) {A B : Type 0} → ((a ≡ true) ↔ A) → ((b ≡ true) ↔ B) → ((a || b) ≡ true) ↔ (A ⊎ B)
either_exactly a b {A} {B} f g = (λ e. elim (or_either a b e) [ inl p ↦ inl (f.0 p) | inr q ↦ inr (g.0 q) ], to)
  where
    second : (a : Bool) → b ≡ true → (a || b) ≡ true
    second true e = refl
    second false e = e

    to : A ⊎ B → (a || b) ≡ true
    to (inl x) = rw (f.1 x)
    to (inr y) = second a (g.1 y)

pub unless_both : (a b : Bool) {A B : Type 0} → ((not a ≡ true) ↔ A) → ((not b ≡ true) ↔ B) → (not (a && b) ≡ true) ↔ (A ⊎ B)
unless_both a b f g =
    let (told, found) = either_exactly (not a) (not b) f g in
    let same = turned a b in
    (λ e. told (sym same ∙ e), λ h. same ∙ found h)
  where
    turned : (a b : Bool) → not (a && b) ≡ (not a || not b)
    turned true b = refl
    turned false b = refl

-- an entry is found invalid exactly where it is below −1, whatever the lift
pub invalid_exactly : (lift : ℕ) (z : ℤ) → (invalid_entry lift z ≡ true) ↔ BelowMinusOne z
invalid_exactly lift z = (is_invalid_law z, found)
  where
    is_invalid_law : (z : ℤ) → invalid_entry lift z ≡ true → BelowMinusOne z
    is_invalid_law (pos n) e = both_ways e refl
    is_invalid_law (negsuc zero) e = both_ways e refl
    is_invalid_law (negsuc (suc n)) e = is_below n

    found : {z : ℤ} → BelowMinusOne z → invalid_entry lift z ≡ true
    found (is_below n) = refl

-- 1 TO 6
module _ (plan : List ℤ) (rows cols lift : ℕ) where
  first_invalid : (place : ℕ) → ((somewhere (invalid_entry lift) plan ≡ true) × (first_place (invalid_entry lift) plan ≡ place))
      ↔ First (length plan) (λ p. BelowMinusOne (get_or plan p (pos 0))) place
  first_invalid place = first_exactly (invalid_entry lift) (pos 0) BelowMinusOne (invalid_exactly lift) plan place

  abbrev Row : Refusal → Type 0
  Row = RowOf (PlanRow plan rows cols lift)

  listed : (s : Refusal) → In (refuse s true) (plan_rules plan rows cols lift) → Row s
  unfolding plan_rules
  listed s i =
      by_rule Row Rows (outside 1 192 rows) _ s i (λ e. row_1 ((outside_exactly 1 192 rows).0 e)) λ i.
      by_rule Row Cols (outside 1 512 cols) _ s i (λ e. row_2 ((outside_exactly 1 512 cols).0 e)) λ i.
      by_rule Row Lift (outside 1 4096 lift) _ s i (λ e. of_lift 3 [] (row_3 ((outside_exactly 1 4096 lift).0 e))) λ i.
      by_rule Row Bits (ltb 65536 (cols * lift)) _ s i (λ e. row_4 (ltb-true 65536 (cols * lift) e)) λ i.
      by_rule Row PlanLength (not (eqb (length plan) (rows * cols))) _ s i (λ e. row_5 ((differs (length plan) (rows * cols)).0 e)) λ i.
      by_rule Row (Entry (first_place (invalid_entry lift) plan)) (somewhere (invalid_entry lift) plan) [] s i (λ e. row_6 _ ((first_invalid _).0 (e, refl))) λ i.
      no_rule Row s i

  applies : (n : ℕ) (l : List ℕ) → PlanRow plan rows cols lift n l → Listed (plan_rules plan rows cols lift) n l
  unfolding plan_rules
  applies n l (row_1 h) = at_rule _ _ refl refl ((outside_exactly 1 192 rows).1 h)
  applies n l (row_2 h) = further (at_rule _ _ refl refl ((outside_exactly 1 512 cols).1 h))
  applies n l (of_lift m k (row_3 h)) = further (further (at_rule _ _ refl refl ((outside_exactly 1 4096 lift).1 h)))
  applies n l (row_4 h) = further (further (further (at_rule _ _ refl refl (lt-ltb 65536 (cols * lift) h))))
  applies n l (row_5 h) = further (further (further (further (at_rule _ _ refl refl ((differs (length plan) (rows * cols)).1 h)))))
  applies n l (row_6 place h) =
      let (t, e) = (first_invalid place).1 h in
      further (further (further (further (further (at_rule _ _ refl (ap (◌∷ []) e) t)))))

  pub plan_matches : Matches (plan_rules plan rows cols lift) (PlanRow plan rows cols lift)
  plan_matches = record { listed = λ s i. inl (listed s i); applies = applies }

-- 14
abbrev NoTarget : ℕ → Type 0
NoTarget t = (t ≢ 6) × (t ≢ 8) × (t ≢ 10) × (t ≢ 12) × (t ≢ 14) × (t ≢ 16) × (t ≢ 18)

target_exactly : (target : ℕ) → (not (allowed target) ≡ true) ↔ NoTarget target
unfolding allowed member
target_exactly t = (
  λ e. none_of (not-true _ e),
  λ (p, q, r, s, u, v, w). rw (ne_eqb t 6 p, ne_eqb t 8 q, ne_eqb t 10 r, ne_eqb t 12 s, ne_eqb t 14 u, ne_eqb t 16 v, ne_eqb t 18 w),
)
  where
    none_of : member t targets ≡ false → NoTarget t
    none_of e =
        let (p, e) = neither (eqb t 6) _ e in
        let (q, e) = neither (eqb t 8) _ e in
        let (r, e) = neither (eqb t 10) _ e in
        let (s, e) = neither (eqb t 12) _ e in
        let (u, e) = neither (eqb t 14) _ e in
        let (v, e) = neither (eqb t 16) _ e in
        (eqb-false t 6 p, eqb-false t 8 q, eqb-false t 10 r, eqb-false t 12 s, eqb-false t 14 u, eqb-false t 16 v, eqb-false t 18 (neither (eqb t 18) false e).0)

pub test_matches : (plan : List ℤ) (rows cols lift target : ℕ) → Matches (test_rules plan rows cols lift target) (PlanRow plan rows cols lift or TargetRow target)
unfolding test_rules
test_matches plan rows cols lift target =
    join (plan_rules plan rows cols lift) _ (PlanRow plan rows cols lift) (TargetRow target) (plan_matches plan rows cols lift)
    (one_rule Target (not (allowed target)) (TargetRow target) told row)
  where
    told : not (allowed target) ≡ true → TargetRow target 14 []
    told e = let (p, q, r, s, u, v, w) = (target_exactly target).0 e in row_14 p q r s u v w

    row : (n : ℕ) (l : List ℕ) → TargetRow target n l → Listed (refuse Target (not (allowed target)) ∷ []) n l
    row n l (row_14 p q r s u v w) = at_rule _ _ refl refl ((target_exactly target).1 (p, q, r, s, u, v, w))
