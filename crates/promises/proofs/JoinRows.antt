-- Rows 1 to 6 of two plans and of the joined size, and 27 to 29: the refusals of a join say what the rows say. Assumes nothing.
use Prim.Native.Nat.{ℕ, zero, suc, ◌≤◌, ◌<◌}
use mathlib.Core.Path.{◌≡◌, refl, sym, ◌∙◌}
use mathlib.Core.Logic.{◌↔◌, inl, inr}
use mathlib.Core.Bool.{true, false, not, beq}
use mathlib.Core.List.{List, []}
use native.Mathlib.Omega.{arith}
use lib.IntN.{ℤ, pos, negsuc}
use lib.ListN.{length, get_or}
use Rattle.refusal.specs.declared.Refusal.{Refusal}
use Rattle.refusal.specs.declared.Refusal.TheVariants.{SharedDivisor, PlansDiffer, JoinedPlace}
use Rattle.refusal.specs.Lowest.{refuse, In}
use Rattle.graph.proofs.Decide.{both_ways, by_eq}
use Rattle.graph.proofs.Peeling.{any_true, any_some}
use Rattle.exponent.specs.Plan.{block_of, invalid_entry, entry_at, filled}
use Rattle.exponent.proofs.Rules as plan_laws
use Rattle.crt.specs.Remainders.{shared}
use Rattle.crt.specs.Join.{Sized, plan_refusal, at_product, both_refusal, differ, join_rules, join_refusal}
use Rattle.crt.specs.Work.{Both}
use Rattle.crt.proofs.Units.{shared_exactly}
use Rattle.crt.proofs.Rules.{rules_rise, both_formed, rows_differ, cols_differ, blocks_differ}
use Rattle.promises.specs.TurnedAway.{PlanRow, row_1, row_2, of_lift, row_3, row_4, row_5, row_6, SizedRow, JoinRow, row_27, other_rows, other_cols, other_block, row_29, ◌or◌, ◌over◌, LowestOf}
use Rattle.promises.proofs.Matching.{Listed, RowOf, Matches, lowest_of, by_rule, no_rule, at_rule, further}
use Rattle.promises.proofs.Together.{lower_of, after_of}
use Rattle.promises.proofs.PlanRows.{differs, either_exactly, plan_matches}

-- one of two valid entries is −1 and the other is not
unlike_exactly : (P Q : ℕ) (y z : ℤ) → invalid_entry P y ≡ false → invalid_entry Q z ≡ false
    → (not (beq (filled (block_of P y)) (filled (block_of Q z))) ≡ true) ↔ ((y ≡ negsuc 0) ↔ (z ≡ negsuc 0) → ⊥)
unlike_exactly P Q (negsuc (suc m)) z v w = both_ways {t = true} refl v
unlike_exactly P Q (pos m) (negsuc (suc n)) v w = both_ways {t = true} refl w
unlike_exactly P Q (negsuc zero) (negsuc (suc n)) v w = both_ways {t = true} refl w
unlike_exactly P Q (pos m) (pos n) v w = (λ e. both_ways e refl, λ h. absurd (h (λ e. let r : ◌≡◌ {A = ℕ} 0 1 = cc in absurd (omega arith), λ e. let r : ◌≡◌ {A = ℕ} 0 1 = cc in absurd (omega arith))))
unlike_exactly P Q (pos m) (negsuc zero) v w = (λ _ h. let e = h.1 refl in let r : ◌≡◌ {A = ℕ} 0 1 = cc in omega arith, λ h. refl)
unlike_exactly P Q (negsuc zero) (pos n) v w = (λ _ h. let e = h.0 refl in let r : ◌≡◌ {A = ℕ} 0 1 = cc in omega arith, λ h. refl)
unlike_exactly P Q (negsuc zero) (negsuc zero) v w = (λ e. both_ways e refl, λ h. absurd (h (λ e. e, λ e. e)))

-- 27 TO 29, of plans that may be used
module _ (a b : Sized) (room : ℕ) (both : Both a b) where
  abbrev Row : Refusal → Type 0
  Row = RowOf (JoinRow a b room)

  module _ (r : a.rows ≡ b.rows) (c : a.cols ≡ b.cols) where
    unlike_at : (p : ℕ) → p < length a.plan
        → (not (beq (filled (entry_at a.plan a.lift p)) (filled (entry_at b.plan b.lift p))) ≡ true)
        ↔ ((get_or a.plan p (pos 0) ≡ negsuc 0) ↔ (get_or b.plan p (pos 0) ≡ negsuc 0) → ⊥)
    unfolding entry_at
    unlike_at p h =
        let k : p < length b.plan = rw (both.two.whole, sym r, sym c, sym both.one.whole) h in
        unlike_exactly a.lift b.lift _ _ (both.one.entries p h) (both.two.entries p k)

    block_row : differ a b ≡ true → Row PlansDiffer
    block_row e = let (p, h, t) = any_true _ _ (sym (blocks_differ a b r c) ∙ e) in other_block p h ((unlike_at p h).0 t)

    block_differs : (p : ℕ) → p < length a.plan → ((get_or a.plan p (pos 0) ≡ negsuc 0) ↔ (get_or b.plan p (pos 0) ≡ negsuc 0) → ⊥) → differ a b ≡ true
    block_differs p h d = blocks_differ a b r c ∙ any_some _ _ p h ((unlike_at p h).1 d)

  -- 28
  differ_row : differ a b ≡ true → Row PlansDiffer
  differ_row e = by_eq a.rows b.rows (λ r. by_eq a.cols b.cols (λ c. block_row r c e) other_cols) other_rows

  -- where rows or columns differ the plans do, whatever else
  by_sizes : (a.rows ≡ b.rows → a.cols ≡ b.cols → differ a b ≡ true) → differ a b ≡ true
  by_sizes f = by_eq a.rows b.rows (λ r. by_eq a.cols b.cols (f r) (cols_differ a b r)) (rows_differ a b)

  listed : (s : Refusal) → In (refuse s true) (join_rules a b room) → Row s
  unfolding join_rules
  listed s i =
      by_rule Row SharedDivisor (shared a.lift b.lift) _ s i (λ e. let (d, h, p, q) = (shared_exactly a.lift b.lift both.one.some_lift).0 e in row_27 d h p q) λ i.
      by_rule Row PlansDiffer (differ a b) _ s i differ_row λ i.
      by_rule Row JoinedPlace _ [] s i (λ e. row_29 ((either_exactly _ _ (differs room (length a.plan)) (differs room (length b.plan))).0 e)) λ i.
      no_rule Row s i

  applies : (n : ℕ) (l : List ℕ) → JoinRow a b room n l → Listed (join_rules a b room) n l
  unfolding join_rules
  applies n l (row_27 d h p q) = at_rule _ _ refl refl ((shared_exactly a.lift b.lift both.one.some_lift).1 (d, h, p, q))
  applies n l (other_rows d) = further (at_rule _ _ refl refl (rows_differ a b d))
  applies n l (other_cols d) = further (at_rule _ _ refl refl (by_sizes (λ r c. absurd (d c))))
  applies n l (other_block p h d) = further (at_rule _ _ refl refl (by_sizes (λ r c. block_differs r c p h d)))
  applies n l (row_29 h) = further (further (at_rule _ _ refl refl ((either_exactly _ _ (differs room (length a.plan)) (differs room (length b.plan))).1 h)))

  join_matches : Matches (join_rules a b room) (JoinRow a b room)
  join_matches = record { listed = λ s i. inl (listed s i); applies = applies }

-- 1 TO 6 come before
plan_number : {plan : List ℤ} {rows cols lift n : ℕ} {l : List ℕ} → PlanRow plan rows cols lift n l → n ≤ 6
plan_number (row_1 h) = omega arith
plan_number (row_2 h) = omega arith
plan_number (of_lift n l (row_3 h)) = omega arith
plan_number (row_4 h) = omega arith
plan_number (row_5 h) = omega arith
plan_number (row_6 p h) = omega arith

join_number : {a b : Sized} {room n : ℕ} {l : List ℕ} → JoinRow a b room n l → 27 ≤ n
join_number (row_27 d h p q) = omega arith
join_number (other_rows d) = omega arith
join_number (other_cols d) = omega arith
join_number (other_block p h d) = omega arith
join_number (row_29 h) = omega arith

pub join_lowest : (a b : Sized) (room : ℕ) → LowestOf (SizedRow a over SizedRow b over SizedRow (at_product a b) or JoinRow a b room) (join_refusal a b room)
unfolding join_refusal both_refusal
join_lowest a b room =
    after_of (SizedRow a over SizedRow b over SizedRow (at_product a b)) (JoinRow a b room) _ _
    (lower_of (SizedRow a over SizedRow b) (SizedRow (at_product a b)) _ _ (lower_of (SizedRow a) (SizedRow b) _ _ (judged a) (judged b)) (judged (at_product a b)))
    (λ e. lowest_of (join_rules a b room) (rules_rise a b room) (JoinRow a b room) (join_matches a b room (both_formed a b e)))
    higher
  where
    judged : (c : Sized) → LowestOf (SizedRow c) (plan_refusal c)
    judged c = lowest_of _ (plan_laws.rules_rise c.plan c.rows c.cols c.lift) _ (plan_matches c.plan c.rows c.cols c.lift)

    higher : (m n : ℕ) (k l : List ℕ) → (SizedRow a over SizedRow b over SizedRow (at_product a b)) m k → JoinRow a b room n l → m < n
    higher m n k l (inl (inl x)) y = omega (arith, plan_number x, join_number y)
    higher m n k l (inl (inr (x, _))) y = omega (arith, plan_number x, join_number y)
    higher m n k l (inr (x, _)) y = omega (arith, plan_number x, join_number y)
