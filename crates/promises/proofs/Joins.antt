-- What the join answers `Ok` for is what slip 9 says. Assumes nothing.
use Rattle.std.specs.Prelude.{Ok}
use Rattle.refusal.specs.Answer.{outcome}
use Prim.Native.Nat.{ℕ, zero, suc, ◌*◌, ◌%◌, ◌<◌}
use mathlib.Core.Path.{◌≡◌, refl, sym, subst, ◌∙◌}
use mathlib.Core.Logic.{◌⊎◌, inl, inr}
use mathlib.Core.Bool.{true, false, not}
use mathlib.Core.List.{List, [], ◌∷◌}
use Rattle.std.specs.Prelude.{Option, None, Some}
use native.Mathlib.Omega.{arith}
use native.Mathlib.Nat.{mod-mod}
use lib.IntN.{ℤ, pos, negsuc}
use lib.ListN.{length, get_or}
use Rattle.refusal.specs.declared.Refusal.{Refusal}
use Rattle.refusal.specs.declared.Refusal.TheVariants.{Target}
use Rattle.refusal.specs.Lowest.{refuse, lowest}
use Rattle.refusal.specs.Lent.{lent}
use Rattle.refusal.proofs.Lowest.{none_append}
use Rattle.graph.specs.Count.{below}
use Rattle.graph.specs.Girth.{Passes}
use Rattle.graph.proofs.Decide.{both_ways}
use Rattle.graph.proofs.Count.{count_same}
use Rattle.graph.proofs.Neighbours.{mem_below}
use Rattle.exponent.specs.Plan.{block_of, invalid_entry, entry_at, block_at, filled}
use Rattle.exponent.specs.Limits.{plan_rules, WellFormed}
use Rattle.exponent.specs.Tanner.{tanner, column_weight, row_weight}
use Rattle.exponent.proofs.Rules as plan_laws
use Rattle.weights.specs.declared.Side.{Side}
use Rattle.weights.specs.declared.Side.TheVariants.{Bits, Checks}
use Rattle.weights.specs.Weights.{shape_of, lanes, weight_of, weights_of}
use Rattle.weights.proofs.Weights.{length_weights, weights_at, weights_by}
use Rattle.girth.specs.Test.{allowed, test_rules}
use Rattle.crt.specs.Remainders.{remainders}
use Rattle.crt.specs.Join.{joined_entry, joined_plan, Sized, join_refusal}
use Rattle.crt.specs.Work.{UnitOf}
use Rattle.crt.proofs.Units.{unit_of}
use Rattle.crt.proofs.Remainders.{only_number, remainders_low, remainders_first, remainders_second}
use Rattle.crt.proofs.Plans.{joined_at, same_filled, first_passes, second_passes, joined_formed}
use Rattle.crt.proofs.Rules.{Joinable, joinable, same_lengths}
use Rattle.promises.specs.Two.{Passing}
use Rattle.promises.specs.Joins.{JoinedAt, empty, filled as is_filled, TestPassed, Joins, JoinedPlans}
use Rattle.promises.proofs.Two.{verdict}

-- two valid entries that are alike, and the joined one
module _ (P Q u : ℕ) (some_p : 0 < P) (some_q : 0 < Q) (unit : UnitOf P Q u) where
  entry : (y z : ℤ) → invalid_entry P y ≡ false → filled (block_of P y) ≡ filled (block_of Q z) → invalid_entry Q z ≡ false → JoinedAt P Q y z (joined_entry P Q (block_of P y) (block_of Q z))
  entry (negsuc (suc m)) z v s w = both_ways {t = true} refl v
  entry (pos e) (negsuc n) v s w = absurd (other n w s)
    where
      other : (n : ℕ) → invalid_entry Q (negsuc n) ≡ false → true ≡ filled (block_of Q (negsuc n)) → ⊥
      other zero w s = both_ways {t = true} refl s
      other (suc n) w s = both_ways {t = true} refl w
  entry (negsuc zero) (pos f) v s w = both_ways {t = true} refl (sym s)
  entry (negsuc zero) (negsuc (suc n)) v s w = both_ways {t = true} refl w
  entry (negsuc zero) (negsuc zero) v s w = empty
  entry (pos e) (pos f) v s w =
      let x : ℕ = remainders P Q (e % P) (f % Q) in
      let low = remainders_low P Q u some_p some_q unit (e % P) (f % Q) in
      let first : x % P ≡ e % P = remainders_first P Q u some_p some_q unit (e % P) (f % Q) ∙ mod-mod e P in
      let second : x % Q ≡ f % Q = remainders_second P Q u some_p some_q unit (e % P) (f % Q) ∙ mod-mod f Q in
      is_filled e f x low first second (λ y h p q. only_number P Q u some_p some_q unit y x h low (p ∙ sym first) (q ∙ sym second))

module _ (a b : Sized) (room : ℕ) (accepted : join_refusal a b room ≡ None) where
  abbrev P : ℕ
  P = a.lift

  abbrev Q : ℕ
  Q = b.lift

  abbrev plan : List ℤ
  plan = joined_plan a.plan a.lift b.plan b.lift

  known : Joinable a b room
  known = joinable a b room accepted

  unit : (u : ℕ) × UnitOf a.lift b.lift u
  unit = unit_of P Q known.both.one.some_lift known.both.two.some_lift known.coprime

  well_formed : WellFormed (joined_plan a.plan a.lift b.plan b.lift) a.rows a.cols (a.lift * b.lift)
  well_formed = joined_formed a.plan P b.plan Q a.rows a.cols known.both.product

  same : (i j : ℕ) → i < a.rows → j < a.cols → filled (block_at plan a.cols (P * Q) i j) ≡ filled (block_at a.plan a.cols P i j)
  same = same_filled P Q unit.0 known.both.one.some_lift known.both.two.some_lift unit.1 a.plan b.plan a.rows a.cols known.both.one.whole known.like.same_blocks

  rows_alike : (i : ℕ) → i < a.rows → row_weight plan a.cols (P * Q) i ≡ row_weight a.plan a.cols P i
  unfolding row_weight
  rows_alike i h = count_same _ _ (below a.cols) (λ j m. same i j h (mem_below j a.cols m))

  cols_alike : (j : ℕ) → j < a.cols → column_weight plan a.rows a.cols (P * Q) j ≡ column_weight a.plan a.rows a.cols P j
  unfolding column_weight
  cols_alike j h = count_same _ _ (below a.rows) (λ i m. same i j (mem_below i a.rows m) h)

  lists_alike : (side : Side) → weights_of plan (shape_of a.rows a.cols (P * Q)) side ≡ weights_of a.plan (shape_of a.rows a.cols P) side
  lists_alike side = weights_by a.plan (shape_of a.rows a.cols P) side _ (length_weights plan (shape_of a.rows a.cols (P * Q)) side ∙ lanes_alike side) (by side)
    where
      lanes_alike : (side : Side) → lanes (shape_of a.rows a.cols (P * Q)) side ≡ lanes (shape_of a.rows a.cols P) side
      lanes_alike Bits = refl
      lanes_alike Checks = refl

      by : (side : Side) (lane : ℕ) → lane < lanes (shape_of a.rows a.cols P) side
          → get_or (weights_of plan (shape_of a.rows a.cols (P * Q)) side) lane 0 ≡ weight_of a.plan (shape_of a.rows a.cols P) side lane
      by Bits lane h = weights_at plan (shape_of a.rows a.cols (P * Q)) Bits lane h ∙ cols_alike lane h
      by Checks lane h = weights_at plan (shape_of a.rows a.cols (P * Q)) Checks lane h ∙ rows_alike lane h

  entries : (p : ℕ) → p < length a.plan → JoinedAt P Q (get_or a.plan p (pos 0)) (get_or b.plan p (pos 0)) (get_or plan p (pos 0))
  unfolding entry_at
  entries p h =
      let k = known in
      subst (JoinedAt P Q (get_or a.plan p (pos 0)) (get_or b.plan p (pos 0))) (sym (joined_at a.plan P b.plan Q p h))
      (entry P Q unit.0 k.both.one.some_lift k.both.two.some_lift unit.1 _ _ (k.both.one.entries p h) (k.like.same_blocks p h)
      (k.both.two.entries p (omega (arith, same_lengths a b k.both k.like))))

  graph_passes : (t : ℕ) → Passes (tanner a.plan a.rows a.cols P) t ⊎ Passes (tanner b.plan b.rows b.cols Q) t → Passes (tanner plan a.rows a.cols (P * Q)) t
  graph_passes t (inl h) =
      first_passes P Q unit.0 known.both.one.some_lift known.both.two.some_lift unit.1 a.plan b.plan a.rows a.cols known.both.one.whole known.like.same_blocks t h
  graph_passes t (inr h) =
      second_passes P Q unit.0 known.both.one.some_lift known.both.two.some_lift unit.1 a.plan b.plan a.rows a.cols known.both.one.whole known.like.same_blocks t
      (rw (known.like.same_rows, known.like.same_cols) h)

  -- a test that a plan passes says that its graph does, and that the target is allowed
  passing : (c : Sized) (target : ℕ) → TestPassed c target
      → (lowest (refuse Target (not (allowed target)) ∷ []) ≡ None) × Passes (tanner c.plan c.rows c.cols c.lift) target
  unfolding test_rules
  passing c target p =
      let (e, h) = (verdict c.plan c.rows c.cols c.lift target p.answer).passed.0 p.passed in
      (((none_append (plan_rules c.plan c.rows c.cols c.lift) (refuse Target (not (allowed target)) ∷ [])).0 e).1, h)

  test_passes : (target : ℕ) → TestPassed a target ⊎ TestPassed b target → Passing plan a.rows a.cols (P * Q) target
  unfolding test_rules
  test_passes target p r answer =
      let (allow, h) = either p in
      (verdict plan a.rows a.cols (P * Q) target answer).passed.1
      ((none_append (plan_rules plan a.rows a.cols (P * Q)) (refuse Target (not (allowed target)) ∷ [])).1 ((plan_laws.accepted plan a.rows a.cols (P * Q)).1 well_formed, allow), graph_passes target h)
    where
      either : TestPassed a target ⊎ TestPassed b target
          → (lowest (refuse Target (not (allowed target)) ∷ []) ≡ None) × (Passes (tanner a.plan a.rows a.cols P) target ⊎ Passes (tanner b.plan b.rows b.cols Q) target)
      either (inl p) = let (allow, h) = passing a target p in (allow, inl h)
      either (inr p) = let (allow, h) = passing b target p in (allow, inr h)

  joins : Joins a b (joined_plan a.plan a.lift b.plan b.lift)
  joins = record { entries = entries; well_formed = well_formed; weights = lists_alike; graph_passes = graph_passes; test_passes = test_passes }

-- THE PROMISE of the slip
pub joined_plans : JoinedPlans
joined_plans a b place lift = go (join_refusal a b (length place)) refl
  where
    go : (o : Option Refusal) → join_refusal a b (length place) ≡ o → outcome o (a.lift * b.lift) ≡ Ok lift
        → (lift ≡ a.lift * b.lift) × Joins a b (lent o (joined_plan a.plan a.lift b.plan b.lift) place)
    go None q e = let r : a.lift * b.lift ≡ lift = cc in (sym r, joins a b (length place) q)
    go (Some x) q e = absurd (let z : ◌≡◌ {A = ℕ} 0 1 = cc in omega arith)
