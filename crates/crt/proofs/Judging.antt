-- What the judge's functions find, in terms of the refusals: judgements, the product of two lifts, the unit, a verdict. Assumes nothing.
use Rattle.std.specs.Prelude.{Result, Ok, Err, ⊤}
use Rattle.refusal.specs.Answer.{ok_unless}
use Prim.Native.Nat.{ℕ, ◌*◌, ◌≤◌, ◌<◌}
use mathlib.Core.Path.{◌≡◌, refl, sym, ap, ap₂, subst, ◌∙◌}
use mathlib.Core.Logic.{inl, inr}
use mathlib.Core.Bool.{Bool, true, false, not}
use mathlib.Core.List.{List}
use Rattle.std.specs.Prelude.{Option, None, Some}
use Rattle.std.specs.Result.{result_err}
use native.Mathlib.Omega.{arith}
use native.Mathlib.Nat.{mul_comm, mul-le-mul}
use lib.IntN.{ℤ, pos}
use lib.ListN.{length, get_or}
use Rattle.std.specs.Bool.{beq}
use Rattle.std.specs.List.{zip, list_any}
use Rattle.std.proofs.lemmas.List.Elements.{All-from_get_or}
use Rattle.std.proofs.lemmas.List.Folds.{list_any_at, list_any_none}
use Rattle.std.proofs.lemmas.Slice.Zip.{length-zip, get_or-zip}
use Rattle.graph.specs.Erasure.{any}
use Rattle.graph.proofs.Peeling.{any_true, any_false}
use Rattle.exponent.specs.Plan.{block_of, entry_at, filled}
use Rattle.refusal.specs.declared.Refusal.{Refusal}
use Rattle.refusal.specs.Lowest.{lowest, lower, or_else}
use Rattle.graph.proofs.Decide.{by_bool, by_eq, both_ways, same_bool}
use Rattle.exponent.specs.Limits.{outside, plan_rules}
use Rattle.exponent.proofs.Rules.{outside_exactly}
use Rattle.crt.specs.Remainders.{shared}
use Rattle.crt.specs.Join.{Sized}
use Rattle.crt.specs.Work.{Both, AsProduct, UnitOf, Finds, nothing, at, Lifts, Judges, refused, accepted as is_accepted}

-- JUDGEMENTS, as refusals
refusal_in_law : {v : Result ⊤ Refusal} (o : Option Refusal) → v ≡ ok_unless o → result_err v ≡ o
refusal_in_law None e = ap result_err e
refusal_in_law (Some r) e = ap result_err e

pub lower_told : {v w r : Result ⊤ Refusal} (o p : Option Refusal) → r ≡ ok_unless (lower (result_err v) (result_err w)) → v ≡ ok_unless o → w ≡ ok_unless p → r ≡ ok_unless (lower o p)
lower_told o p e f g = e ∙ ap₂ (λ (x y : Option Refusal). ok_unless (lower x y)) (refusal_in_law o f) (refusal_in_law p g)

-- THE PRODUCT. A lift that is out of range is refused as any other such lift
lifts_alike : (m n : ℕ) → outside 1 4096 m ≡ true → outside 1 4096 n ≡ true → (plan : List ℤ) (rows cols : ℕ)
    → lowest (plan_rules plan rows cols m) ≡ lowest (plan_rules plan rows cols n)
unfolding plan_rules lowest
lifts_alike m n p q plan rows cols = rw (p, q)

-- the product with a number that is too large
too_large : (m n : ℕ) → 4096 < m → outside 1 4096 (m * n) ≡ true
too_large m n h =
    (outside_exactly 1 4096 (m * n)).1
    (by_eq n 0 (λ e. inl (rw e (omega arith))) (λ e. inr (let p : 4097 ≤ m = h in let q : 1 ≤ n = omega arith in omega (arith, mul-le-mul p q))))

pub first_large : (P Q : ℕ) → 4096 < P → AsProduct P Q P
first_large P Q h = lifts_alike P (P * Q) ((outside_exactly 1 4096 P).1 (inr h)) (too_large P Q h)

pub second_large : (P Q : ℕ) → 4096 < Q → AsProduct P Q Q
second_large P Q h = lifts_alike Q (P * Q) ((outside_exactly 1 4096 Q).1 (inr h)) (rw (mul_comm P Q) (too_large Q P h))

-- BLOCKS of two plans, side by side
abbrev pub apart : ℕ → ℕ → ℤ × ℤ → Bool
apart P Q x = not (beq (filled (block_of P x.0)) (filled (block_of Q x.1)))

module _ (P Q : ℕ) (first second : List ℤ) (same : length first ≡ length second) where
  abbrev pairs : List (ℤ × ℤ)
  pairs = zip first second

  abbrev test : ℕ → Bool
  test place = not (beq (filled (entry_at first P place)) (filled (entry_at second Q place)))

  pairs_length : length pairs ≡ length first
  pairs_length = length-zip first second ∙ omega arith

  pair_at : (k : ℕ) → k < length first → apart P Q (get_or pairs k (pos 0, pos 0)) ≡ test k
  unfolding entry_at
  pair_at k h = ap (apart P Q) (get_or-zip first second k (pos 0, pos 0) h (omega arith))

  pub any_apart : list_any (apart P Q) (zip first second) ≡ any (length first) (λ place. not (beq (filled (entry_at first P place)) (filled (entry_at second Q place))))
  any_apart =
      same_bool _ _
      (λ t. by_bool (any (length first) test) (λ e. e) (λ e.
      both_ways t (none_any λ k h. pair_at k h ∙ any_false (length first) test e k h)))
      (λ t. let (k, h, e) = any_true (length first) test t in
      list_any_at (apart P Q) pairs k (pos 0, pos 0) (omega (arith, pairs_length)) (pair_at k h ∙ e))
    where
      none_any : ((k : ℕ) → k < length first → apart P Q (get_or pairs k (pos 0, pos 0)) ≡ false) → list_any (apart P Q) pairs ≡ false
      none_any each = list_any_none (apart P Q) pairs (All-from_get_or (λ x. apart P Q x ≡ false) pairs (pos 0, pos 0) λ k h. each k (omega (arith, pairs_length)))

-- WHAT THE SEARCH for the unit found
pub found_nothing : {P Q : ℕ} {r : Option ℕ} → Finds P Q r → ((u : ℕ) → r ≡ Some u → ⊥) → shared P Q ≡ true
found_nothing (nothing h) e = h
found_nothing (at u h) e = absurd (e u refl)

pub found_at : {P Q : ℕ} {r : Option ℕ} (u : ℕ) → Finds P Q r → r ≡ Some u → UnitOf P Q u
found_at u (nothing h) e = absurd (let z : ◌≡◌ {A = ℕ} 0 1 = cc in omega arith)
found_at {P} {Q} u (at v h) e = let q : v ≡ u = cc in subst (UnitOf P Q) q h

-- WHAT A VERDICT says of the refusals
pub none_before : {P Q : ℕ} {v : Result ℕ Refusal} (o p : Option Refusal) → o ≡ None → Judges p P Q v → Judges (or_else o p) P Q v
none_before {P} {Q} {v} o p e j = subst (λ (x : Option Refusal). Judges (or_else x p) P Q v) (sym e) j

pub verdict_refused : {o : Option Refusal} {P Q : ℕ} {v : Result ℕ Refusal} (r : Refusal) → Judges o P Q v → v ≡ Err r → o ≡ Some r
verdict_refused r (refused s h) e = let q : s ≡ r = cc in h ∙ ap Some q
verdict_refused r (is_accepted u h i) e = absurd (let z : ◌≡◌ {A = ℕ} 0 1 = cc in omega arith)

pub verdict_accepted : {o : Option Refusal} {P Q : ℕ} {v : Result ℕ Refusal} (u : ℕ) → Judges o P Q v → v ≡ Ok u → (o ≡ None) × UnitOf P Q u
verdict_accepted u (refused r h) e = absurd (let z : ◌≡◌ {A = ℕ} 0 1 = cc in omega arith)
verdict_accepted {P = P} {Q = Q} u (is_accepted w h i) e = let q : w ≡ u = cc in (h, subst (UnitOf P Q) q i)

-- the sizes of plans that may be joined
pub lifts : (a b : Sized) (u : ℕ) → Both a b → UnitOf a.lift b.lift u → Lifts a.lift b.lift u
lifts a b u both unit = record { some_p = both.one.some_lift; some_q = both.two.some_lift; small_product = both.product.small_lift; unit = unit }
