-- Laws of the refusals of a word and of the syndrome: when none applies, and what `Even` and `Odd` then say.
-- Assumes nothing.
use Rattle.std.specs.Prelude.{Ok, Err}
use Prim.Native.Nat.{ℕ, ◌*◌, ◌≤◌, ◌<◌}
use mathlib.Core.Path.{◌≡◌, refl, sym, ap, subst, ◌∙◌}
use mathlib.Core.Logic.{◌↔◌}
use mathlib.Core.Bool.{Bool, true, false, cond, not}
use mathlib.Core.List.{List, [], ◌∷◌, ◌++◌}
use Rattle.std.specs.Prelude.{Option, None, Some}
use Rattle.std.proofs.lemmas.Option.{none-some}
use native.Mathlib.Omega.{arith}
use borrow.Author.Tests.{ltb-true, ltb-false, lt-ltb, le-ltb, eqb-true, eq-eqb, not-false}
use lib.Dec.{ltb}
use lib.IntN.{ℤ}
use lib.ListN.{length, get_or, get_or-eq_default}
use Rattle.refusal.specs.declared.Refusal.{Refusal}
use Rattle.refusal.specs.declared.Refusal.TheVariants.{Erasure}
use Rattle.refusal.specs.Lowest.{Rule, refuse, lowest, rising}
use Rattle.refusal.specs.Answer.{outcome, ok_unless}
use Rattle.refusal.specs.Place.{first_place, somewhere}
use Rattle.refusal.proofs.Lowest.{lowest_accepted, lowest_refused, lowest_here, lowest_next, none_append, NoneHolds, none_holds}
use Rattle.refusal.proofs.Place.{somewhere_no, somewhere_none}
use Rattle.graph.specs.Erasure.{parity, Codeword}
use Rattle.graph.proofs.Decide.{by_le, by_bool}
use lib.Dec.{eqb}
use Rattle.exponent.specs.Limits.{plan_rules, WellFormed}
use Rattle.exponent.specs.Tanner.{tanner}
use Rattle.exponent.proofs.Rules.{accepted, valid_none, refused_some}
use Rattle.syndrome.specs.Word.{is_erasure, is_other, byte_rules, word_rules}
use Rattle.syndrome.specs.Check.{check_rules, lowest_odd, found, syndrome_of}
use Rattle.syndrome.proofs.Symbols.{not_other, not_erasure}
use Rattle.syndrome.proofs.Odds.{odd_none, before_odd, at_odd}

-- computed, whatever the plan and the word are
pub rules_rise : (plan : List ℤ) (rows cols lift : ℕ) (word : List ℕ) → rising (check_rules plan rows cols lift word) ≡ true
unfolding check_rules word_rules plan_rules byte_rules
rules_rise plan rows cols lift word = refl

-- rules, and then others, by what is answered to the first ones alone
pub still_refused : (rules others : List Rule) (r : Refusal) → ok_unless (lowest rules) ≡ Err r → lowest (rules ++ others) ≡ Some r
still_refused rules others r e = lowest_refused rules others r (refused_some _ r e)

pub then_others : (rules others : List Rule) → ok_unless (lowest rules) ≡ Ok tt → lowest (rules ++ others) ≡ lowest others
then_others rules others e = lowest_accepted rules others (valid_none _ e)

pub then_last : (rules : List Rule) (r : Refusal) (test : Bool) → ok_unless (lowest rules) ≡ Ok tt → lowest (rules ++ refuse r test ∷ []) ≡ cond test (Some r) None
unfolding lowest
then_last rules r test e = lowest_accepted rules (refuse r test ∷ []) (valid_none _ e)

-- what a plan has of which `validate` says that it is valid
pub valid_formed : (plan : List ℤ) (rows cols lift : ℕ) → ok_unless (lowest (plan_rules plan rows cols lift)) ≡ Ok tt → WellFormed plan rows cols lift
valid_formed plan rows cols lift e = (accepted plan rows cols lift).0 (valid_none _ e)

-- behind its end a list has zeros
everywhere : (word : List ℕ) (n : ℕ) → ((b : ℕ) → b < length word → get_or word b 0 ≤ n) → (b : ℕ) → get_or word b 0 ≤ n
everywhere word n all b = by_le (length word) b (λ h. omega (arith, get_or-eq_default word 0 h)) (all b)

bytes_accepted : (n : ℕ) (word : List ℕ) → (lowest (byte_rules n word) ≡ None) ↔ ((length word ≡ n) × ((b : ℕ) → get_or word b 0 ≤ 2))
unfolding byte_rules
bytes_accepted n word = (λ e. well ((none_holds (byte_rules n word)).0 e), λ h. (none_holds (byte_rules n word)).1 (none_of h))
  where
    well : NoneHolds (byte_rules n word) → (length word ≡ n) × ((b : ℕ) → get_or word b 0 ≤ 2)
    well (l, (p, _)) = (
      eqb-true (length word) n (not-false _ l),
      everywhere word 2 (λ b h. (not_other (get_or word b 0)).0 (somewhere_no is_other 0 word p b h)),
    )

    none_of : (length word ≡ n) × ((b : ℕ) → get_or word b 0 ≤ 2) → NoneHolds (byte_rules n word)
    none_of (l, p) = (ap not (eq-eqb (length word) n l), (somewhere_none is_other 0 word (λ b h. (not_other (get_or word b 0)).1 (p b)), tt))

module _ (plan : List ℤ) (rows cols lift : ℕ) (word : List ℕ) where
  -- a word is accepted that has a well formed plan, its length, and no byte above 2
  pub word_accepted : (lowest (word_rules plan rows cols lift word) ≡ None)
      ↔ (WellFormed plan rows cols lift × (length word ≡ cols * lift) × ((b : ℕ) → get_or word b 0 ≤ 2))
  unfolding word_rules
  word_accepted = (
    λ e.
        let (p, q) = (none_append (plan_rules plan rows cols lift) (byte_rules (cols * lift) word)).0 e in
        let w = (bytes_accepted (cols * lift) word).0 q in
        ((accepted plan rows cols lift).0 p, w.0, w.1),
    λ h. (none_append (plan_rules plan rows cols lift) (byte_rules (cols * lift) word)).1 ((accepted plan rows cols lift).1 h.0, (bytes_accepted (cols * lift) word).1 (h.1, h.2)),
  )

  erasure_free : ((b : ℕ) → get_or word b 0 ≤ 2)
      → (lowest (refuse (Erasure (first_place is_erasure word)) (somewhere is_erasure word) ∷ []) ≡ None) ↔ ((b : ℕ) → b < length word → get_or word b 0 < 2)
  erasure_free low =
      let rules = refuse (Erasure (first_place is_erasure word)) (somewhere is_erasure word) ∷ [] in (
        λ e b h. (not_erasure (get_or word b 0) (low b)).0 (somewhere_no is_erasure 0 word ((none_holds rules).0 e).0 b h),
        λ h. (none_holds rules).1 (somewhere_none is_erasure 0 word (λ b k. (not_erasure (get_or word b 0) (low b)).1 (h b k)), tt),
      )

  -- the check asks besides that no byte is 2
  pub check_accepted : (lowest (check_rules plan rows cols lift word) ≡ None)
      ↔ (WellFormed plan rows cols lift × (length word ≡ cols * lift) × ((b : ℕ) → b < length word → get_or word b 0 < 2))
  unfolding check_rules
  check_accepted = (
    λ e.
        let (p, q) = (none_append (word_rules plan rows cols lift word) _).0 e in
        let w = word_accepted.0 p in
        (w.0, w.1, (erasure_free w.2).0 q),
    λ h.
        let low = everywhere word 2 (λ b k. omega (arith, h.2 b k)) in
        (none_append (word_rules plan rows cols lift word) _).1 (word_accepted.1 (h.0, h.1, low), (erasure_free low).1 h.2),
  )

  -- what the check's rules say, by those of the word and by the first erasure
  pub word_refused : (x : Refusal) → lowest (word_rules plan rows cols lift word) ≡ Some x → lowest (check_rules plan rows cols lift word) ≡ Some x
  unfolding check_rules
  word_refused x e = lowest_refused (word_rules plan rows cols lift word) _ x e

  pub erasure_refused : lowest (word_rules plan rows cols lift word) ≡ None → first_place is_erasure word < length word
      → lowest (check_rules plan rows cols lift word) ≡ Some (Erasure (first_place is_erasure word))
  unfolding check_rules
  erasure_refused e h =
      lowest_accepted (word_rules plan rows cols lift word) _ e ∙ lowest_here (somewhere is_erasure word) (Erasure (first_place is_erasure word)) [] (lt-ltb _ _ h)

  pub all_known : lowest (word_rules plan rows cols lift word) ≡ None → length word ≤ first_place is_erasure word → lowest (check_rules plan rows cols lift word) ≡ None
  unfolding check_rules lowest
  all_known e h =
      lowest_accepted (word_rules plan rows cols lift word) _ e ∙ lowest_next (somewhere is_erasure word) (Erasure (first_place is_erasure word)) [] (le-ltb _ _ h)

-- what a plan and a word have that pass
pub known_formed : (plan : List ℤ) (rows cols lift : ℕ) (word : List ℕ) → ok_unless (lowest (check_rules plan rows cols lift word)) ≡ Ok tt
    → WellFormed plan rows cols lift × (length word ≡ cols * lift)
known_formed plan rows cols lift word e = let w = (check_accepted plan rows cols lift word).0 (valid_none _ e) in (w.0, w.1)

-- what an answer says
unrefused : (o : Option Refusal) (s r : Option ℕ) → outcome o s ≡ Ok r → (o ≡ None) × (s ≡ r)
unrefused None s r e = (refl, cc)
unrefused (Some x) s r e = absurd (let z : ◌≡◌ {A = ℕ} 0 1 = cc in omega arith)

found_even : (n c : ℕ) (t : Bool) → ltb c n ≡ t → cond t (Some c) None ≡ None → n ≤ c
found_even n c true q e = absurd (none-some c (sym e))
found_even n c false q e = ltb-false c n q

found_odd : (n c d : ℕ) (t : Bool) → ltb c n ≡ t → cond t (Some c) None ≡ Some d → (c < n) × (c ≡ d)
found_odd n c d true q e = (ltb-true c n q, cc)
found_odd n c d false q e = absurd (none-some d e)

module _ (plan : List ℤ) (rows cols lift : ℕ) (word : List ℕ) where
  abbrev low : ℕ
  low = lowest_odd (tanner plan rows cols lift) word

  -- the answer by what the rules say
  pub answered : (o : Option Refusal) → lowest (check_rules plan rows cols lift word) ≡ o
      → syndrome_of plan rows cols lift word ≡ outcome o (found (rows * lift) (lowest_odd (tanner plan rows cols lift) word))
  unfolding syndrome_of
  answered o e = ap (λ (x : Option Refusal). outcome x (found (rows * lift) low)) e

  -- EVEN: nothing applies, and every check is even
  pub syndrome_even : (syndrome_of plan rows cols lift word ≡ Ok None)
      ↔ ((lowest (check_rules plan rows cols lift word) ≡ None) × ((c : ℕ) → c < rows * lift → parity (tanner plan rows cols lift) word c ≡ 0))
  unfolding syndrome_of tanner
  syndrome_even = (
    λ e.
        let (p, q) = unrefused (lowest (check_rules plan rows cols lift word)) _ None e in
        (p, λ c h. before_odd (tanner plan rows cols lift) word c (omega (arith, found_even (rows * lift) low (ltb low (rows * lift)) refl q))),
    λ h.
        answered None h.0
        ∙ ap (λ (t : Bool). outcome None (cond t (Some low) None)) (le-ltb low (rows * lift) (omega (arith, odd_none (tanner plan rows cols lift) word h.1))),
  )

  -- so exactly of a valid plan and one of its codewords
  pub even_exactly : (syndrome_of plan rows cols lift word ≡ Ok None) ↔ (WellFormed plan rows cols lift × Codeword (tanner plan rows cols lift) word)
  unfolding tanner
  even_exactly = (
    λ e.
        let (p, q) = syndrome_even.0 e in
        let w = (check_accepted plan rows cols lift word).0 p in
        (w.0, record { same_length = w.1; known = λ b h. w.2 b (omega (arith, w.1)); even = q }),
    λ h.
        let code = h.1 in
        syndrome_even.1 ((check_accepted plan rows cols lift word).1 (h.0, code.same_length, λ b k. code.known b (omega (arith, code.same_length))), code.even),
  )

  -- ODD: the check is odd, and none before it is
  pub odd_lowest : (c : ℕ) → syndrome_of plan rows cols lift word ≡ Ok (Some c)
      → (c < rows * lift) × (parity (tanner plan rows cols lift) word c ≡ 1) × ((d : ℕ) → d < c → parity (tanner plan rows cols lift) word d ≡ 0)
  unfolding syndrome_of tanner
  odd_lowest c e =
      let q = (unrefused (lowest (check_rules plan rows cols lift word)) _ (Some c) e).1 in
      let (h, s) = found_odd (rows * lift) low c (ltb low (rows * lift)) refl q in (
        omega arith,
        subst (λ (x : ℕ). parity (tanner plan rows cols lift) word x ≡ 1) s (at_odd (tanner plan rows cols lift) word h),
        λ d k. before_odd (tanner plan rows cols lift) word d (omega arith),
      )

-- a word that passes for its bytes has its length
pub long : (n : ℕ) (word : List ℕ) → ok_unless (lowest (byte_rules n word)) ≡ Ok tt → length word ≡ n
unfolding byte_rules lowest
long n word e =
    by_bool (eqb (length word) n) (λ t. eqb-true (length word) n t) (λ t. absurd (let q = rw t at e in let z : ◌≡◌ {A = ℕ} 0 1 = cc in omega arith))
