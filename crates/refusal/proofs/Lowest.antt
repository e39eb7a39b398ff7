-- Laws of `lowest`: in a list whose numbers rise, it is the refusal that applies and than which none with a lower number does.
-- Assumes nothing.
use Prim.Native.Nat.{ℕ, ◌≤◌, ◌<◌}
use mathlib.Core.Path.{◌≡◌, refl, sym, ap, ◌∙◌}
use mathlib.Core.Logic.{◌↔◌, ◌⊎◌, inl, inr}
use mathlib.Core.Bool.{Bool, true, false, cond, ◌&&◌}
use mathlib.Core.List.{List, [], ◌∷◌, ◌++◌}
use Rattle.std.specs.Prelude.{Option, None, Some}
use Rattle.std.proofs.lemmas.Option.{none-some}
use native.Mathlib.Omega.{arith}
use lib.Dec.{ltb}
use borrow.Author.Tests.{ltb-true}
use Rattle.refusal.specs.declared.Refusal.{Refusal}
use Rattle.refusal.specs.Number.{number}
use Rattle.refusal.specs.Lowest.{Rule, refuse, lowest, lower, or_else, rise_from, rising, In, here, later, LowestThat}

some_same : {A : Type 0} (x y : A) → Some x ≡ Some y → x ≡ y
some_same x y e = cc

both : (a b : Bool) → (a && b) ≡ true → (a ≡ true) × (b ≡ true)
both true b e = (refl, e)
both false b e = absurd (let z : ◌≡◌ {A = ℕ} 0 1 = cc in omega arith)

-- the numbers of what is listed lie above n
above : (rule : Rule) (n : ℕ) (rules : List Rule) → rise_from n rules ≡ true → In rule rules → n < number rule.refusal
above rule n l e (here {rules = rules}) =
    ltb-true n (number rule.refusal) (both (ltb n (number rule.refusal)) (rise_from (number rule.refusal) rules) e).0
above rule n l e (later {other = other} {rules = rules} i) =
    let (p, q) = both (ltb n (number other.refusal)) (rise_from (number other.refusal) rules) e in
    omega (arith, ltb-true n (number other.refusal) p, above rule (number other.refusal) rules q i)

first : (test : Bool) (r s : Refusal) (rest : Option Refusal) → cond test (Some r) rest ≡ Some s → ((test ≡ true) × (r ≡ s)) ⊎ ((test ≡ false) × (rest ≡ Some s))
first true r s rest e = inl (refl, some_same r s e)
first false r s rest e = inr (refl, e)

none_first : (test : Bool) (r : Refusal) (rest : Option Refusal) → cond test (Some r) rest ≡ None → (test ≡ false) × (rest ≡ None)
none_first true r rest e = absurd (none-some r (sym e))
none_first false r rest e = (refl, e)

is_rule : (rule : Rule) (test : Bool) (r : Refusal) → rule.applies ≡ test → rule.refusal ≡ r → rule ≡ refuse r test
is_rule rule test r p q = λ i. record { applies = p i; refusal = q i }

-- one rule at a time
pub lowest_here : (test : Bool) (r : Refusal) (rules : List Rule) → test ≡ true → lowest (refuse r test ∷ rules) ≡ Some r
unfolding lowest
lowest_here test r rules e = rw e

pub lowest_next : (test : Bool) (r : Refusal) (rules : List Rule) → test ≡ false → lowest (refuse r test ∷ rules) ≡ lowest rules
unfolding lowest
lowest_next test r rules e = rw e

-- some rules, and then others
pub lowest_accepted : (rules others : List Rule) → lowest rules ≡ None → lowest (rules ++ others) ≡ lowest others
unfolding lowest
lowest_accepted [] others e = refl
lowest_accepted (rule ∷ rules) others e =
    let (p, q) = none_first rule.applies rule.refusal (lowest rules) e in
    rw p (lowest_accepted rules others q)

pub lowest_refused : (rules others : List Rule) (r : Refusal) → lowest rules ≡ Some r → lowest (rules ++ others) ≡ Some r
unfolding lowest
lowest_refused [] others r e = absurd (none-some r e)
lowest_refused (rule ∷ rules) others r e = step (first rule.applies rule.refusal r (lowest rules) e) (lowest_refused rules others r)
  where
    step : ((rule.applies ≡ true) × (rule.refusal ≡ r)) ⊎ ((rule.applies ≡ false) × (lowest rules ≡ Some r))
        → (lowest rules ≡ Some r → lowest (rules ++ others) ≡ Some r) → cond rule.applies (Some rule.refusal) (lowest (rules ++ others)) ≡ Some r
    step (inl (p, q)) more = rw (p, q)
    step (inr (p, q)) more = rw p (more q)

-- rules of which none applies add nothing
pub none_after : (rules others : List Rule) → lowest others ≡ None → lowest (rules ++ others) ≡ lowest rules
none_after rules others e = by (lowest rules) refl
  where
    by : (o : Option Refusal) → lowest rules ≡ o → lowest (rules ++ others) ≡ lowest rules
    by None p = lowest_accepted rules others p ∙ e ∙ sym p
    by (Some r) p = lowest_refused rules others r p ∙ sym p

-- a list whose numbers lie below n gives none from n on; so after it a refusal with the number n comes of the other rules alone
abbrev pub under : ℕ → List Rule → Bool
under n [] = true
under n (rule ∷ rules) = ltb (number rule.refusal) n && under n rules

lowest_under : (n : ℕ) (rules : List Rule) → under n rules ≡ true → (r : Refusal) → lowest rules ≡ Some r → number r < n
unfolding lowest
lowest_under n [] t r e = absurd (none-some r e)
lowest_under n (rule ∷ rules) t r e =
    let (low, rest) = both (ltb (number rule.refusal) n) (under n rules) t in
    step (first rule.applies rule.refusal r (lowest rules) e) low (lowest_under n rules rest r)
  where
    step : ((rule.applies ≡ true) × (rule.refusal ≡ r)) ⊎ ((rule.applies ≡ false) × (lowest rules ≡ Some r))
        → ltb (number rule.refusal) n ≡ true → (lowest rules ≡ Some r → number r < n) → number r < n
    step (inl (p, q)) low more = omega (arith, ap number q, ltb-true (number rule.refusal) n low)
    step (inr (p, q)) low more = more q

pub not_after : (rules others : List Rule) (r : Refusal) → under (number r) rules ≡ true → lowest others ≡ None → lowest (rules ++ others) ≡ Some r → ⊥
not_after rules others r t n e = let low = lowest_under (number r) rules t r (sym (none_after rules others n) ∙ e) in omega arith

-- nothing of two lists applies exactly where nothing of either does
pub none_append : (rules others : List Rule) → (lowest (rules ++ others) ≡ None) ↔ ((lowest rules ≡ None) × (lowest others ≡ None))
none_append rules others = (step (lowest rules) refl, λ h. lowest_accepted rules others h.0 ∙ h.1)
  where
    step : (o : Option Refusal) → lowest rules ≡ o → lowest (rules ++ others) ≡ None → (lowest rules ≡ None) × (lowest others ≡ None)
    step None q e = (q, sym (lowest_accepted rules others q) ∙ e)
    step (Some r) q e = absurd (none-some r (sym e ∙ lowest_refused rules others r q))

-- what stands in a list stands first or later, and what stands in two lists, in one of them
pub in_cons : {rule other : Rule} {rules : List Rule} → In rule (other ∷ rules) → (rule ≡ other) ⊎ In rule rules
in_cons here = inl refl
in_cons (later i) = inr i

pub in_first : {rule : Rule} {rules : List Rule} (others : List Rule) → In rule rules → In rule (rules ++ others)
in_first others here = here
in_first others (later i) = later (in_first others i)

pub in_second : {rule : Rule} (rules : List Rule) {others : List Rule} → In rule others → In rule (rules ++ others)
in_second [] i = i
in_second (other ∷ rules) i = later (in_second rules i)

pub in_either : {rule : Rule} (rules others : List Rule) → In rule (rules ++ others) → In rule rules ⊎ In rule others
in_either [] others i = inr i
in_either (other ∷ rules) others here = inl here
in_either (other ∷ rules) others (later i) = step (in_either rules others i)
  where
    step : {rule : Rule} → In rule rules ⊎ In rule others → In rule (other ∷ rules) ⊎ In rule others
    step (inl k) = inl (later k)
    step (inr k) = inr k

-- what `lowest` gives applies
lowest_applies : (rules : List Rule) (r : Refusal) → lowest rules ≡ Some r → In (refuse r true) rules
unfolding lowest
lowest_applies [] r e = absurd (none-some r e)
lowest_applies (rule ∷ rules) r e = step (first rule.applies rule.refusal r (lowest rules) e) (lowest_applies rules r)
  where
    step : ((rule.applies ≡ true) × (rule.refusal ≡ r)) ⊎ ((rule.applies ≡ false) × (lowest rules ≡ Some r))
        → (lowest rules ≡ Some r → In (refuse r true) rules) → In (refuse r true) (rule ∷ rules)
    step (inl (p, q)) more = rw (is_rule rule true r p q) here
    step (inr (p, q)) more = later (more q)

-- where it gives nothing, nothing applies
none_applies : (r : Refusal) (rules : List Rule) → lowest rules ≡ None → In (refuse r true) rules → ⊥
unfolding lowest
none_applies r l e (here {rules = rules}) = none-some r (sym e)
none_applies r l e (later {other = other} {rules = rules} i) =
    none_applies r rules (none_first other.applies other.refusal (lowest rules) e).1 i

-- no listed refusal that applies has a lower number
lowest_least : (r s : Refusal) (n : ℕ) (rules : List Rule) → rise_from n rules ≡ true → lowest rules ≡ Some r
    → In (refuse s true) rules → number r ≤ number s
unfolding lowest
lowest_least r s n l e h (here {rules = rules}) = let q = some_same s r h in rw q (omega arith)
lowest_least r s n l e h (later {other = other} {rules = rules} i) =
    let (p, q) = both (ltb n (number other.refusal)) (rise_from (number other.refusal) rules) e in
    step q (first other.applies other.refusal r (lowest rules) h) (λ k. lowest_least r s (number other.refusal) rules q k i)
  where
    step : rise_from (number other.refusal) rules ≡ true
        → ((other.applies ≡ true) × (other.refusal ≡ r)) ⊎ ((other.applies ≡ false) × (lowest rules ≡ Some r))
        → (lowest rules ≡ Some r → number r ≤ number s) → number r ≤ number s
    step q (inl (a, b)) more = rw (← b) (omega (arith, above (refuse s true) (number other.refusal) rules q i))
    step q (inr (a, b)) more = more b

-- what applies, and than which nothing lower applies, is what `lowest` gives
lowest_found : (r : Refusal) (n : ℕ) (rules : List Rule) → rise_from n rules ≡ true → In (refuse r true) rules
    → ((s : Refusal) → In (refuse s true) rules → number r ≤ number s) → lowest rules ≡ Some r
unfolding lowest
lowest_found r n l e (here {rules = rules}) least = refl
lowest_found r n l e (later {other = other} {rules = rules} i) least =
    let q = (both (ltb n (number other.refusal)) (rise_from (number other.refusal) rules) e).1 in
    step q other.applies refl (lowest_found r (number other.refusal) rules q i (λ s k. least s (later k)))
  where
    step : rise_from (number other.refusal) rules ≡ true → (test : Bool) → other.applies ≡ test → lowest rules ≡ Some r
        → cond test (Some other.refusal) (lowest rules) ≡ Some r
    step q true a more =
        let lower = least other.refusal (rw (is_rule other true other.refusal a refl) here) in
        absurd (omega (arith, above (refuse r true) (number other.refusal) rules q i))
    step q false a more = more

-- THE LAW: in a list whose numbers rise, `lowest` gives r exactly where r applies and none with a lower number does
pub lowest_exactly : (rules : List Rule) → rising rules ≡ true → (r : Refusal) → (lowest rules ≡ Some r) ↔ LowestThat rules r
lowest_exactly rules e r = (
  λ h. record { applies = lowest_applies rules r h; none_lower = λ s. lowest_least r s 0 rules e h },
  λ h. lowest_found r 0 rules e h.applies h.none_lower,
)

-- and it gives nothing exactly where nothing applies
pub lowest_none : (rules : List Rule) → (lowest rules ≡ None) ↔ ((r : Refusal) → In (refuse r true) rules → ⊥)
lowest_none rules = (λ e r i. none_applies r rules e i, λ h. step h (lowest rules) refl)
  where
    step : ((r : Refusal) → In (refuse r true) rules → ⊥) → (o : Option Refusal) → lowest rules ≡ o → lowest rules ≡ None
    step h None e = e
    step h (Some r) e = absurd (h r (lowest_applies rules r e))

-- the same rule by rule
abbrev pub NoneHolds : List Rule → Type 0
NoneHolds [] = Unit {0}
NoneHolds (rule ∷ rules) = (rule.applies ≡ false) × NoneHolds rules

pub none_holds : (rules : List Rule) → (lowest rules ≡ None) ↔ NoneHolds rules
unfolding lowest
none_holds [] = (λ e. tt, λ h. refl)
none_holds (rule ∷ rules) = (
  λ e. let (p, q) = none_first rule.applies rule.refusal (lowest rules) e in (p, (none_holds rules).0 q),
  λ h. rw h.0 ((none_holds rules).1 h.1),
)

-- there is no refusal exactly where there is none of either
pub lower_none : (a b : Option Refusal) → (lower a b ≡ None) ↔ ((a ≡ None) × (b ≡ None))
lower_none None b = (λ e. (refl, e), λ h. h.1)
lower_none (Some r) None = (λ e. absurd (none-some r (sym e)), λ h. h.0)
lower_none (Some r) (Some s) = (λ e. absurd (refused (ltb (number s) (number r)) e), λ h. absurd (none-some r (sym h.0)))
  where
    refused : (t : Bool) → cond t (Some s) (Some r) ≡ None → ⊥
    refused true e = none-some s (sym e)
    refused false e = none-some r (sym e)

pub or_else_none : (a b : Option Refusal) → (or_else a b ≡ None) ↔ ((a ≡ None) × (b ≡ None))
or_else_none None b = (λ e. (refl, e), λ h. h.1)
or_else_none (Some r) b = (λ e. absurd (none-some r (sym e)), λ h. h.0)
