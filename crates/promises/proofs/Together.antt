-- Two answers together: the lower of both, and one after the other. Assumes nothing.
use Prim.Native.Nat.{ℕ, ◌≤◌, ◌<◌}
use mathlib.Core.Path.{◌≡◌, refl, sym, ap, subst, subst₂, ◌∙◌}
use mathlib.Core.Logic.{inl, inr}
use mathlib.Core.Bool.{Bool, true, false, cond}
use mathlib.Core.List.{List}
use Rattle.std.specs.Prelude.{Option, None, Some}
use Rattle.std.proofs.lemmas.Option.{none-some}
use native.Mathlib.Omega.{arith}
use borrow.Author.Tests.{ltb-true, ltb-false}
use lib.Dec.{ltb}
use Rattle.refusal.specs.declared.Refusal.{Refusal}
use Rattle.refusal.specs.Number.{number, values}
use Rattle.refusal.specs.Lowest.{lower, or_else}
use Rattle.promises.specs.TurnedAway.{◌or◌, ◌over◌, Lowest, LowestOf}

module _ {Applies : ℕ → List ℕ → Type 0} where
  -- there is one lowest number, with one list of values
  one_lowest : {m n : ℕ} {k l : List ℕ} → Lowest Applies m k → Lowest Applies n l → (m ≡ n) × (k ≡ l)
  one_lowest {m} {n} {k} {l} v w =
      let e : m ≡ n = omega (arith, v.none_lower n l w.applies, w.none_lower m k v.applies) in
      (e, w.no_other k (subst (λ (x : ℕ). Applies x k) e v.applies))

  -- an answer by what it refuses, or that it refuses nothing
  of_refusal : (r : Refusal) → Lowest Applies (number r) (values r) → LowestOf Applies (Some r)
  of_refusal r w =
      record {
        given = λ n l. (λ (s, e, p, q). let f : r ≡ s = cc in subst₂ (Lowest Applies) (ap number f ∙ p) (ap values f ∙ q) w, λ v. let (p, q) = one_lowest w v in (r, refl, p, q));
        only_then = (λ e. absurd (none-some r (sym e)), λ nowhere. absurd (nowhere (number r) (values r) w.applies));
      }

  of_none : ((n : ℕ) (l : List ℕ) → Applies n l → ⊥) → LowestOf Applies None
  of_none nowhere = record { given = λ n l. (λ (s, e, p, q). absurd (none-some s e), λ w. absurd (nowhere n l w.applies)); only_then = (λ e. nowhere, λ h. refl) }

  the_refusal : (r : Refusal) → LowestOf Applies (Some r) → Lowest Applies (number r) (values r)
  the_refusal r h = (h.given (number r) (values r)).0 (r, refl, refl, refl)

  nothing : LowestOf Applies None → (n : ℕ) (l : List ℕ) → Applies n l → ⊥
  nothing h = h.only_then.0 refl

module _ (A B : ℕ → List ℕ → Type 0) where
  -- the first is the lower, or has the same number; or the second is the lower
  first_lowest : {n : ℕ} {l : List ℕ} → Lowest A n l → ((m : ℕ) (k : List ℕ) → B m k → n ≤ m) → Lowest (A over B) n l
  first_lowest {n} {l} w least = record { applies = inl w.applies; none_lower = low; no_other = same }
    where
      low : (m : ℕ) (k : List ℕ) → (A over B) m k → n ≤ m
      low m k (inl a) = w.none_lower m k a
      low m k (inr (b, _)) = least m k b

      same : (k : List ℕ) → (A over B) n k → k ≡ l
      same k (inl a) = w.no_other k a
      same k (inr (b, None-first)) = absurd (None-first l w.applies)

  second_lowest : {n : ℕ} {l : List ℕ} → Lowest B n l → ((m : ℕ) (k : List ℕ) → A m k → n < m) → Lowest (A over B) n l
  second_lowest {n} {l} w above = record { applies = inr (w.applies, λ k a. omega (arith, above n k a)); none_lower = low; no_other = same }
    where
      low : (m : ℕ) (k : List ℕ) → (A over B) m k → n ≤ m
      low m k (inl a) = omega (arith, above m k a)
      low m k (inr (b, _)) = w.none_lower m k b

      same : (k : List ℕ) → (A over B) n k → k ≡ l
      same k (inl a) = absurd (omega (arith, above n k a))
      same k (inr (b, _)) = w.no_other k b

  pub lower_of : (a b : Option Refusal) → LowestOf A a → LowestOf B b → LowestOf (A over B) (lower a b)
  lower_of None None f g = of_none none_of
    where
      none_of : (n : ℕ) (l : List ℕ) → (A over B) n l → ⊥
      none_of n l (inl a) = nothing f n l a
      none_of n l (inr (b, _)) = nothing g n l b
  lower_of None (Some s) f g = of_refusal s (second_lowest (the_refusal s g) (λ m k a. absurd (nothing f m k a)))
  lower_of (Some r) None f g = of_refusal r (first_lowest (the_refusal r f) (λ m k b. absurd (nothing g m k b)))
  lower_of (Some r) (Some s) f g = pick (ltb (number s) (number r)) refl
    where
      pick : (t : Bool) → ltb (number s) (number r) ≡ t → LowestOf (A over B) (cond t (Some s) (Some r))
      pick true e = of_refusal s (second_lowest (the_refusal s g) (λ m k a. omega (arith, ltb-true (number s) (number r) e, (the_refusal r f).none_lower m k a)))
      pick false e = of_refusal r (first_lowest (the_refusal r f) (λ m k b. omega (arith, ltb-false (number s) (number r) e, (the_refusal s g).none_lower m k b)))

  -- B is judged where A refuses nothing, and its numbers are higher
  pub after_of : (a b : Option Refusal) → LowestOf A a → (a ≡ None → LowestOf B b) → ((m n : ℕ) (k l : List ℕ) → A m k → B n l → m < n) → LowestOf (A or B) (or_else a b)
  after_of None None f g higher = of_none none_of
    where
      none_of : (n : ℕ) (l : List ℕ) → (A or B) n l → ⊥
      none_of n l (inl a) = nothing f n l a
      none_of n l (inr b) = nothing (g refl) n l b
  after_of None (Some s) f g higher = let w = the_refusal s (g refl) in of_refusal s (record { applies = inr w.applies; none_lower = low w; no_other = same w })
    where
      low : Lowest B (number s) (values s) → (m : ℕ) (k : List ℕ) → (A or B) m k → number s ≤ m
      low w m k (inl a) = absurd (nothing f m k a)
      low w m k (inr b) = w.none_lower m k b

      same : Lowest B (number s) (values s) → (k : List ℕ) → (A or B) (number s) k → k ≡ values s
      same w k (inl a) = absurd (nothing f (number s) k a)
      same w k (inr b) = w.no_other k b
  after_of (Some r) b f g higher = let w = the_refusal r f in of_refusal r (record { applies = inl w.applies; none_lower = low w; no_other = same w })
    where
      low : Lowest A (number r) (values r) → (m : ℕ) (k : List ℕ) → (A or B) m k → number r ≤ m
      low w m k (inl a) = w.none_lower m k a
      low w m k (inr b) = omega (arith, higher (number r) m (values r) k w.applies b)

      same : Lowest A (number r) (values r) → (k : List ℕ) → (A or B) (number r) k → k ≡ values r
      same w k (inl a) = w.no_other k a
      same w k (inr b) = absurd (omega (arith, higher (number r) (number r) (values r) k w.applies b))
