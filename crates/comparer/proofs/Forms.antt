-- A text agrees with an alist exactly where it agrees with one of its two forms. Assumes nothing.
use Rattle.std.specs.Prelude.{Result, Ok, Err, ⊤, MatchResult, Option, None, Some}
use Rattle.refusal.specs.Answer.{ok_unless}
use Prim.Native.Nat.{ℕ, max}
use mathlib.Core.Path.{◌≡◌, refl, sym}
use mathlib.Core.Logic.{◌↔◌}
use mathlib.Core.List.{List}
use native.Mathlib.Omega.{arith}
use Rattle.graph.specs.Graph.{Bipartite}
use Rattle.tokens.specs.declared.Form.{Form}
use Rattle.tokens.specs.declared.Form.TheVariants.{Padded, Unpadded}
use Rattle.comparer.specs.Verdict.{departs_in, later, departs}

module _ (text : List ℕ) (G : Bipartite) where
  -- what agrees with a form agrees, and what agrees does so with a form
  pub agrees_exactly : (departs text G ≡ None) ↔ ((form : Form) × (departs_in form text G ≡ None))
  unfolding departs
  agrees_exactly = (λ e. by_places (departs_in Padded text G) (departs_in Unpadded text G) refl refl e, λ f. by_form f.0 f.1)
    where
      by_places : (p q : Option ℕ) → departs_in Padded text G ≡ p → departs_in Unpadded text G ≡ q → later p q ≡ None → (form : Form) × (departs_in form text G ≡ None)
      by_places None q d f e = (Padded, d)
      by_places (Some p) None d f e = (Unpadded, f)
      by_places (Some p) (Some q) d f e = absurd (let z : ◌≡◌ {A = ℕ} 0 1 = cc in omega arith)

      later_none : (p : Option ℕ) → later p None ≡ None
      later_none None = refl
      later_none (Some p) = refl

      by_form : (form : Form) → departs_in form text G ≡ None → later (departs_in Padded text G) (departs_in Unpadded text G) ≡ None
      by_form Padded e = rw e
      by_form Unpadded e = rw e (later_none (departs_in Padded text G))

  -- where it agrees with neither, the later of the two places is shown, and only then
  pub later_place : (p q : ℕ) → departs_in Padded text G ≡ Some p → departs_in Unpadded text G ≡ Some q → departs text G ≡ Some (max p q)
  unfolding departs
  later_place p q d f = rw (d, f)

  pub record Places (place : ℕ) : Type 0 where
    pub p : ℕ
    pub q : ℕ
    pub padded : departs_in Padded text G ≡ Some p
    pub unpadded : departs_in Unpadded text G ≡ Some q
    pub is : place ≡ max p q

  pub place_later : (place : ℕ) → departs text G ≡ Some place → Places place
  unfolding departs
  place_later place e = by_places (departs_in Padded text G) (departs_in Unpadded text G) refl refl e
    where
      by_places : (o u : Option ℕ) → departs_in Padded text G ≡ o → departs_in Unpadded text G ≡ u → later o u ≡ Some place → Places place
      by_places None u d f e = absurd (let z : ◌≡◌ {A = ℕ} 0 1 = cc in omega arith)
      by_places (Some p) None d f e = absurd (let z : ◌≡◌ {A = ℕ} 0 1 = cc in omega arith)
      by_places (Some p) (Some q) d f e = let s : max p q ≡ place = cc in record { p = p; q = q; padded = d; unpadded = f; is = sym s }

-- BY THE COMPARER'S ANSWERS: f for the padded form and, where that differs at p, the answer for the unpadded one

abbrev pub or_later : ℕ → Result ⊤ ℕ → Result ⊤ ℕ
or_later p (Ok v) = Ok v
or_later p (Err q) = Err (max p q)

pub either_form : (o u : Option ℕ) (f r : Result ⊤ ℕ) → f ≡ ok_unless o → MatchResult f (λ v. r ≡ Ok v) (λ p. r ≡ or_later p (ok_unless u)) → r ≡ ok_unless (later o u)
either_form None u f r e h = rw e at h
either_form (Some p) None f r e h = rw e at h
either_form (Some p) (Some q) f r e h = rw e at h
