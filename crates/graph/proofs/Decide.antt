-- Case distinctions: what is decided comes first, so that each case knows its hypothesis. Assumes nothing.
use Prim.Native.Nat.{ℕ, ◌≤◌, ◌<◌}
use mathlib.Core.Path.{◌≡◌, refl, sym, ◌∙◌}
use mathlib.Core.Logic.{◌⊎◌, inl, inr}
use mathlib.Core.Bool.{Bool, true, false, ◌&&◌, ◌||◌, true≢false}
use native.Mathlib.Decide.{dec_le, ℕ_discrete}
use native.Mathlib.Omega.{arith}

pub both_ways {ℓ} : {A : Type ℓ} {t : Bool} → t ≡ true → t ≡ false → A
both_ways p q = absurd (true≢false (sym p ∙ q))

pub by_bool {ℓ} : {C : Type ℓ} (t : Bool) → (t ≡ true → C) → (t ≡ false → C) → C
by_bool true f g = f refl
by_bool false f g = g refl

pub by_eq {ℓ} : {C : Type ℓ} (a b : ℕ) → (a ≡ b → C) → ((a ≡ b → ⊥) → C) → C
by_eq a b f g = elim (ℕ_discrete a b) [ yes q ↦ f q | no q ↦ g q ]

pub by_le {ℓ} : {C : Type ℓ} (a b : ℕ) → (a ≤ b → C) → (b < a → C) → C
by_le a b f g = elim (dec_le a b) [ yes q ↦ f q | no q ↦ g (omega arith) ]

pub and_left : (a b : Bool) → (a && b) ≡ true → a ≡ true
and_left true b e = refl
and_left false b e = e

pub and_right : (a b : Bool) → (a && b) ≡ true → b ≡ true
and_right true b e = e
and_right false b e = both_ways {t = false} e refl

pub and_both : (a b : Bool) → a ≡ true → b ≡ true → (a && b) ≡ true
and_both true b p q = q
and_both false b p q = p

pub or_either : (a b : Bool) → (a || b) ≡ true → (a ≡ true) ⊎ (b ≡ true)
or_either true b e = inl refl
or_either false b e = inr e

pub neither : (a b : Bool) → (a || b) ≡ false → (a ≡ false) × (b ≡ false)
neither true b e = both_ways {t = true} refl e
neither false b e = (refl, e)

pub same_bool : (a b : Bool) → (a ≡ true → b ≡ true) → (b ≡ true → a ≡ true) → a ≡ b
same_bool true b f g = sym (f refl)
same_bool false true f g = g refl
same_bool false false f g = refl
