-- Three shifts of which two are equal, and the third. Assumes nothing.
use Prim.Native.Nat.{ℕ}
use mathlib.Core.Path.{◌≡◌, refl, sym}
use mathlib.Core.Logic.{inl, inr}
use mathlib.Core.List.{List, [], ◌∷◌}
use Rattle.std.specs.Prelude.{None, Some}
use native.Mathlib.Omega.{arith}
use borrow.Author.Tests.{eqb-true}
use lib.Dec.{eqb}
use Rattle.graph.specs.Count.{Mem}
use Rattle.graph.proofs.Decide.{by_bool}
use Rattle.bidiagonal.specs.Shape.{third}

-- a twice, and x
pub data Twice (x : ℕ) : List ℕ → Type 0 where
  upper_two : (a : ℕ) → Twice x (a ∷ a ∷ x ∷ [])
  outer_two : (a : ℕ) → Twice x (a ∷ x ∷ a ∷ [])
  lower_two : (a : ℕ) → Twice x (x ∷ a ∷ a ∷ [])

-- THE LAW: a list has a third where it is one of these
pub twice : (l : List ℕ) (x : ℕ) → third l ≡ Some x → Twice x l
twice [] x e = absurd (let z : ◌≡◌ {A = ℕ} 0 1 = cc in omega arith)
twice (a ∷ []) x e = absurd (let z : ◌≡◌ {A = ℕ} 0 1 = cc in omega arith)
twice (a ∷ b ∷ []) x e = absurd (let z : ◌≡◌ {A = ℕ} 0 1 = cc in omega arith)
twice (a ∷ b ∷ c ∷ []) x e =
    by_bool (eqb a b)
    (λ p. upper c (same c (rw p at e)) (eqb-true a b p))
    (λ p.
    by_bool (eqb a c)
    (λ r. outer (same b (rw (p, r) at e)) (eqb-true a c r))
    (λ r.
    by_bool (eqb b c)
    (λ s. lower (same a (rw (p, r, s) at e)) (eqb-true b c s))
    (λ s. absurd (let z : ◌≡◌ {A = ℕ} 0 1 = never (rw (p, r, s) at e) in omega arith))))
  where
    same : (m : ℕ) → Some m ≡ Some x → m ≡ x
    same m q = cc

    never : None ≡ Some x → ◌≡◌ {A = ℕ} 0 1
    never q = cc

    upper : (c : ℕ) → c ≡ x → a ≡ b → Twice x (a ∷ b ∷ c ∷ [])
    upper c p q = rw (p, sym q) (upper_two a)

    outer : b ≡ x → a ≡ c → Twice x (a ∷ b ∷ c ∷ [])
    outer p q = rw (p, sym q) (outer_two a)

    lower : a ≡ x → b ≡ c → Twice x (a ∷ b ∷ c ∷ [])
    lower p q = rw (p, sym q) (lower_two b)
twice (a ∷ b ∷ c ∷ d ∷ l) x e = absurd (let z : ◌≡◌ {A = ℕ} 0 1 = cc in omega arith)

pub third_mem : {x : ℕ} {l : List ℕ} → Twice x l → Mem x l
third_mem (upper_two a) = inr (inr (inl refl))
third_mem (outer_two a) = inr (inl refl)
third_mem (lower_two a) = inl refl
