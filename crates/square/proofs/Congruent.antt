-- Congruence modulo P over the naturals, as an equation that `omega` can add up: u + m P ≡ v + n P.
-- Assumes nothing.
use mathlib.Core.Path.{◌≡◌, sym, ◌∙◌, ap}
use Prim.Native.Nat.{ℕ, zero, suc, ◌+◌, ◌-◌, ◌*◌, ◌/◌, ◌%◌, ◌<◌}
use native.Mathlib.Nat.{mod-add-div', mod-lt, add-mul-mod_self_right}
use native.Mathlib.Omega.{arith}
use Rattle.square.specs.Table.{minus}

pub record Congruent (P u v : ℕ) : Type 0 where
  pub m : ℕ
  pub n : ℕ
  pub same : u + m * P ≡ v + n * P

pub of_mod : (P u v : ℕ) → u % P ≡ v % P → Congruent P u v
of_mod P u v e = record { m = v / P; n = u / P; same = omega (arith, mod-add-div' u P, mod-add-div' v P) }

pub to_mod : {P u v : ℕ} → Congruent P u v → u % P ≡ v % P
to_mod {P} {u} {v} c = sym (add-mul-mod_self_right u c.m P) ∙ ap (◌% P) c.same ∙ add-mul-mod_self_right v c.n P

-- numbers that are congruent and less than P apart are equal
pub close : {P u v : ℕ} → Congruent P u v → u < v + P → v < u + P → u ≡ v
close {P} {u} {v} c h k = go c.m c.n c.same
  where
    go : (m n : ℕ) → u + m * P ≡ v + n * P → u ≡ v
    go zero zero e = omega arith
    go zero (suc n) e = absurd (omega arith)
    go (suc m) zero e = absurd (omega arith)
    go (suc m) (suc n) e = go m n (omega arith)

-- (y + v mod P) mod P as an equation
pub turned : (P y v z : ℕ) → z ≡ (y + v % P) % P → (q : ℕ) × (y + v ≡ z + q * P)
turned P y v z e = ((y + v % P) / P + v / P, omega (arith, mod-add-div' (y + v % P) P, mod-add-div' v P))

-- equal differences are congruent cross sums, and the other way round
pub of_minus : (P a b c d : ℕ) → 0 < P → minus P a b ≡ minus P c d → Congruent P (a + d) (c + b)
of_minus P a b c d p e =
    let w : Congruent P (a + (P - b % P)) (c + (P - d % P)) = of_mod P _ _ e in
    record { m = b / P + w.m; n = d / P + w.n; same = omega (arith, w.same, mod-add-div' b P, mod-add-div' d P, mod-lt b p, mod-lt d p) }

pub to_minus : (P a b c d : ℕ) → 0 < P → Congruent P (a + d) (c + b) → minus P a b ≡ minus P c d
to_minus P a b c d p e =
    to_mod
    (record { m = d / P + e.m; n = b / P + e.n; same = omega (arith, e.same, mod-add-div' b P, mod-add-div' d P, mod-lt b p, mod-lt d p) })
