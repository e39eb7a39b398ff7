-- A closed walk of two, three or five axis-parallel moves whose neighbours differ in direction does not exist in a grid, and one of
-- four moves goes X Y X Y. A direction that stands once in the walk would change its coordinate and never change it back.
-- Assumes nothing.
use mathlib.Core.Path.{◌≡◌, sym, ◌∙◌}
use mathlib.Core.Logic.{◌≢◌}
use Prim.Native.Nat.{ℕ}

-- from the point b to the point c along the direction k: no other coordinate changes, and that one does
pub record Move {B K : Type 0} (x : K → B → ℕ) (k : K) (b c : B) : Type 0 where
  pub keeps : (i : K) → i ≢ k → x i b ≡ x i c
  pub turns : x k b ≢ x k c

flip : {K : Type 0} {k l : K} → k ≢ l → l ≢ k
flip h e = h (sym e)

module _ {B K : Type 0} (eq? : Discrete K) (x : K → B → ℕ) where
  pub two : {k l : K} {b c : B} → Move x k b c → Move x l c b → k ≢ l → ⊥
  two {k} m n h = m.turns (sym (n.keeps k h))

  pub three : {k l h : K} {a b c : B} → Move x k a b → Move x l b c → Move x h c a → k ≢ l → h ≢ k → ⊥
  three {k} m n o e f = m.turns (sym (n.keeps k e ∙ o.keeps k (flip f)))

  pub four : {k l k' l' : K} {a b c d : B} → Move x k a b → Move x l b c → Move x k' c d → Move x l' d a → k ≢ l → l' ≢ k → k ≡ k'
  four {k} {k' = k'} m n o p e f = go (eq? k k')
    where
      go : Dec (k ≡ k') → k ≡ k'
      go (yes q) = q
      go (no q) = absurd (m.turns (sym (n.keeps k e ∙ o.keeps k q ∙ p.keeps k (flip f))))

  lone : {k₀ k₁ k₂ k₃ k₄ : K} {a b c d e : B} → Move x k₀ a b → Move x k₁ b c → Move x k₂ c d → Move x k₃ d e → Move x k₄ e a
      → k₀ ≢ k₁ → k₀ ≢ k₂ → k₀ ≢ k₃ → k₀ ≢ k₄ → ⊥
  lone {k₀} m n o p q h₁ h₂ h₃ h₄ = m.turns (sym (n.keeps k₀ h₁ ∙ o.keeps k₀ h₂ ∙ p.keeps k₀ h₃ ∙ q.keeps k₀ h₄))

  paired : {k₀ k₁ k₂ k₃ k₄ : K} {a b c d e : B} → Move x k₀ a b → Move x k₁ b c → Move x k₂ c d → Move x k₃ d e → Move x k₄ e a
      → k₀ ≢ k₁ → k₁ ≢ k₂ → k₂ ≢ k₃ → k₃ ≢ k₄ → k₄ ≢ k₀ → k₀ ≡ k₂ → ⊥
  paired {k₀} {k₁} {k₂} {k₃} {k₄} m n o p q h₀ h₁ h₂ h₃ h₄ s = go (eq? k₁ k₃) (eq? k₁ k₄)
    where
      go : Dec (k₁ ≡ k₃) → Dec (k₁ ≡ k₄) → ⊥
      go (yes t) u = lone q m n o p h₄ (λ w. h₃ (sym (w ∙ t))) (λ w. h₄ (w ∙ sym s)) (flip h₃)
      go (no t) (yes u) = lone p q m n o h₃ (λ w. h₂ (sym (w ∙ s))) (λ w. h₃ (w ∙ u)) (flip h₂)
      go (no t) (no u) = lone n o p q m h₁ t u (flip h₀)

  pub five : {k₀ k₁ k₂ k₃ k₄ : K} {a b c d e : B} → Move x k₀ a b → Move x k₁ b c → Move x k₂ c d → Move x k₃ d e → Move x k₄ e a
      → k₀ ≢ k₁ → k₁ ≢ k₂ → k₂ ≢ k₃ → k₃ ≢ k₄ → k₄ ≢ k₀ → ⊥
  five {k₀} {k₁} {k₂} {k₃} {k₄} m n o p q h₀ h₁ h₂ h₃ h₄ = go (eq? k₀ k₂) (eq? k₃ k₀)
    where
      go : Dec (k₀ ≡ k₂) → Dec (k₃ ≡ k₀) → ⊥
      go (yes s) t = paired m n o p q h₀ h₁ h₂ h₃ h₄ s
      go (no s) (yes t) = paired p q m n o h₃ h₄ h₀ h₁ h₂ t
      go (no s) (no t) = lone m n o p q h₀ s (flip t) (flip h₄)
