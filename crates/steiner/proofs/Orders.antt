-- The five orders: what holds of each of them holds of every order. Assumes nothing.
use Prim.Native.Nat.{ℕ, ◌+◌, ◌*◌, ◌≤◌}
use mathlib.Core.Path.{◌≡◌, sym, subst}
use mathlib.Core.Bool.{true, false}
use native.Mathlib.Omega.{arith}
use borrow.Author.Tests.{ne_eqb}
use Rattle.graph.specs.Count.{member}
use Rattle.graph.proofs.Decide.{both_ways, by_eq}
use Rattle.steiner.specs.System.{is_order, cols, start_among, start}

pub by_order : (P : ℕ → Type 0) → P 7 → P 9 → P 13 → P 15 → P 19 → (v : ℕ) → is_order v ≡ true → P v
unfolding is_order member
by_order P p7 p9 p13 p15 p19 v known =
    by_eq v 7 (λ e. subst P (sym e) p7)
    (λ a. by_eq v 9 (λ e. subst P (sym e) p9)
    (λ b. by_eq v 13 (λ e. subst P (sym e) p13)
    (λ c. by_eq v 15 (λ e. subst P (sym e) p15)
    (λ d. by_eq v 19 (λ e. subst P (sym e) p19)
    (λ e. absurd (both_ways known (none a b c d e)))))))
  where
    none : (v ≡ 7 → ⊥) → (v ≡ 9 → ⊥) → (v ≡ 13 → ⊥) → (v ≡ 15 → ⊥) → (v ≡ 19 → ⊥) → is_order v ≡ false
    none a b c d e = simp (ne_eqb v 7 a, ne_eqb v 9 b, ne_eqb v 13 c, ne_eqb v 15 d, ne_eqb v 19 e)

-- the numbers of an order
pub record Small (v : ℕ) : Type 0 where
  pub some_points : 7 ≤ v
  pub few_points : v ≤ 19
  pub some_triples : 7 ≤ cols v
  pub few_triples : cols v ≤ 57
  pub few_entries : v * cols v ≤ 1083
  pub listed : start v + 3 * cols v ≤ 411

limits : (v : ℕ) → is_order v ≡ true → (7 ≤ v) × (v ≤ 19) × (7 ≤ cols v) × (cols v ≤ 57) × (v * cols v ≤ 1083) × (start v + 3 * cols v ≤ 411)
unfolding cols start start_among
limits =
    by_order (λ (v : ℕ). (7 ≤ v) × (v ≤ 19) × (7 ≤ cols v) × (cols v ≤ 57) × (v * cols v ≤ 1083) × (start v + 3 * cols v ≤ 411))
    (omega arith) (omega arith) (omega arith) (omega arith) (omega arith)

pub small : (v : ℕ) → is_order v ≡ true → Small v
small v known =
    let (a, b, c, d, e, f) = limits v known in
    record { some_points = a; few_points = b; some_triples = c; few_triples = d; few_entries = e; listed = f }
