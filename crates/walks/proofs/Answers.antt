-- The first answer among several, and whether a root has one. Assumes nothing.
use Rattle.std.specs.Prelude.{Option}
use Prim.Native.Nat.{ℕ, zero, suc, ◌+◌, ◌≤◌, ◌<◌}
use mathlib.Core.Path.{◌≡◌, refl, sym, subst}
use mathlib.Core.Logic.{inl, inr, ◌⊎◌}
use mathlib.Core.List.{List, [], ◌∷◌}
use Rattle.std.specs.Prelude.{None, Some}
use Rattle.std.proofs.lemmas.Option.{none-some}
use native.Mathlib.Omega.{arith}
use Rattle.graph.specs.Count.{Mem}
use Rattle.graph.proofs.Decide.{by_eq}
use Rattle.walks.specs.Ways.{Way}
use Rattle.walks.specs.Meeting.{repeat, with_way, or_else, first_of}
use Rattle.walks.proofs.Repeats.{none_seen, some_mem}

or_some : (a b : Option Way) (w : Way) → or_else a b ≡ Some w → (a ≡ Some w) ⊎ (b ≡ Some w)
or_some None b w e = inr e
or_some (Some k) b w e = inl e

or_none : (a b : Option Way) → or_else a b ≡ None → (a ≡ None) × (b ≡ None)
or_none None b e = (refl, e)
or_none (Some w) b e = absurd (none-some w (sym e))

pub some_at : (f : ℕ → Option Way) (k i : ℕ) (w : Way) → first_of f k i ≡ Some w → (j : ℕ) × (i ≤ j) × (j < i + k) × (f j ≡ Some w)
unfolding first_of
some_at f zero i w e = absurd (none-some w e)
some_at f (suc k) i w e =
    elim (or_some (f i) (first_of f k (suc i)) w e) [
      | inl h ↦ (i, omega arith, omega arith, h)
      | inr h ↦ let (j, p, q, a) = some_at f k (suc i) w h in (j, omega arith, omega arith, a)
    ]

pub none_at : (f : ℕ → Option Way) (k i : ℕ) → first_of f k i ≡ None → (j : ℕ) → i ≤ j → j < i + k → f j ≡ None
unfolding first_of
none_at f zero i e j p q = absurd (let z : ⊥ = omega arith in z)
none_at f (suc k) i e j p q =
    let (a, b) = or_none (f i) (first_of f k (suc i)) e in
    by_eq i j (λ s. subst (λ (n : ℕ). f n ≡ None) s a) (λ d. none_at f k (suc i) b j (omega arith) (omega arith))

pub with_some : (r : Option Way) (f : Way → Option Way) (c : Way) → with_way r f ≡ Some c → (w : Way) × (r ≡ Some w) × (f w ≡ Some c)
with_some None f c e = absurd (none-some c e)
with_some (Some w) f c e = (w, refl, e)

-- a root where no two ways meet
pub missed : (W : List Way) (f : Way → Way → Way) → with_way (repeat [] W) (λ w. with_way (repeat (w.end ∷ []) W) (λ v. Some (f w v))) ≡ None → repeat [] W ≡ None
missed W f e = go (repeat [] W) refl e
  where
    again : (w : Way) → Mem w W → (r : Option Way) → repeat (w.end ∷ []) W ≡ r → with_way r (λ v. Some (f w v)) ≡ None → ⊥
    again w m None h e = none_seen (w.end ∷ []) W h w m (inl refl)
    again w m (Some v) h e = none-some (f w v) (sym e)

    go : (r : Option Way) → repeat [] W ≡ r → with_way r (λ w. with_way (repeat (w.end ∷ []) W) (λ v. Some (f w v))) ≡ None → r ≡ None
    go None h e = refl
    go (Some w) h e = absurd (again w (some_mem [] W w h) (repeat (w.end ∷ []) W) refl e)
