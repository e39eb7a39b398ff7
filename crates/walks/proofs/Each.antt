-- The laws of `each` and `and_then`: what a list over a range of steps has; the same one turn on, at its end, and where an index
-- skips. Assumes nothing.
use Rattle.std.specs.Prelude.{Option, Some, None}
use Prim.Native.Nat.{ℕ, zero, suc, ◌+◌, ◌-◌, ◌≤◌, ◌<◌}
use mathlib.Core.Path.{◌≡◌, refl, sym, ap, ap₂, subst, ◌∙◌}
use mathlib.Core.Logic.{inl, inr}
use mathlib.Core.Bool.{Bool, false}
use mathlib.Core.List.{List, [], ◌++◌, map, map-append}
use native.Mathlib.Omega.{arith}
use native.Mathlib.Numerals.{add-one}
use Rattle.graph.specs.Count.{Mem, Nodup}
use Rattle.graph.proofs.Decide.{by_eq}
use Rattle.graph.proofs.Lists.{mem_left, mem_right, mem_append, nodup_append}
use Rattle.exponent.specs.declared.position.Position.{Position}
use Rattle.index.specs.Index.{NextFrom}
use Rattle.walks.specs.Ways.{and_then, each}

-- A range, one turn on, and at its end.

pub one_less : (n i : ℕ) → i < n → n - i ≡ suc (n - (i + 1))
one_less n i h = omega arith

pub none_left : (n i : ℕ) → n ≤ i → n - i ≡ 0
none_left n i h = omega arith

module _ {A : Type 0} (f : ℕ → List A) where
  -- WHAT IS IN A LIST

  pub mem_each : (k i : ℕ) (w : A) → Mem w (each f k i) → (j : ℕ) × (i ≤ j) × (j < i + k) × Mem w (f j)
  unfolding each
  mem_each zero i w m = absurd m
  mem_each (suc k) i w m =
      elim (mem_append w (f i) (each f k (suc i)) m) [
        | inl h ↦ (i, omega arith, omega arith, h)
        | inr h ↦ let (j, p, q, a) = mem_each k (suc i) w h in (j, omega arith, omega arith, a)
      ]

  pub each_mem : (k i j : ℕ) (w : A) → i ≤ j → j < i + k → Mem w (f j) → Mem w (each f k i)
  unfolding each
  each_mem zero i j w p q m = absurd (let z : ⊥ = omega arith in z)
  each_mem (suc k) i j w p q m =
      by_eq i j (λ e. mem_left w (f i) (each f k (suc i)) (subst (λ (x : ℕ). Mem w (f x)) (sym e) m))
      (λ d. mem_right w (f i) (each f k (suc i)) (each_mem k (suc i) j w (omega arith) (omega arith) m))

  pub nodup_each : (key : A → ℕ) → ((j : ℕ) → Nodup (f j)) → ((j : ℕ) (w : A) → Mem w (f j) → key w ≡ j) → (k i : ℕ) → Nodup (each f k i)
  unfolding each
  nodup_each key d h zero i = tt
  nodup_each key d h (suc k) i =
      nodup_append (f i) (each f k (suc i)) (d i) (nodup_each key d h k (suc i))
      (λ w a b. let (j, p, q, m) = mem_each k (suc i) w b in omega (arith, h i w a, h j w m))

  -- WHAT IS LEFT OF IT

  module _ (n : ℕ) where
    pub each_turn : (i : ℕ) → i < n → each f (n - i) i ≡ f i ++ each f (n - (i + 1)) (i + 1)
    unfolding each
    each_turn i h = ap (λ (k : ℕ). each f k i) (one_less n i h) ∙ ap (λ (k : ℕ). f i ++ each f (n - (i + 1)) k) (sym (add-one i))

    pub each_end : (i : ℕ) → n ≤ i → each f (n - i) i ≡ []
    unfolding each
    each_end i h = ap (λ (k : ℕ). each f k i) (none_left n i h)

    skip_by : (d i : ℕ) → i + d ≤ n → ((k : ℕ) → i ≤ k → k < i + d → f k ≡ []) → each f (n - i) i ≡ each f (n - (i + d)) (i + d)
    skip_by zero i h e = ap (λ (k : ℕ). each f (n - k) k) (let z : i ≡ i + 0 = omega arith in z)
    skip_by (suc d) i h e =
        each_turn i (omega arith) ∙ ap (λ (l : List A). l ++ each f (n - (i + 1)) (i + 1)) (e i (omega arith) (omega arith))
        ∙ skip_by d (i + 1) (omega arith) (λ k a b. e k (omega arith) (omega arith))
        ∙ ap (λ (k : ℕ). each f (n - k) k) (let z : i + 1 + d ≡ i + suc d = omega arith in z)

    pub each_skip : (i m : ℕ) → i ≤ m → m ≤ n → ((k : ℕ) → i ≤ k → k < m → f k ≡ []) → each f (n - i) i ≡ each f (n - m) m
    each_skip i m a b e =
        skip_by (m - i) i (omega arith) (λ k p q. e k p (omega arith)) ∙ ap (λ (k : ℕ). each f (n - k) k) (let z : i + (m - i) ≡ m = omega arith in z)

-- the image of such a list
pub each_map : {A C : Type 0} (f : A → C) (h : ℕ → List C) (g : ℕ → List A) (k i : ℕ) → ((j : ℕ) → i ≤ j → j < i + k → h j ≡ map f (g j)) → each h k i ≡ map f (each g k i)
unfolding each
each_map f h g zero i e = refl
each_map f h g (suc k) i e =
    ap₂ ◌++◌ (e i (omega arith) (omega arith)) (each_map f h g k (suc i) (λ j p q. e j (omega arith) (omega arith))) ∙ sym (map-append f (g i) (each g k (suc i)))

module _ {A : Type 0} where
  -- BEHIND A STEP

  pub mem_then : (s : Option Position) (next : Position → List A) (w : A) → Mem w (and_then s next) → (q : Position) × (s ≡ Some q) × Mem w (next q)
  mem_then None next w m = absurd m
  mem_then (Some q) next w m = (q, refl, m)

  pub then_mem : (s : Option Position) (next : Position → List A) (q : Position) (w : A) → s ≡ Some q → Mem w (next q) → Mem w (and_then s next)
  then_mem s next q w e m = rw e m

  pub nodup_then : (s : Option Position) (next : Position → List A) → ((q : Position) → s ≡ Some q → Nodup (next q)) → Nodup (and_then s next)
  nodup_then None next d = tt
  nodup_then (Some q) next d = d q refl

  -- where an index skips, no step is taken
  pub steps_skip : (step : ℕ → (Option Position)) (next : Position → List A) {test : ℕ → Bool} {i n m : ℕ} → NextFrom test i n m → ((k : ℕ) → test k ≡ false → step k ≡ None)
      → each (λ k. and_then (step k) next) (n - i) i ≡ each (λ k. and_then (step k) next) (n - m) m
  steps_skip step next {i = i} {n = n} {m = m} f stay =
      each_skip (λ k. and_then (step k) next) n i m f.from_here f.inside (λ k p q. ap (λ (t : Option Position). and_then t next) (stay k (f.none_between k p q)))
