-- Laws of `each`: nested counting is counting by digits, which is how the code goes through it. Assumes nothing.
use Prim.Native.Nat.{ℕ, zero, suc, ◌+◌, ◌*◌, ◌/◌, ◌%◌, ◌<◌, ◌≤◌}
use mathlib.Core.Path.{◌≡◌, refl, sym, ap, ap₂, subst, ◌∙◌}
use mathlib.Core.Logic.{◌⊎◌, inl, inr}
use mathlib.Core.Bool.{Bool, true, false}
use mathlib.Core.List.{List, [], ◌∷◌, ◌++◌, map, append-nil, append_assoc, map-append}
use native.Mathlib.Nat.{add-zero, suc-mul, zero-mul}
use native.Mathlib.Decide.{ℕ_discrete}
use native.Mathlib.Omega.{arith}
use lib.IntN.{pos}
use lib.ListN.{length, get_or, length-append, get_or-append}
use lib.Seq.{get_or-append-add}
use Rattle.graph.specs.Count.{Mem}
use Rattle.graph.proofs.Decide.{by_eq}
use Rattle.graph.proofs.Lists.{mem_left, mem_right, mem_append}
use Rattle.exponent.proofs.Numbers.{block_of_law, place_of}
use Rattle.square.specs.declared.supply.Family.{Family}
use Rattle.square.specs.Each.{each, upon, grid}
use Rattle.square.specs.Table.{quads, supplied_at, supplied_table}
use Rattle.square.specs.Inner.{quad}

module _ {A : Type 0} where
  pub each_same : (n : ℕ) (f g : ℕ → List A) → ((i : ℕ) → i < n → f i ≡ g i) → each n f ≡ each n g
  each_same zero f g h = refl
  each_same (suc n) f g h = ap₂ (λ (x y : List A). x ++ y) (each_same n f g (λ i k. h i (omega arith))) (h n (omega arith))

  pub each_split : (m n : ℕ) (f : ℕ → List A) → each (m + n) f ≡ each m f ++ each n (λ v. f (m + v))
  each_split m zero f = ap (λ (k : ℕ). each k f) (add-zero m) ∙ sym (append-nil (each m f))
  each_split m (suc n) f =
      let e : m + suc n ≡ suc (m + n) = omega arith in
      ap (λ (k : ℕ). each k f) e
      ∙ ap (λ (l : List A). l ++ f (m + n)) (each_split m n f)
      ∙ append_assoc (each m f) (each n (λ v. f (m + v))) (f (m + n))

  -- THE LAW: each u below n, and within it each v below m, is each x below n * m, with u and v its digits
  pub each_digits : (n m : ℕ) → 0 < m → (f : ℕ → ℕ → List A) → each n (λ u. each m (f u)) ≡ each (n * m) (λ x. f (x / m) (x % m))
  each_digits zero m h f = ap (λ (k : ℕ). each k (λ x. f (x / m) (x % m))) (sym (zero-mul m))
  each_digits (suc n) m h f =
      let e : suc n * m ≡ n * m + m = omega (arith, suc-mul n m) in
      ap₂ (λ (x y : List A). x ++ y) (each_digits n m h f)
      (each_same m _ _ (λ v k. sym (ap₂ f (block_of_law m h n v k) (place_of m h n v k))))
      ∙ sym (each_split (n * m) m (λ x. f (x / m) (x % m)))
      ∙ sym (ap (λ (k : ℕ). each k (λ x. f (x / m) (x % m))) e)

  -- lists of one element each
  pub length_ones : (n : ℕ) (f : ℕ → A) → length (each n (λ i. f i ∷ [])) ≡ n
  length_ones zero f = refl
  length_ones (suc n) f = omega (arith, length-append (each n (λ i. f i ∷ [])) (f n ∷ []), length_ones n f)

  pub ones_at : (n : ℕ) (f : ℕ → A) (d : A) (i : ℕ) → i < n → get_or (each n (λ i. f i ∷ [])) i d ≡ f i
  ones_at zero f d i h = absurd (omega arith)
  ones_at (suc n) f d i h = go (ℕ_discrete i n) (ones_at n f d i)
    where
      l : List A
      l = each n (λ i. f i ∷ [])

      go : Dec (i ≡ n) → (i < n → get_or (each n (λ i. f i ∷ [])) i d ≡ f i) → get_or (each n (λ i. f i ∷ []) ++ f n ∷ []) i d ≡ f i
      go (yes e) rest =
          let k : i ≡ length (each n (λ i. f i ∷ [])) + 0 = omega (arith, length_ones n f) in
          ap (λ (x : ℕ). get_or (each n (λ i. f i ∷ []) ++ f n ∷ []) x d) k ∙ get_or-append-add (each n (λ i. f i ∷ [])) (f n ∷ []) 0 d ∙ ap f (sym e)
      go (no e) rest =
          get_or-append (each n (λ i. f i ∷ [])) (f n ∷ []) d i (omega (arith, length_ones n f)) ∙ rest (omega arith)

  -- MEMBERS of a counted list
  pub mem_each : (x : A) (n : ℕ) (f : ℕ → List A) → Mem x (each n f) → (i : ℕ) × (i < n) × Mem x (f i)
  mem_each x zero f m = absurd m
  mem_each x (suc n) f m = go (mem_append x (each n f) (f n) m) (mem_each x n f)
    where
      go : Mem x (each n f) ⊎ Mem x (f n) → (Mem x (each n f) → (i : ℕ) × (i < n) × Mem x (f i)) → (i : ℕ) × (i < suc n) × Mem x (f i)
      go (inl k) more = let r : (i : ℕ) × (i < n) × Mem x (f i) = more k in (r.0, omega arith, r.2)
      go (inr k) more = (n, omega arith, k)

  pub each_mem : (x : A) (n : ℕ) (f : ℕ → List A) (i : ℕ) → i < n → Mem x (f i) → Mem x (each n f)
  each_mem x zero f i h m = absurd (let z : ⊥ = omega arith in z)
  each_mem x (suc n) f i h m =
      by_eq i n
      (λ e. mem_right x (each n f) (f n) (subst (λ (k : ℕ). Mem x (f k)) e m))
      (λ d. mem_left x (each n f) (f n) (each_mem x n f i (omega arith) m))

  pub mem_upon : (x y : A) (b : Bool) → Mem x (upon b (y ∷ [])) → (b ≡ true) × (x ≡ y)
  mem_upon x y true (inl e) = (refl, e)
  mem_upon x y true (inr m) = absurd m
  mem_upon x y false m = absurd m

  pub upon_mem : (x : A) (b : Bool) → b ≡ true → Mem x (upon b (x ∷ []))
  upon_mem x b e = rw e (inl refl)

  -- one part fits into the whole
  pub each_mono : (n i : ℕ) (f : ℕ → List A) → i < n → length (each i f) + length (f i) ≤ length (each n f)
  each_mono zero i f h = absurd (omega arith)
  each_mono (suc n) i f h = go (ℕ_discrete i n) (each_mono n i f)
    where
      go : Dec (i ≡ n) → (i < n → length (each i f) + length (f i) ≤ length (each n f)) → length (each i f) + length (f i) ≤ length (each n f ++ f n)
      go (yes e) rest = omega (arith, length-append (each n f) (f n), ap (λ (k : ℕ). length (each k f)) e, ap (λ (k : ℕ). length (f k)) e)
      go (no e) rest = omega (arith, length-append (each n f) (f n), rest (omega arith))

-- maps and grids go through the counting
module _ {A B : Type 0} (h : A → B) where
  pub map_each : (n : ℕ) (f : ℕ → List A) → map h (each n f) ≡ each n (λ i. map h (f i))
  map_each zero f = refl
  map_each (suc n) f = map-append h (each n f) (f n) ∙ ap (λ (l : List B). l ++ map h (f n)) (map_each n f)

  pub map_upon : (b : Bool) (l : List A) → map h (upon b l) ≡ upon b (map h l)
  map_upon true l = refl
  map_upon false l = refl

module _ {A B C : Type 0} (h : A → B → C) (ys : List B) where
  pub grid_append : (xs zs : List A) → grid h (xs ++ zs) ys ≡ grid h xs ys ++ grid h zs ys
  grid_append [] zs = refl
  grid_append (x ∷ xs) zs = ap (λ (l : List C). map (h x) ys ++ l) (grid_append xs zs) ∙ sym (append_assoc (map (h x) ys) (grid h xs ys) (grid h zs ys))

  pub grid_each : (n : ℕ) (f : ℕ → List A) → grid h (each n f) ys ≡ each n (λ i. grid h (f i) ys)
  grid_each zero f = refl
  grid_each (suc n) f = grid_append (each n f) (f n) ∙ ap (λ (l : List C). l ++ grid h (f n) ys) (grid_each n f)

  pub grid_upon : (b : Bool) (x : A) → grid h (upon b (x ∷ [])) ys ≡ upon b (map (h x) ys)
  grid_upon true x = append-nil (map (h x) ys)
  grid_upon false x = refl

-- the lists of the definitions, by digits
module _ (J : ℕ) (some : 0 < J) where
  pub quads_are : quads J ≡ each (J * J * J * J) (λ n. quad J n ∷ [])
  unfolding quads
  quads_are =
      each_digits J J some (λ i k. each J (λ r. each J (λ t. record { i = i; k = k; r = r; t = t } ∷ [])))
      ∙ each_digits (J * J) J some (λ x r. each J (λ t. record { i = x / J; k = x % J; r = r; t = t } ∷ []))
      ∙ each_digits (J * J * J) J some (λ x t. record { i = x / J / J; k = x / J % J; r = x % J; t = t } ∷ [])

  pub supplied_are : (family : Family) → supplied_table family J ≡ each (J * J) (λ n. pos (supplied_at family J (n / J) (n % J)) ∷ [])
  unfolding supplied_table
  supplied_are family = each_digits J J some (λ i r. pos (supplied_at family J i r) ∷ [])
