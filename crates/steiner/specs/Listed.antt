-- What the list is (document 02, slip 6), in the request's order.
use Rattle.std.specs.Prelude.{ℕ, suc, ◌+◌, ◌/◌, ◌%◌, ◌<◌, ◌≡◌, ◌≢◌, ◌⊎◌, true, ◌&&◌, List, [], ◌∷◌, ◌++◌, map, length}
use Rattle.graph.specs.Count.{below, count, Mem}
use Rattle.steiner.specs.declared.system.Triple.{Triple}
use Rattle.steiner.specs.Points.{points}
use Rattle.steiner.specs.System.{is_order, cols, triple, triple_at, has}

-- the triples of order v as they stand in the list, and the numbers of some triples
unfoldable pub system : ℕ → List Triple
system v = map (triple_at v) (below (cols v))

unfoldable pub numbers : List Triple → List ℕ
numbers [] = []
numbers (t ∷ l) = t.a ∷ t.b ∷ t.c ∷ numbers l

-- a triple's points rise, below the order
pub record Rises (v : ℕ) (t : Triple) : Type 0 where
  pub first : t.a < t.b
  pub second : t.b < t.c
  pub third : t.c < v

-- t comes before u, by first, second, third point
abbrev pub Before : Triple → Triple → Type 0
Before t u = (t.a < u.a) ⊎ ((t.a ≡ u.a) × ((t.b < u.b) ⊎ ((t.b ≡ u.b) × (t.c < u.c))))

-- t has the points of a base triple u with k, from 0 to v − 1, added modulo v
pub record Developed (v : ℕ) (base : List Triple) (t : Triple) : Type 0 where
  pub u : Triple
  pub in_base : Mem u base
  pub k : ℕ
  pub small : k < v
  pub first : has t ((u.a + k) % v) ≡ true
  pub second : has t ((u.b + k) % v) ≡ true
  pub third : has t ((u.c + k) % v) ≡ true

-- of points 3x + y, the x and the y of a triple add up to multiples of 3
pub record Affine (t : Triple) : Type 0 where
  pub of_x : (t.a / 3 + t.b / 3 + t.c / 3) % 3 ≡ 0
  pub of_y : (t.a % 3 + t.b % 3 + t.c % 3) % 3 ≡ 0

-- the triples of an order rise, within and one after the other, so each is there once; they are such as are given, and all of those
pub record Exactly (v : ℕ) (Given : Triple → Type 0) : Type 0 where
  pub inner : (j : ℕ) → j < cols v → Rises v (triple_at v j)
  pub outer : (j : ℕ) → suc j < cols v → Before (triple_at v j) (triple_at v (suc j))
  pub given : (j : ℕ) → j < cols v → Given (triple_at v j)
  pub all : (t : Triple) → Rises v t → Given t → (j : ℕ) × (j < cols v) × (t ≡ triple_at v j)

-- THE LIST: 411 numbers, the five orders one after the other, and the triples of each
pub record Listed : Type 0 where
  pub size : length points ≡ 411
  pub orders_rise : points ≡ numbers (system 7 ++ (system 9 ++ (system 13 ++ (system 15 ++ system 19))))
  pub order_7 : Exactly 7 (Developed 7 (triple 0 1 3 ∷ []))
  pub order_9 : Exactly 9 Affine
  pub order_13 : Exactly 13 (Developed 13 (triple 0 1 4 ∷ triple 0 2 7 ∷ []))
  pub order_15 : Exactly 15 (Developed 15 (triple 0 1 4 ∷ triple 0 2 8 ∷ triple 0 5 10 ∷ []))
  pub order_19 : Exactly 19 (Developed 19 (triple 0 1 6 ∷ triple 0 2 10 ∷ triple 0 3 7 ∷ []))

-- in each order every pair of points lies in exactly one triple
unfoldable pub PairsOnce : Type 0
PairsOnce =
    (v x y : ℕ) → is_order v ≡ true → x < v → y < v → x ≢ y → count (λ j. has (triple_at v j) x && has (triple_at v j) y) (below (cols v)) ≡ 1
