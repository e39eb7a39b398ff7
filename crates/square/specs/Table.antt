-- Tables (document 01, "Table plans"; 004: the matrix B): J × J entries s(i, r), row by row. J is the order, P the lift.
use Rattle.std.specs.Prelude.{Option, Some, None}
use Rattle.std.specs.Option.{is_none, unwrap_or}
use Rattle.std.specs.Prelude.{ℕ, ◌+◌, ◌-◌, ◌*◌, ◌/◌, ◌%◌, ◌<◌, ◌≡◌, ◌≢◌, ◌⊎◌, Bool, cond, ◌&&◌, List, [], ◌∷◌, ltb, eqb, ℤ, pos, negsuc, get_or}
use Rattle.refusal.specs.Place.{first_place, somewhere}
use Rattle.square.specs.declared.search.Quad.{Quad}
use Rattle.square.specs.declared.supply.Family.{Family}
use Rattle.square.specs.declared.supply.Family.TheVariants.{Array, Cyclic}
use Rattle.square.specs.Each.{each}

-- an entry is a natural number, or negative
abbrev pub signed : ℤ → Option ℕ
signed (pos n) = Some n
signed (negsuc n) = None

-- a filled block's entry, or −1
abbrev pub block : Bool → ℕ → ℤ
block filled e = cond filled (pos e) (negsuc 0)

-- the entry that refusal 9 names
abbrev pub negative : ℤ → Bool
negative z = is_none (signed z)

-- s(i, r), and 0 where the entry is negative, which refusal 9 turns away
abbrev pub table_at : ℕ → List ℤ → ℕ → ℕ → ℕ
table_at order table i r = unwrap_or (signed (get_or table (i * order + r) (pos 0))) 0

-- a − b modulo the lift, as a number below it
abbrev pub minus : ℕ → ℕ → ℕ → ℕ
minus lift a b = (a + (lift - b % lift)) % lift

-- sound for P: for any two different rows i, k, the J values s(i, r) − s(k, r) are all different modulo P
unfoldable pub Sound : ℕ → ℕ → (ℕ → ℕ → ℕ) → Type 0
Sound order lift s =
    (i k r t : ℕ) → i < order → k < order → r < order → t < order → i ≢ k → r ≢ t → minus lift (s i r) (s k r) ≢ minus lift (s i t) (s k t)

-- two rows i < k whose differences at two columns r < t are the same modulo P
pub record Repeat (order lift : ℕ) (s : ℕ → ℕ → ℕ) (q : Quad) : Type 0 where
  pub rows_differ : q.i < q.k
  pub row_in : q.k < order
  pub columns_differ : q.r < q.t
  pub column_in : q.t < order
  pub repeated : minus lift (s q.i q.r) (s q.k q.r) ≡ minus lift (s q.i q.t) (s q.k q.t)

-- q comes before v in the order i, k, r, t
abbrev pub Before : Quad → Quad → Type 0
Before q v = (q.i < v.i) ⊎ ((q.i ≡ v.i) × ((q.k < v.k) ⊎ ((q.k ≡ v.k) × ((q.r < v.r) ⊎ ((q.r ≡ v.r) × (q.t < v.t))))))

-- a repeat, as a test of numbers below the order
abbrev pub repeats : ℕ → (ℕ → ℕ → ℕ) → Quad → Bool
repeats lift s q =
    ltb q.i q.k && (ltb q.r q.t && eqb (minus lift (s q.i q.r) (s q.k q.r)) (minus lift (s q.i q.t) (s q.k q.t)))

-- all i, k, r, t below the order, in the order i, k, r, t
unfoldable pub quads : ℕ → List Quad
quads order = each order (λ i. each order (λ k. each order (λ r. each order (λ t. record { i = i; k = k; r = r; t = t } ∷ []))))

-- refusal 10 applies, and the four numbers that it gives: the first that repeat
abbrev pub unsound : ℕ → ℕ → (ℕ → ℕ → ℕ) → Bool
unsound order lift s = somewhere (repeats lift s) (quads order)

abbrev pub first_repeat : ℕ → ℕ → (ℕ → ℕ → ℕ) → Quad
first_repeat order lift s = get_or (quads order) (first_place (repeats lift s) (quads order)) (record { i = 0; k = 0; r = 0; t = 0 })

-- The two supplied tables (004, section III). Array: i × r mod J. Cyclic: k(k − 1)/2 with k = (r − i) mod J.
abbrev pub half : ℕ → ℕ
half k = k * (k - 1) / 2

abbrev pub supplied_at : Family → ℕ → ℕ → ℕ → ℕ
supplied_at Array order i r = i * r % order
supplied_at Cyclic order i r = half ((r + (order - i)) % order)

unfoldable pub supplied_table : Family → ℕ → List ℤ
supplied_table family order = each order (λ i. each order (λ r. pos (supplied_at family order i r) ∷ []))
