-- The mask (document 01, "Table plans"; 004, section IV: the matrix M): J × J bytes, row by row, 0 or 1, with L ones in each row
-- and each column.
use Rattle.std.specs.Prelude.{ℕ, ◌+◌, ◌-◌, ◌*◌, ◌≤◌, ◌<◌, ◌≡◌, Bool, ◌&&◌, List, eqb, get_or}
use Rattle.refusal.specs.Place.{first_place, somewhere}
use Rattle.graph.specs.Count.{range, below, count}

-- the mask has a one at (j, r)
abbrev pub mask_at : ℕ → List ℕ → ℕ → ℕ → Bool
mask_at order mask j r = eqb (get_or mask (j * order + r) 0) 1

-- the ones of row j, and of column r
unfoldable pub row_ones : ℕ → List ℕ → ℕ → ℕ
row_ones order mask j = count (λ r. mask_at order mask j r) (below order)

unfoldable pub column_ones : ℕ → List ℕ → ℕ → ℕ
column_ones order mask r = count (λ j. mask_at order mask j r) (below order)

-- each row and each column has L ones: as many of them as there are
unfoldable pub weighs : ℕ → List ℕ → ℕ → Bool
weighs order mask L =
    eqb (count (λ j. eqb (row_ones order mask j) L) (below order)) order
    && eqb (count (λ r. eqb (column_ones order mask r) L) (below order)) order

-- there is such an L from 4 to J, and which it is
unfoldable pub common : ℕ → List ℕ → Bool
common order mask = somewhere (weighs order mask) (range 4 (order - 3))

unfoldable pub weight : ℕ → List ℕ → ℕ
weight order mask = 4 + first_place (weighs order mask) (range 4 (order - 3))

-- the same in words: L lies from 4 to J, and each row and each column has L ones
pub record Common (order : ℕ) (mask : List ℕ) (L : ℕ) : Type 0 where
  pub least : 4 ≤ L
  pub most : L ≤ order
  pub in_rows : (j : ℕ) → j < order → row_ones order mask j ≡ L
  pub in_columns : (r : ℕ) → r < order → column_ones order mask r ≡ L
