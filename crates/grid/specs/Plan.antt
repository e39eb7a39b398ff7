-- The plan that a table and a mask give (document 01, "Table plans"; 004, sections II and IV), for a common weight L.
use Rattle.std.specs.Prelude.{ℕ, ◌+◌, ◌*◌, ◌%◌, Bool, ◌&&◌, List, [], ◌∷◌, ◌++◌, eqb, ℤ}
use Rattle.square.specs.Each.{each, upon, grid}
use Rattle.square.specs.Table.{block}
use Rattle.grid.specs.declared.Part.{Part}
use Rattle.grid.specs.declared.Part.TheVariants.{AJ, AR, JR}
use Rattle.grid.specs.declared.Row.{Row}
use Rattle.grid.specs.declared.Column.{Column}

-- the mask as a test: mask(j, r) = 1
abbrev pub Ones : Type 0
Ones = ℕ → ℕ → Bool

-- columns are triples (a, j, r) with a < L and mask(j, r) = 1, in rising order of a, then j, then r
unfoldable pub columns : ℕ → ℕ → Ones → List Column
columns order L mask = each L (λ a. each order (λ j. each order (λ r. upon (mask j r) (record { a = a; j = j; r = r } ∷ []))))

-- rows: first pairs (a, j), then pairs (a, r), a < L in both, then pairs (j, r) with mask 1, each part in rising order
abbrev pub row_of : Part → ℕ → ℕ → Row
row_of part u v = record { part = part; one = u; two = v }

unfoldable pub rows : ℕ → ℕ → Ones → List Row
rows order L mask =
    each L (λ a. each order (λ j. row_of AJ a j ∷ []))
    ++ (each L (λ a. each order (λ r. row_of AR a r ∷ []))
    ++ each order (λ j. each order (λ r. upon (mask j r) (row_of JR j r ∷ []))))

-- a column's row in each part, and what stands there: s(j, r) in row (a, j); 0 in row (a, r); s(a, (r + j) mod J) in row (j, r)
abbrev pub row_at : Part → Column → Row
row_at AJ q = row_of AJ q.a q.j
row_at AR q = row_of AR q.a q.r
row_at JR q = row_of JR q.j q.r

abbrev pub shift_at : ℕ → (ℕ → ℕ → ℕ) → Part → Column → ℕ
shift_at order s AJ q = s q.j q.r
shift_at order s AR q = 0
shift_at order s JR q = s q.a ((q.r + q.j) % order)

-- row w is the column's row in its part
abbrev pub meets : Row → Column → Bool
meets w q = eqb w.one (row_at w.part q).one && eqb w.two (row_at w.part q).two

-- the entry in row w and column q, modulo P
abbrev pub entry : ℕ → ℕ → (ℕ → ℕ → ℕ) → Row → Column → ℤ
entry order lift s w q = block (meets w q) (shift_at order s w.part q % lift)

-- the plan has 3LJ rows and JL² columns
abbrev pub plan_rows : ℕ → ℕ → ℕ
plan_rows order L = 3 * (L * order)

abbrev pub plan_cols : ℕ → ℕ → ℕ
plan_cols order L = order * (L * L)

-- the plan, row by row
unfoldable pub table_plan : ℕ → ℕ → ℕ → (ℕ → ℕ → ℕ) → Ones → List ℤ
table_plan order L lift s mask = grid (entry order lift s) (rows order L mask) (columns order L mask)
