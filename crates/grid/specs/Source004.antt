-- The matrix of source document 004 itself, by its formulas (section II, (1) to (5); section IV, Algorithm 1). `none` is ∞.
-- B is the table: S_j = [s(j, 0), …, s(j, J − 1)] is its row j (5).
use Rattle.std.specs.Prelude.{ℕ, suc, ◌+◌, ◌-◌, ◌*◌, ◌/◌, ◌%◌, cond, not, List, [], ◌∷◌, ◌++◌, map, ltb, eqb, ℤ, pos, negsuc}
use Rattle.std.specs.Prelude.{Option, None, Some}
use Rattle.refusal.specs.Place.{somewhere}
use Rattle.graph.specs.Count.{range, below, select, member, is_some}
use Rattle.square.specs.Each.{each, upon, grid}
use Rattle.grid.specs.Plan.{Ones}

-- (4) D(x): x on the diagonal, ∞ otherwise
abbrev pub diagonal : (ℕ → ℕ) → ℕ → ℕ → Option ℕ
diagonal x row col = cond (eqb row col) (Some (x row)) None

-- T^k(x): x with its elements cyclically shifted to the left by k
abbrev pub shift_left : ℕ → ℕ → (ℕ → ℕ) → ℕ → ℕ
shift_left J k x r = x ((r + k) % J)

-- Of the J blocks of J columns that S, W and C_u have, a column lies in block k, at place r.
-- (2) S: S_j in row j and block j, ∞ otherwise
abbrev pub S : (ℕ → ℕ → ℕ) → ℕ → ℕ → ℕ → Option ℕ
S s row k r = cond (eqb row k) (Some (s row r)) None

-- W = [W_0, …, W_0]: W_0 has 0 on the diagonal, ∞ otherwise
abbrev pub W : ℕ → ℕ → ℕ → Option ℕ
W row k r = diagonal (λ x. 0) row r

-- (3) C_u: D(T^k(S_u)) in block row k and block k, ∞ otherwise
abbrev pub C : ℕ → (ℕ → ℕ → ℕ) → ℕ → ℕ → ℕ → ℕ → ℕ → Option ℕ
C J s u block_row row k r = cond (eqb block_row k) (diagonal (shift_left J k (s u)) row r) None

-- (1) E has 3J² rows and J³ columns: J² rows with S in each block of J², J² rows with W, and J² rows with C_0, C_1, …
abbrev pub E : ℕ → (ℕ → ℕ → ℕ) → ℕ → ℕ → Option ℕ
E J s i c =
    let u = c / J / J in
    let k = c / J % J in
    let r = c % J in
    let second = i - J * J in
    let third = i - 2 * (J * J) in
    cond (ltb i (J * J)) (cond (eqb (i / J) u) (S s (i % J) k r) None)
    (cond (ltb i (2 * (J * J))) (cond (eqb (second / J) u) (W (second % J) k r) None)
    (C J s u (third / J) (third % J) k r))

-- Algorithm 1: the columns to be deleted, numbered from 1
unfoldable pub deleted_once : ℕ → Ones → List ℕ
deleted_once J mask = each J (λ j. each J (λ k. upon (not (mask j k)) (suc (j * J + k) ∷ [])))

unfoldable pub deleted : ℕ → ℕ → Ones → List ℕ
deleted J L mask = each L (λ i. map (λ n. n + J * J * i) (deleted_once J mask)) ++ range (1 + J * J * L) (J * J * J - J * J * L)

-- Step 3: delete these columns, and then each row that only includes ∞
unfoldable pub kept_columns : ℕ → ℕ → Ones → List ℕ
kept_columns J L mask = select (λ c. not (member (suc c) (deleted J L mask))) (below (J * J * J))

unfoldable pub kept_rows : ℕ → ℕ → (ℕ → ℕ → ℕ) → Ones → List ℕ
kept_rows J L s mask = select (λ i. somewhere (λ c. is_some (E J s i c)) (kept_columns J L mask)) (below (3 * (J * J)))

-- the target matrix E', row by row
unfoldable pub target : ℕ → ℕ → (ℕ → ℕ → ℕ) → Ones → List (Option ℕ)
target J L s mask = grid (E J s) (kept_rows J L s mask) (kept_columns J L mask)

-- ∞ written −1, and entries reduced modulo P
abbrev pub written : ℕ → Option ℕ → ℤ
written lift None = negsuc 0
written lift (Some e) = pos (e % lift)
