-- The Tanner graph of a table plan: each entry, each edge, and that a sound table gives no simple cycle with fewer than 12 edges
-- (004, Theorem 1, with a mask). Assumes nothing.
use Prim.Native.Nat.{ℕ, zero, suc, ◌+◌, ◌*◌, ◌/◌, ◌%◌, ◌<◌}
use mathlib.Core.Path.{◌≡◌, refl, sym, ◌∙◌, ap, subst}
use mathlib.Core.Logic.{◌≢◌}
use mathlib.Core.Bool.{Bool, true, false}
use mathlib.Core.List.{List, [], ◌∷◌, map}
use native.Mathlib.Nat.{mod-lt, mod-eq_of_lt, zero-mul, zero-add}
use native.Mathlib.Omega.{arith}
use lib.Dec.{eqb}
use lib.IntN.{ℤ, pos}
use lib.ListN.{length, get_or, length-map, get_or-append}
use lib.Seq.{get_or-append-add}
use borrow.Author.Tests.{eqb-true}
use Rattle.graph.specs.Graph.{Bipartite, Joined}
use Rattle.graph.specs.Girth.{Passes}
use Rattle.graph.proofs.Decide.{both_ways, and_left, and_right}
use Rattle.graph.proofs.Lists.{get_or_mem}
use Rattle.exponent.specs.declared.block.Block.{Block}
use Rattle.exponent.specs.declared.block.Block.TheVariants.{Shift}
use Rattle.exponent.specs.Plan.{block_of, invalid_entry, entry_at, block_at, filled}
use Rattle.exponent.specs.Tanner.{edge, tanner}
use Rattle.exponent.proofs.Numbers.{same_number, block_low}
use Rattle.square.specs.Each.{grid}
use Rattle.square.specs.Table.{Sound, block}
use Rattle.square.specs.Mask.{mask_at, Common}
use Rattle.square.proofs.Congruent.{of_mod, close, turned}
use Rattle.grid.specs.declared.Part.{Part}
use Rattle.grid.specs.declared.Part.TheVariants.{AJ, AR, JR}
use Rattle.grid.specs.declared.Row.{Row}
use Rattle.grid.specs.declared.Column.{Column}
use Rattle.grid.specs.Plan.{columns, rows, row_of, row_at, shift_at, meets, entry, plan_rows, plan_cols, table_plan}
use Rattle.grid.specs.Inner.{Within}
use Rattle.grid.proofs.Moves.{Move}
use Rattle.grid.proofs.Parts.{part?, free}
use Rattle.grid.proofs.Listed.{nodup_inj, mem_column, nodup_columns, nodup_rows}
use Rattle.grid.proofs.Shape.{point, columns_count, rows_count}
use Rattle.grid.proofs.Short.{OnGrid, Square, passes_12}
use Rattle.grid.proofs.Corner.{no_round}

-- ONE ENTRY. Its block is valid, and filled where the row meets the column.
module _ (P e : ℕ) (low : e < P) where
  shift_is : block_of P (pos e) ≡ Shift e
  shift_is = ap Shift (mod-eq_of_lt low)

  pub entry_valid : (m : Bool) → invalid_entry P (block m e) ≡ false
  entry_valid true = refl
  entry_valid false = refl

  pub entry_filled : (m : Bool) → filled (block_of P (block m e)) ≡ m
  entry_filled true = refl
  entry_filled false = refl

  pub entry_edge : (m : Bool) (y z : ℕ) → edge (block_of P (block m e)) P y z ≡ true → (m ≡ true) × (z ≡ (y + e) % P)
  entry_edge true y z h = (refl, sym (eqb-true _ _ (sym (ap (λ (b : Block). edge b P y z) shift_is) ∙ h)))
  entry_edge false y z h = both_ways {t = false} h refl

row_is : (k : Part) (u v : ℕ) (q : Column) → u ≡ (row_at k q).one → v ≡ (row_at k q).two → row_of k u v ≡ row_at k q
row_is AJ u v q e f = λ i. record { part = AJ; one = e i; two = f i }
row_is AR u v q e f = λ i. record { part = AR; one = e i; two = f i }
row_is JR u v q e f = λ i. record { part = JR; one = e i; two = f i }

meets_row : (w : Row) (q : Column) → meets w q ≡ true → w ≡ row_at w.part q
meets_row w q e =
    row_is w.part w.one w.two q (eqb-true _ _ (and_left (eqb w.one (row_at w.part q).one) _ e)) (eqb-true _ _ (and_right (eqb w.one (row_at w.part q).one) _ e))

-- lines and points of the grid
same_line : (k i : Part) (q w : Column) → row_at k q ≡ row_at k w → i ≢ k → free i q ≡ free i w
same_line AJ AJ q w e h = absurd (h refl)
same_line AJ AR q w e h = ap (λ (r : Row). r.two) e
same_line AJ JR q w e h = ap (λ (r : Row). r.one) e
same_line AR AJ q w e h = ap (λ (r : Row). r.two) e
same_line AR AR q w e h = absurd (h refl)
same_line AR JR q w e h = ap (λ (r : Row). r.one) e
same_line JR AJ q w e h = ap (λ (r : Row). r.two) e
same_line JR AR q w e h = ap (λ (r : Row). r.one) e
same_line JR JR q w e h = absurd (h refl)

same_point : (k : Part) (q w : Column) → row_at k q ≡ row_at k w → free k q ≡ free k w → q ≡ w
same_point AJ q w e f = λ i. record { a = (e i).one; j = (e i).two; r = f i }
same_point AR q w e f = λ i. record { a = (e i).one; j = f i; r = (e i).two }
same_point JR q w e f = λ i. record { a = f i; j = (e i).one; r = (e i).two }

-- the entry of a grid in row i and column j
map_at : {A B : Type 0} (f : A → B) (l : List A) (d : A) (e : B) (i : ℕ) → i < length l → get_or (map f l) i e ≡ f (get_or l i d)
map_at f [] d e i h = absurd (omega arith)
map_at f (x ∷ l) d e zero h = refl
map_at f (x ∷ l) d e (suc i) h = map_at f l d e i (omega arith)

grid_at : {A B C : Type 0} (f : A → B → C) (da : A) (db : B) (dc : C) (xs : List A) (ys : List B) (i j : ℕ) → i < length xs → j < length ys
    → get_or (grid f xs ys) (i * length ys + j) dc ≡ f (get_or xs i da) (get_or ys j db)
grid_at f da db dc [] ys i j h g = absurd (omega arith)
grid_at f da db dc (x ∷ xs) ys zero j h g =
    rw (zero-mul, zero-add) (get_or-append (map (f x) ys) (grid f xs ys) dc j (rw length-map g) ∙ map_at (f x) ys db dc j g)
grid_at f da db dc (x ∷ xs) ys (suc i) j h g =
    let e : suc i * length ys + j ≡ length (map (f x) ys) + (i * length ys + j) = omega (arith, length-map ys (f x)) in
    rw e (get_or-append-add (map (f x) ys) (grid f xs ys) (i * length ys + j) dc ∙ grid_at f da db dc xs ys i j (omega arith) g)

-- THE PLAN of a mask with a common weight
module _ (J L P : ℕ) (s : ℕ → ℕ → ℕ) (bytes : List ℕ) (p : 0 < P) (w : Common J bytes L) where
  abbrev R : ℕ
  R = plan_rows J L

  abbrev C : ℕ
  C = plan_cols J L

  abbrev plan : List ℤ
  plan = table_plan J L P s (mask_at J bytes)

  abbrev pub nth_row : ℕ → Row
  nth_row i = get_or (rows J L (mask_at J bytes)) i (row_of AJ 0 0)

  abbrev pub nth_column : ℕ → Column
  nth_column j = get_or (columns J L (mask_at J bytes)) j (point 0 0 0)

  some_order : 0 < J
  some_order = omega (arith, w.least, w.most)

  -- the entry in row i and column j
  pub plan_at : (i j : ℕ) → i < plan_rows J L → j < plan_cols J L
      → get_or (table_plan J L P s (mask_at J bytes)) (i * plan_cols J L + j) (pos 0) ≡ entry J P s (nth_row i) (nth_column j)
  unfolding table_plan
  plan_at i j hi hj =
      ap (λ (c : ℕ). get_or plan (i * c + j) (pos 0)) (sym (columns_count J L bytes w))
      ∙ grid_at (entry J P s) (row_of AJ 0 0) (point 0 0 0) (pos 0) (rows J L (mask_at J bytes)) (columns J L (mask_at J bytes)) i j
      (omega (arith, rows_count J L bytes w)) (omega (arith, columns_count J L bytes w))

  pub block_is : (i j : ℕ) → i < plan_rows J L → j < plan_cols J L
      → block_at (table_plan J L P s (mask_at J bytes)) (plan_cols J L) P i j ≡ block_of P (entry J P s (nth_row i) (nth_column j))
  unfolding block_at entry_at
  block_is i j hi hj = ap (block_of P) (plan_at i j hi hj)

  abbrev G : Bipartite
  G = tanner plan R C P

  -- what an edge tells: the row of the check meets the column of the bit, and the turn
  record Joins (c b : ℕ) : Type 0 where
    row_in : c / P < R
    col_in : b / P < C
    own : nth_row (c / P) ≡ row_at (nth_row (c / P)).part (nth_column (b / P))
    turn : b % P ≡ (c % P + shift_at J s (nth_row (c / P)).part (nth_column (b / P)) % P) % P

  joins_of : {c b : ℕ} → Joined G c b → Joins c b
  unfolding tanner
  joins_of {c} {b} j =
      let hi : c / P < R = block_low P p c R j.check_in in
      let hj : b / P < C = block_low P p b C j.bit_in in
      let n = shift_at J s (nth_row (c / P)).part (nth_column (b / P)) in
      let y = entry_edge P (n % P) (mod-lt n p) (meets (nth_row (c / P)) (nth_column (b / P))) (c % P) (b % P)
      (sym (ap (λ (x : Block). edge x P (c % P) (b % P)) (block_is (c / P) (b / P) hi hj)) ∙ j.edge) in
      record { row_in = hi; col_in = hj; own = meets_row (nth_row (c / P)) (nth_column (b / P)) y.0; turn = y.1 }

  row_inj : (i k : ℕ) → i < R → k < R → nth_row i ≡ nth_row k → i ≡ k
  row_inj i k h g e =
      nodup_inj (rows J L (mask_at J bytes)) (row_of AJ 0 0) (nodup_rows J L (mask_at J bytes) some_order) i k
      (omega (arith, rows_count J L bytes w)) (omega (arith, rows_count J L bytes w)) e

  col_inj : (i k : ℕ) → i < C → k < C → nth_column i ≡ nth_column k → i ≡ k
  col_inj i k h g e =
      nodup_inj (columns J L (mask_at J bytes)) (point 0 0 0) (nodup_columns J L (mask_at J bytes) some_order) i k
      (omega (arith, columns_count J L bytes w)) (omega (arith, columns_count J L bytes w)) e

  col_within : (k : ℕ) → k < C → Within J (nth_column k)
  col_within k h =
      let q = mem_column J L (mask_at J bytes) some_order (nth_column k) (get_or_mem (columns J L (mask_at J bytes)) k (point 0 0 0) (omega (arith, columns_count J L bytes w))) in
      record { a_in = omega (arith, q.a_in, w.most); j_in = q.j_in; r_in = q.r_in }

  abbrev way : ℕ → Part
  way c = (nth_row (c / P)).part

  abbrev at : Part → ℕ → ℕ
  at k b = free k (nth_column (b / P))

  on_grid : OnGrid G way at
  on_grid = record { line = line; point = point_of; single = single }
    where
      line : {c b d : ℕ} → Joined G c b → Joined G c d → (i : Part) → i ≢ way c → at i b ≡ at i d
      line {c} {b} {d} u v i h = same_line (way c) i _ _ (sym (joins_of u).own ∙ (joins_of v).own) h

      point_of : {c b d : ℕ} → Joined G c b → Joined G c d → at (way c) b ≡ at (way c) d → b ≡ d
      point_of {c} {b} {d} j k e =
          let u = joins_of j in
          let v = joins_of k in
          let q : nth_column (b / P) ≡ nth_column (d / P) = same_point (way c) _ _ (sym u.own ∙ v.own) e in
          same_number P b d (col_inj (b / P) (d / P) u.col_in v.col_in q)
          (u.turn ∙ ap (λ (y : Column). (c % P + shift_at J s (way c) y % P) % P) q ∙ sym v.turn)

      single : {c d b : ℕ} → Joined G c b → Joined G d b → way c ≡ way d → c ≡ d
      single {c} {d} {b} j k e =
          let u = joins_of j in
          let x = joins_of k in
          let v = shift_at J s (way c) (nth_column (b / P)) % P in
          let t : (c % P + v) % P ≡ (d % P + v) % P = sym u.turn ∙ x.turn ∙ ap (λ (k : Part). (d % P + shift_at J s k (nth_column (b / P)) % P) % P) (sym e) in
          let g : c % P + v ≡ d % P + v = close (of_mod P _ _ t) (omega (arith, mod-lt c p)) (omega (arith, mod-lt d p)) in
          same_number P c d
          (row_inj (c / P) (d / P) u.row_in x.row_in (u.own ∙ ap (λ (k : Part). row_at k (nth_column (b / P))) e ∙ sym x.own))
          (omega arith)

  -- the voltage of an edge, as an equation
  voltage : {c b : ℕ} (k : Part) → way c ≡ k → Joined G c b → (q : ℕ) × (c % P + shift_at J s k (nth_column (b / P)) ≡ b % P + q * P)
  voltage {c} {b} k e u = turned P (c % P) _ (b % P) ((joins_of u).turn ∙ ap (λ (k : Part). (c % P + shift_at J s k (nth_column (b / P)) % P) % P) e)

  along : {k l : Part} {b d : ℕ} → k ≡ l → Move at k b d → Move free l (nth_column (b / P)) (nth_column (d / P))
  along {b = b} {d = d} e m = subst (λ (k : Part). Move free k (nth_column (b / P)) (nth_column (d / P))) e (record { keeps = m.keeps; turns = m.turns })

  module _ (sound : Sound J P s) where
    no_square : (c₀ c₁ c₂ c₃ b₀ b₁ b₂ b₃ : ℕ) → Square G way at c₀ c₁ c₂ c₃ b₀ b₁ b₂ b₃ → ⊥
    no_square c₀ c₁ c₂ c₃ b₀ b₁ b₂ b₃ z =
        let X = way c₀ in
        let Y = way c₁ in
        let e₀ = voltage X refl z.j₀ in
        let f₀ = voltage X refl z.k₃ in
        let e₁ = voltage Y refl z.j₁ in
        let f₁ = voltage Y refl z.k₀ in
        let e₂ = voltage X (sym z.even) z.j₂ in
        let f₂ = voltage X (sym z.even) z.k₁ in
        let e₃ = voltage Y (sym z.odd) z.j₃ in
        let f₃ = voltage Y (sym z.odd) z.k₂ in
        no_round J P s p sound X Y z.ways
        (record {
          in₀ = col_within _ (joins_of z.j₀).col_in;
          in₁ = col_within _ (joins_of z.j₁).col_in;
          in₂ = col_within _ (joins_of z.j₂).col_in;
          in₃ = col_within _ (joins_of z.j₃).col_in;
          m₀ = along refl z.m₀;
          m₁ = along (sym z.even) z.m₁;
          m₂ = along (sym z.odd) z.m₂;
          m₃ = along refl z.m₃;
          closed = record {
            m = f₀.0 + f₁.0 + f₂.0 + f₃.0;
            n = e₀.0 + e₁.0 + e₂.0 + e₃.0;
            same = omega (arith, e₀.1, e₁.1, e₂.1, e₃.1, f₀.1, f₁.1, f₂.1, f₃.1);
          };
        })

    pub plan_passes_12 : Passes (tanner (table_plan J L P s (mask_at J bytes)) (plan_rows J L) (plan_cols J L) P) 12
    plan_passes_12 = passes_12 part? G way at on_grid no_square
