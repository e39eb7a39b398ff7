-- A table plan's rows and columns: how many there are, how many meet, and so the weights of the plan. Assumes nothing.
use Prim.Native.Nat.{ℕ, ◌+◌, ◌*◌, ◌<◌}
use mathlib.Core.Path.{◌≡◌, refl, sym, ap, ap₂, ◌∙◌}
use mathlib.Core.Logic.{◌≢◌}
use mathlib.Core.Bool.{Bool, true, false, ◌&&◌, and-true}
use mathlib.Core.List.{List, [], ◌∷◌, map}
use native.Mathlib.Omega.{arith}
use lib.Dec.{eqb}
use lib.ListN.{length, length-append, length-map}
use borrow.Author.Tests.{eq-eqb, ne_eqb}
use Rattle.graph.specs.Count.{one}
use Rattle.square.specs.Each.{each, upon, grid}
use Rattle.square.specs.Mask.{mask_at, row_ones, column_ones, Common}
use Rattle.square.proofs.Totals.{total, total_same, total_each, total_none, total_at, total_count, total_once, tally, tally_append, tally_each, tally_upon, tally_all}
use Rattle.grid.specs.declared.Part.{Part}
use Rattle.grid.specs.declared.Part.TheVariants.{AJ, AR, JR}
use Rattle.grid.specs.declared.Row.{Row}
use Rattle.grid.specs.declared.Column.{Column}
use Rattle.grid.specs.Plan.{Ones, columns, rows, row_of, meets, entry, plan_rows, plan_cols, table_plan}
use Rattle.grid.proofs.Listed.{Fixed}

abbrev pub point : ℕ → ℕ → ℕ → Column
point a j r = record { a = a; j = j; r = r }

-- how many columns, and how many rows, pass a test: sums over their coordinates
module _ (J L : ℕ) (mask : Ones) where
  pub columns_tally : (f : Column → Bool) → tally f (columns J L mask) ≡ total L (λ a. total J (λ j. total J (λ r. one (mask j r && f (point a j r)))))
  unfolding columns
  columns_tally f =
      tally_each f L _
      ∙ total_same L _ _ (λ a _. tally_each f J _ ∙ total_same J _ _ (λ j _. tally_each f J _ ∙ total_same J _ _ (λ r _. tally_upon f (mask j r) (point a j r))))

  part_tally : (f : Row → Bool) (part : Part) (n : ℕ) (keep : Ones)
      → tally f (each n (λ u. each J (λ v. upon (keep u v) (row_of part u v ∷ [])))) ≡ total n (λ u. total J (λ v. one (keep u v && f (row_of part u v))))
  part_tally f part n keep = tally_each f n _ ∙ total_same n _ _ (λ u h. tally_each f J _ ∙ total_same J _ _ (λ v k. tally_upon f (keep u v) (row_of part u v)))

  abbrev all_kept : Ones
  all_kept u v = true

  pub rows_tally : (f : Row → Bool)
      → tally f (rows J L mask)
      ≡ total L (λ a. total J (λ j. one (f (row_of AJ a j))))
      + (total L (λ a. total J (λ r. one (f (row_of AR a r)))) + total J (λ j. total J (λ r. one (mask j r && f (row_of JR j r)))))
  unfolding rows
  rows_tally f =
      tally_append f (each L (λ a. each J (λ j. row_of AJ a j ∷ []))) _
      ∙ ap₂ ◌+◌ (part_tally f AJ L all_kept) (tally_append f (each L (λ a. each J (λ r. row_of AR a r ∷ []))) _ ∙ ap₂ ◌+◌ (part_tally f AR L all_kept) (part_tally f JR J mask))

-- a test of two coordinates
differ : (x y : ℕ) → y ≢ x → eqb x y ≡ false
differ x y d = ne_eqb x y (λ e. d (sym e))

same : (x : ℕ) → eqb x x ≡ true
same x = eq-eqb x x refl

no_right : (b : Bool) → (b && false) ≡ false
no_right true = refl
no_right false = refl

-- for a mask with a common weight
module _ (J L : ℕ) (bytes : List ℕ) (w : Common J bytes L) where
  abbrev mask : Ones
  mask = mask_at J bytes

  row_total : (j : ℕ) → j < J → total J (λ r. one (mask j r)) ≡ L
  unfolding row_ones
  row_total j h = total_count J (mask j) ∙ w.in_rows j h

  column_total : (r : ℕ) → r < J → total J (λ j. one (mask j r)) ≡ L
  unfolding column_ones
  column_total r h = total_count J (λ j. mask j r) ∙ w.in_columns r h

  -- 3LJ rows and JL² columns
  pub columns_count : length (columns J L (mask_at J bytes)) ≡ plan_cols J L
  columns_count =
      sym (tally_all (columns J L mask))
      ∙ columns_tally J L mask (λ q. true)
      ∙ total_each L (J * L) _ (λ a h. total_each J L _ (λ j k. total_same J _ _ (λ r i. ap one (and-true (mask j r))) ∙ row_total j k))
      ∙ omega arith

  pub rows_count : length (rows J L (mask_at J bytes)) ≡ plan_rows J L
  rows_count =
      let flat : total L (λ a. total J (λ j. 1)) ≡ L * (J * 1) = total_each L (J * 1) _ (λ a h. total_each J 1 _ (λ j k. refl)) in
      let kept : total J (λ j. total J (λ r. one (mask j r && true))) ≡ J * L = total_each J L _ (λ j k. total_same J _ _ (λ r i. ap one (and-true (mask j r))) ∙ row_total j k) in
      sym (tally_all (rows J L mask)) ∙ rows_tally J L mask (λ v. true) ∙ omega (arith, flat, kept)

  -- a row of each part meets L columns
  aj_row : (a j : ℕ) → a < L → j < J → tally (meets (row_of AJ a j)) (columns J L (mask_at J bytes)) ≡ L
  aj_row a j h k =
      columns_tally J L mask (meets (row_of AJ a j))
      ∙ total_at L a _ h (λ x i d. total_none J _ (λ y _. total_none J _ (λ z _. ap one (ap (λ (b : Bool). mask y z && (b && eqb j y)) (differ a x d) ∙ no_right (mask y z)))))
      ∙ total_at J j _ k (λ y i d. total_none J _ (λ z _. ap one (ap₂ (λ (b c : Bool). mask y z && (b && c)) (same a) (differ j y d) ∙ no_right (mask y z))))
      ∙ total_same J _ _ (λ r _. ap one (ap₂ (λ (b c : Bool). mask j r && (b && c)) (same a) (same j) ∙ and-true (mask j r)))
      ∙ row_total j k

  ar_row : (a r : ℕ) → a < L → r < J → tally (meets (row_of AR a r)) (columns J L (mask_at J bytes)) ≡ L
  ar_row a r h k =
      columns_tally J L mask (meets (row_of AR a r))
      ∙ total_at L a _ h (λ x i d. total_none J _ (λ y _. total_none J _ (λ z _. ap one (ap (λ (b : Bool). mask y z && (b && eqb r z)) (differ a x d) ∙ no_right (mask y z)))))
      ∙ total_same J _ _ (λ y _.
      total_at J r _ k (λ z i d. ap one (ap₂ (λ (b c : Bool). mask y z && (b && c)) (same a) (differ r z d) ∙ no_right (mask y z)))
      ∙ ap one (ap₂ (λ (b c : Bool). mask y r && (b && c)) (same a) (same r) ∙ and-true (mask y r)))
      ∙ column_total r k

  jr_row : (j r : ℕ) → j < J → r < J → mask_at J bytes j r ≡ true → tally (meets (row_of JR j r)) (columns J L (mask_at J bytes)) ≡ L
  jr_row j r h k e =
      columns_tally J L mask (meets (row_of JR j r))
      ∙ total_each L 1 _ (λ a _.
      total_once J J j r (λ y z. mask y z && (eqb j y && eqb r z)) h k
      (ap (λ (b : Bool). b && (eqb j j && eqb r r)) e ∙ ap₂ (λ (b c : Bool). b && c) (same j) (same r))
      (λ y z d. ap (λ (b : Bool). mask y z && (b && eqb r z)) (differ j y d) ∙ no_right (mask y z))
      (λ z d. ap₂ (λ (b c : Bool). mask j z && (b && c)) (same j) (differ r z d) ∙ no_right (mask j z)))
      ∙ omega arith

  -- a column meets one row of each part
  pub column_three : (q : Column) → q.a < L → q.j < J → q.r < J → mask_at J bytes q.j q.r ≡ true → tally (λ v. meets v q) (rows J L (mask_at J bytes)) ≡ 3
  column_three q ha hj hr e =
      rows_tally J L mask (λ v. meets v q)
      ∙ omega (
        arith,
        once L q.a q.j (λ x y. eqb x q.a && eqb y q.j) ha hj (λ x y. refl),
        once L q.a q.r (λ x y. eqb x q.a && eqb y q.r) ha hr (λ x y. refl),
        total_once J J q.j q.r (λ y z. mask y z && (eqb y q.j && eqb z q.r)) hj hr
            (ap (λ (b : Bool). b && (eqb q.j q.j && eqb q.r q.r)) e ∙ ap₂ (λ (b c : Bool). b && c) (same q.j) (same q.r))
            (λ y z d. ap (λ (b : Bool). mask y z && (b && eqb z q.r)) (ne_eqb y q.j d) ∙ no_right (mask y z))
            (λ z d. ap₂ (λ (b c : Bool). mask q.j z && (b && c)) (same q.j) (ne_eqb z q.r d) ∙ no_right (mask q.j z)),
      )
    where
      once : (n u v : ℕ) (f : ℕ → ℕ → Bool) → u < n → v < J → ((x y : ℕ) → f x y ≡ (eqb x u && eqb y v)) → total n (λ x. total J (λ y. one (f x y))) ≡ 1
      once n u v f h k e =
          total_once n J u v f h k (e u v ∙ ap₂ (λ (b c : Bool). b && c) (same u) (same v))
          (λ x y d. e x y ∙ ap (λ (b : Bool). b && eqb y v) (ne_eqb x u d))
          (λ y d. e u y ∙ ap₂ (λ (b c : Bool). b && c) (same u) (ne_eqb y v d))

  pub row_meets : (part : Part) (u v : ℕ) → Fixed J L (mask_at J bytes) part u v → tally (meets (row_of part u v)) (columns J L (mask_at J bytes)) ≡ L
  row_meets AJ u v f = aj_row u v f.0 f.1
  row_meets AR u v f = ar_row u v f.0 f.1
  row_meets JR u v f = jr_row u v f.0 f.1 f.2

-- the plan's length
module _ {A B C : Type 0} (f : A → B → C) where
  pub length_grid : (xs : List A) (ys : List B) → length (grid f xs ys) ≡ length xs * length ys
  length_grid [] ys = omega arith
  length_grid (x ∷ xs) ys = omega (arith, length-append (map (f x) ys) (grid f xs ys), length-map ys (f x), length_grid xs ys)

pub plan_length : (J L lift : ℕ) (s : ℕ → ℕ → ℕ) (bytes : List ℕ) → Common J bytes L → length (table_plan J L lift s (mask_at J bytes)) ≡ plan_rows J L * plan_cols J L
unfolding table_plan
plan_length J L lift s bytes w =
    length_grid (entry J lift s) (rows J L (mask_at J bytes)) (columns J L (mask_at J bytes)) ∙ ap₂ ◌*◌ (rows_count J L bytes w) (columns_count J L bytes w)
