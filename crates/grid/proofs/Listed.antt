-- Counted lists as the images of selected numbers: no element stands twice, and what every element has. Assumes nothing.
use Prim.Native.Nat.{ℕ, zero, suc, ◌+◌, ◌*◌, ◌/◌, ◌%◌, ◌<◌}
use mathlib.Core.Path.{◌≡◌, refl, sym, ap, ap₂, subst, ◌∙◌}
use mathlib.Core.Logic.{◌⊎◌, inl, inr}
use mathlib.Core.Bool.{Bool, true, false}
use mathlib.Core.List.{List, [], ◌∷◌, ◌++◌, map, map-append}
use native.Mathlib.Nat.{div-add-mod', zero-add}
use native.Mathlib.Numerals.{add-one}
use native.Mathlib.Omega.{arith}
use lib.ListN.{length, get_or}
use Rattle.graph.specs.Count.{range, below, select, Mem, Nodup}
use Rattle.graph.proofs.Decide.{by_le}
use Rattle.graph.proofs.Lists.{mem_append, nodup_append, nodup_get_or}
use Rattle.graph.proofs.Count.{mem_range, nodup_range, range_append, select_append, mem_select, nodup_select}
use Rattle.square.specs.Each.{each, upon}
use Rattle.square.proofs.Places.{digit, first_digit}
use Rattle.square.proofs.Each.{each_digits}
use Rattle.grid.specs.declared.Part.{Part}
use Rattle.grid.specs.declared.Part.TheVariants.{AJ, AR, JR}
use Rattle.grid.specs.declared.Row.{Row}
use Rattle.grid.specs.declared.Column.{Column}
use Rattle.grid.specs.Plan.{Ones, columns, rows, row_of}
use Rattle.grid.specs.Inner.{column, keeps}
use Rattle.grid.proofs.Columns.{columns_are}
use Rattle.grid.proofs.Parts.{AJ≢AR, AJ≢JR, AR≢JR}

module _ {A : Type 0} where
  -- equal elements of a duplicate-free list stand at one place
  pub nodup_inj : (l : List A) (d : A) → Nodup l → (i k : ℕ) → i < length l → k < length l → get_or l i d ≡ get_or l k d → i ≡ k
  nodup_inj l d n i k hi hk e =
      by_le i k
      (λ p. by_le k i (λ q. omega arith) (λ q. absurd (nodup_get_or l d n i k q hk e)))
      (λ p. absurd (nodup_get_or l d n k i p hi (sym e)))

  module _ (g : ℕ → A) where
    pub mem_map : (x : A) (l : List ℕ) → Mem x (map g l) → (n : ℕ) × Mem n l × (x ≡ g n)
    mem_map x [] m = absurd m
    mem_map x (n ∷ l) (inl e) = (n, inl refl, e)
    mem_map x (n ∷ l) (inr m) = let r = mem_map x l m in (r.0, inr r.1, r.2)

    -- g has an inverse
    pub nodup_map : (rank : A → ℕ) → ((n : ℕ) → rank (g n) ≡ n) → (l : List ℕ) → Nodup l → Nodup (map g l)
    nodup_map rank back [] d = tt
    nodup_map rank back (n ∷ l) d =
        (λ m. let r = mem_map (g n) l m in d.0 (subst (λ (k : ℕ). Mem k l) (sym (back r.0) ∙ ap rank (sym r.2) ∙ back n) r.1), nodup_map rank back l d.1)

    -- what is kept, counted
    pub each_select : (n : ℕ) (f : ℕ → Bool) → each n (λ i. upon (f i) (g i ∷ [])) ≡ map g (select f (below n))
    unfolding select range
    each_select zero f = refl
    each_select (suc n) f =
        ap₂ (λ (l m : List A). l ++ m) (each_select n f) (last (f n) refl)
        ∙ sym (map-append g (select f (below n)) (select f (range (0 + n) 1)))
        ∙ ap (map g) (sym (select_append f (below n) (range (0 + n) 1)) ∙ ap (select f) (sym (range_append 0 n 1) ∙ ap below (add-one n)))
      where
        last : (b : Bool) → f n ≡ b → upon (f n) (g n ∷ []) ≡ map g (select f (range (0 + n) 1))
        last true e = rw (zero-add n, e) refl
        last false e = rw (zero-add n, e) refl

-- COLUMNS
module _ (J L : ℕ) (mask : Ones) (some : 0 < J) where
  abbrev kept : ℕ → Bool
  kept n = mask (column J n).j (column J n).r

  pub columns_selected : columns J L mask ≡ map (column J) (select kept (below (L * J * J)))
  columns_selected = columns_are J some L mask ∙ each_select (column J) (L * J * J) kept

  pub record column_in (q : Column) : Type 0 where
    pub a_in : q.a < L
    pub j_in : q.j < J
    pub r_in : q.r < J
    pub masked : mask q.j q.r ≡ true

  pub mem_column : (q : Column) → Mem q (columns J L mask) → column_in q
  mem_column q m =
      let r = mem_map (column J) q (select kept (below (L * J * J))) (subst (Mem q) columns_selected m) in
      let n = r.0 in
      let s = mem_select kept n (below (L * J * J)) r.1 in
      let h : n < L * J * J = omega (arith, mem_range n 0 (L * J * J) s.0) in
      subst column_in (sym r.2) (record { a_in = first_digit J some (n / J) L (first_digit J some n (L * J) h); j_in = digit J some (n / J); r_in = digit J some n; masked = s.1 })

  pub nodup_columns : Nodup (columns J L mask)
  nodup_columns =
      subst Nodup (sym columns_selected)
      (nodup_map (column J) (λ q. (q.a * J + q.j) * J + q.r)
      (λ n. ap (λ (x : ℕ). x * J + n % J) (div-add-mod' (n / J) J) ∙ div-add-mod' n J)
      (select kept (below (L * J * J))) (nodup_select kept (below (L * J * J)) (nodup_range 0 (L * J * J))))

-- ROWS
module _ (J L : ℕ) (mask : Ones) where
  -- the pairs that the rows of a part have
  abbrev pub Fixed : Part → ℕ → ℕ → Type 0
  Fixed AJ u v = (u < L) × (v < J)
  Fixed AR u v = (u < L) × (v < J)
  Fixed JR u v = (u < J) × (v < J) × (mask u v ≡ true)

module _ (J L : ℕ) (mask : Ones) (some : 0 < J) where
  -- one part
  module _ (part : Part) (n : ℕ) where
    abbrev part_rows : List Row
    part_rows = each n (λ u. each J (λ v. upon (keeps part (mask u v)) (row_of part u v ∷ [])))

    abbrev nth : ℕ → Row
    nth x = row_of part (x / J) (x % J)

    abbrev keep : ℕ → Bool
    keep x = keeps part (mask (x / J) (x % J))

    pub part_selected : part_rows ≡ map nth (select keep (below (n * J)))
    part_selected = each_digits n J some (λ u v. upon (keeps part (mask u v)) (row_of part u v ∷ [])) ∙ each_select nth (n * J) keep

    record part_row (w : Row) : Type 0 where
      own : w.part ≡ part
      first_in : w.one < n
      second_in : w.two < J
      has : keeps part (mask w.one w.two) ≡ true

    mem_part : (w : Row) → Mem w part_rows → part_row w
    mem_part w m =
        let r = mem_map nth w (select keep (below (n * J))) (subst (Mem w) part_selected m) in
        let x = r.0 in
        let s = mem_select keep x (below (n * J)) r.1 in
        let h : x < n * J = omega (arith, mem_range x 0 (n * J) s.0) in
        subst part_row (sym r.2) (record { own = refl; first_in = first_digit J some x n h; second_in = digit J some x; has = s.1 })

    nodup_part : Nodup part_rows
    nodup_part =
        subst Nodup (sym part_selected)
        (nodup_map nth (λ w. w.one * J + w.two) (λ x. div-add-mod' x J) (select keep (below (n * J))) (nodup_select keep (below (n * J)) (nodup_range 0 (n * J))))

  fixed : (w : Row) (part : Part) → w.part ≡ part → Fixed J L mask part w.one w.two → Fixed J L mask w.part w.one w.two
  fixed w part e f = subst (λ (p : Part). Fixed J L mask p w.one w.two) (sym e) f

  pub mem_row : (w : Row) → Mem w (rows J L mask) → Fixed J L mask w.part w.one w.two
  unfolding rows
  mem_row w m = first (mem_append w (part_rows AJ L) (part_rows AR L ++ part_rows JR J) m)
    where
      second : Mem w (part_rows AR L) ⊎ Mem w (part_rows JR J) → Fixed J L mask w.part w.one w.two
      second (inl k) = let p = mem_part AR L w k in fixed w AR p.own (p.first_in, p.second_in)
      second (inr k) = let p = mem_part JR J w k in fixed w JR p.own (p.first_in, p.second_in, p.has)

      first : Mem w (part_rows AJ L) ⊎ Mem w (part_rows AR L ++ part_rows JR J) → Fixed J L mask w.part w.one w.two
      first (inl k) = let p = mem_part AJ L w k in fixed w AJ p.own (p.first_in, p.second_in)
      first (inr k) = second (mem_append w (part_rows AR L) (part_rows JR J) k)

  pub nodup_rows : Nodup (rows J L mask)
  unfolding rows
  nodup_rows =
      nodup_append (part_rows AJ L) (part_rows AR L ++ part_rows JR J) (nodup_part AJ L)
      (nodup_append (part_rows AR L) (part_rows JR J) (nodup_part AR L) (nodup_part JR J) (λ w k l. AR≢JR (sym (mem_part AR L w k).own ∙ (mem_part JR J w l).own)))
      (λ w k l. other w (mem_part AJ L w k).own (mem_append w (part_rows AR L) (part_rows JR J) l))
    where
      other : (w : Row) → w.part ≡ AJ → Mem w (part_rows AR L) ⊎ Mem w (part_rows JR J) → ⊥
      other w e (inl k) = AJ≢AR (sym e ∙ (mem_part AR L w k).own)
      other w e (inr k) = AJ≢JR (sym e ∙ (mem_part JR J w k).own)
