-- The built plan is the target matrix of source document 004, with ∞ written −1 and entries reduced modulo P. Assumes nothing.
use Prim.Native.Nat.{ℕ, zero, suc, ◌+◌, ◌-◌, ◌*◌, ◌/◌, ◌%◌, ◌<◌, ◌≤◌}
use mathlib.Core.Path.{◌≡◌, refl, sym, ap, ap₂, subst, fun_ext, ◌∙◌}
use mathlib.Core.Logic.{◌⊎◌, inl, inr}
use mathlib.Core.Bool.{Bool, true, false, cond, not, ◌&&◌}
use mathlib.Core.List.{List, [], ◌∷◌, ◌++◌, map, map-append, append-nil}
use Rattle.std.specs.Prelude.{Option, None, Some}
use native.Mathlib.Nat.{div-add-mod', mul-le-mul_right, add-zero, zero-add}
use native.Mathlib.Omega.{arith}
use lib.Dec.{ltb, eqb}
use lib.ListN.{length, get_or, length-map}
use borrow.Author.Tests.{eqb-true, lt-ltb, le-ltb, ltb-true, not-true}
use Rattle.refusal.specs.Place.{first_place, somewhere}
use Rattle.refusal.proofs.Place.{at_first}
use Rattle.graph.specs.Count.{range, below, select, one, member, is_some, Mem}
use Rattle.graph.proofs.Decide.{by_bool, by_le, both_ways, and_left, and_right, same_bool}
use Rattle.graph.proofs.Lists.{mem_left, mem_right, mem_append, mem_image, get_or_mem}
use Rattle.graph.proofs.Count.{mem_range, range_mem, range_append, select_append, member_mem, mem_member}
use Rattle.exponent.proofs.Numbers.{block_of_law, place_of, number_low}
use Rattle.square.specs.Each.{each, upon, grid}
use Rattle.square.specs.Table.{block}
use Rattle.square.specs.Mask.{mask_at, Common}
use Rattle.square.proofs.Each.{mem_each, each_mem, mem_upon}
use Rattle.square.proofs.Places.{digit, first_digit}
use Rattle.square.proofs.Totals.{tally}
use Rattle.grid.specs.declared.Part.{Part}
use Rattle.grid.specs.declared.Part.TheVariants.{AJ, AR, JR}
use Rattle.grid.specs.declared.Row.{Row}
use Rattle.grid.specs.declared.Column.{Column}
use Rattle.grid.specs.Plan.{Ones, columns, rows, row_of, row_at, shift_at, meets, entry, plan_rows, plan_cols, table_plan}
use Rattle.grid.specs.Inner.{column}
use Rattle.grid.specs.Source004.{S, W, C, E, deleted_once, deleted, kept_columns, kept_rows, target, written}
use Rattle.grid.proofs.Listed.{mem_map, column_in, mem_column, columns_selected, Fixed, part_selected}
use Rattle.grid.proofs.Shape.{columns_count, rows_count, row_meets}

-- LISTS

select_same : (f g : ℕ → Bool) (l : List ℕ) → ((x : ℕ) → Mem x l → f x ≡ g x) → select f l ≡ select g l
unfolding select
select_same f g [] h = refl
select_same f g (x ∷ l) h = rw (h x (inl refl)) (ap (λ (m : List ℕ). cond (g x) (x ∷ m) m) (select_same f g l (λ y m. h y (inr m))))

select_no : (f : ℕ → Bool) (l : List ℕ) → ((x : ℕ) → Mem x l → f x ≡ false) → select f l ≡ []
unfolding select
select_no f [] h = refl
select_no f (x ∷ l) h = rw (h x (inl refl)) (select_no f l (λ y m. h y (inr m)))

-- nothing from m on passes
select_cut : (f g : ℕ → Bool) (m n : ℕ) → m ≤ n → ((x : ℕ) → x < m → f x ≡ g x) → ((x : ℕ) → m ≤ x → x < n → f x ≡ false) → select f (below n) ≡ select g (below m)
select_cut f g m n h p q =
    let e : n ≡ m + (n - m) = omega arith in
    ap (λ (k : ℕ). select f (below k)) e
    ∙ ap (select f) (range_append 0 m (n - m))
    ∙ select_append f (below m) (range (0 + m) (n - m))
    ∙ ap₂ (λ (a b : List ℕ). a ++ b) (select_same f g (below m) (λ x k. p x (omega (arith, mem_range x 0 m k))))
    (select_no f (range (0 + m) (n - m)) (λ x k. let r = mem_range x (0 + m) (n - m) k in q x (omega arith) (omega arith)))
    ∙ append-nil (select g (below m))

-- what is selected from b on, as what is selected from 0 on
select_shift : {A : Type 0} (f g : ℕ → Bool) (p q : ℕ → A) (b s n : ℕ) → ((x : ℕ) → s ≤ x → x < s + n → (f (b + x) ≡ g x) × (p (b + x) ≡ q x))
    → map p (select f (range (b + s) n)) ≡ map q (select g (range s n))
unfolding select range
select_shift f g p q b s zero h = refl
select_shift {A} f g p q b s (suc n) h =
    let here = h s (omega arith) (omega arith) in
    let e : suc (b + s) ≡ b + suc s = omega arith in
    let more : map p (select f (range (suc (b + s)) n)) ≡ map q (select g (range (suc s) n)) =
    ap (λ (k : ℕ). map p (select f (range k n))) e ∙ select_shift f g p q b (suc s) n (λ x i k. h x (omega arith) (omega arith)) in
    by_bool (g s)
    (λ t. rw (t, here.0 ∙ t) (ap₂ (λ (x : A) (l : List A). x ∷ l) here.1 more))
    (λ t. rw (t, here.0 ∙ t) more)

grid_map : {A B X Y M N : Type 0} (f : A → B → M) (g : X → Y → N) (h : M → N) (p : A → X) (q : B → Y) → ((a : A) (b : B) → h (f a b) ≡ g (p a) (q b))
    → (al : List A) (bs : List B) → map h (grid f al bs) ≡ grid g (map p al) (map q bs)
grid_map f g h p q e [] bs = refl
grid_map {B = B} {N = N} f g h p q e (a ∷ al) bs =
    map-append h (map (f a) bs) (grid f al bs) ∙ ap₂ (λ (x y : List N). x ++ y) (line bs) (grid_map f g h p q e al bs)
  where
    line : (bs : List B) → map h (map (f a) bs) ≡ map (g (p a)) (map q bs)
    line [] = refl
    line (b ∷ bs) = ap₂ (λ (x : N) (l : List N). x ∷ l) (e a b) (line bs)

-- some element of the image passes
tally_first : {A : Type 0} (f : A → Bool) (g : ℕ → A) (l : List ℕ) → 1 ≤ tally f (map g l) → first_place (λ n. f (g n)) l < length l
unfolding first_place tally
tally_first f g [] h = absurd (omega arith)
tally_first f g (n ∷ l) h = by_bool (f (g n)) (λ t. rw t (omega arith)) (λ t. rw t (omega (arith, tally_first f g l (omega (arith, ap one t)))))

-- ONE ENTRY: what 004 writes is the entry of the row and the column that the numbers stand for

abbrev row_name : ℕ → ℕ → Row
row_name J i =
    let second = i - J * J in
    let third = i - 2 * (J * J) in
    cond (ltb i (J * J)) (row_of AJ (i / J) (i % J)) (cond (ltb i (2 * (J * J))) (row_of AR (second / J) (second % J)) (row_of JR (third / J) (third % J)))

abbrev number : ℕ → (ℕ → ℕ → ℕ) → Column → Row → Option ℕ
number J s q w = cond (meets w q) (Some (shift_at J s w.part q)) None

module _ (J : ℕ) (s : ℕ → ℕ → ℕ) (x y u k r : ℕ) where
  aj_is : cond (eqb x u) (S s y k r) None ≡ cond (eqb x u && eqb y k) (Some (s k r)) None
  aj_is = step (eqb x u) (eqb y k) refl
    where
      step : (b d : Bool) → eqb y k ≡ d → cond b (cond d (Some (s y r)) None) None ≡ cond (b && d) (Some (s k r)) None
      step true true e = ap (λ (z : ℕ). Some (s z r)) (eqb-true y k e)
      step true false e = refl
      step false d e = refl

  ar_is : cond {A = Option ℕ} (eqb x u) (W y k r) None ≡ cond (eqb x u && eqb y r) (Some 0) None
  ar_is = step (eqb x u) (eqb y r)
    where
      step : (b d : Bool) → cond {A = Option ℕ} b (cond d (Some 0) None) None ≡ cond (b && d) (Some 0) None
      step true d = refl
      step false d = refl

  jr_is : C J s u x y k r ≡ cond (eqb x k && eqb y r) (Some (s u ((r + k) % J))) None
  jr_is = step (eqb x k) (eqb y r) refl
    where
      step : (b d : Bool) → eqb y r ≡ d → cond b (cond d (Some (s u ((y + k) % J))) None) None ≡ cond (b && d) (Some (s u ((r + k) % J))) None
      step true true e = ap (λ (z : ℕ). Some (s u ((z + k) % J))) (eqb-true y r e)
      step true false e = refl
      step false d e = refl

pick_same : {A B : Type 0} (f : A → B) (t₁ t₂ : Bool) (x y z : B) (a b c : A) → x ≡ f a → y ≡ f b → z ≡ f c → cond t₁ x (cond t₂ y z) ≡ f (cond t₁ a (cond t₂ b c))
pick_same f true t₂ x y z a b c p q r = p
pick_same f false true x y z a b c p q r = q
pick_same f false false x y z a b c p q r = r

e_is : (J : ℕ) (s : ℕ → ℕ → ℕ) (i c : ℕ) → E J s i c ≡ number J s (column J c) (row_name J i)
e_is J s i c =
    let q = column J c in
    let second = i - J * J in
    let third = i - 2 * (J * J) in
    pick_same (number J s q) (ltb i (J * J)) (ltb i (2 * (J * J)))
    (cond (eqb (i / J) q.a) (S s (i % J) q.j q.r) None)
    (cond (eqb (second / J) q.a) (W (second % J) q.j q.r) None)
    (C J s q.a (third / J) (third % J) q.j q.r)
    (row_of AJ (i / J) (i % J)) (row_of AR (second / J) (second % J)) (row_of JR (third / J) (third % J))
    (aj_is J s (i / J) (i % J) q.a q.j q.r) (ar_is J s (second / J) (second % J) q.a q.j q.r) (jr_is J s (third / J) (third % J) q.a q.j q.r)

written_is : (P : ℕ) (m : Bool) (n : ℕ) → written P (cond m (Some n) None) ≡ block m (n % P)
written_is P true n = refl
written_is P false n = refl

is_some_is : (m : Bool) (n : ℕ) → is_some (cond m (Some n) None) ≡ m
is_some_is true n = refl
is_some_is false n = refl

-- THE MATRIX, for a mask with a common weight
module _ (J L : ℕ) (s : ℕ → ℕ → ℕ) (bytes : List ℕ) (w : Common J bytes L) where
  abbrev mask : Ones
  mask = mask_at J bytes

  some_order : 0 < J
  some_order = omega (arith, w.least, w.most)

  abbrev kept : ℕ → Bool
  kept c = mask (column J c).j (column J c).r

  abbrev cols : List ℕ
  cols = select kept (below (L * J * J))

  -- COLUMNS. The number of a column, by its digits
  digits_are : (c : ℕ) → (c / J / J * J + c / J % J) * J + c % J ≡ c
  digits_are c = ap (λ (x : ℕ). x * J + c % J) (div-add-mod' (c / J) J) ∙ div-add-mod' c J

  in_once : (j k : ℕ) → j < J → k < J → mask j k ≡ false → Mem (suc (j * J + k)) (deleted_once J (mask_at J bytes))
  unfolding deleted_once
  in_once j k hj hk e =
      each_mem (suc (j * J + k)) J _ j hj (each_mem (suc (j * J + k)) J _ k hk (subst (λ (b : Bool). Mem (suc (j * J + k)) (upon (not b) (suc (j * J + k) ∷ []))) (sym e) (inl refl)))

  once_in : (n : ℕ) → Mem n (deleted_once J (mask_at J bytes)) → (j : ℕ) × (k : ℕ) × (j < J) × (k < J) × (mask j k ≡ false) × (n ≡ suc (j * J + k))
  unfolding deleted_once
  once_in n m =
      let u = mem_each n J _ m in
      let v = mem_each n J _ u.2 in
      let t = mem_upon n (suc (u.0 * J + v.0)) (not (mask u.0 v.0)) v.2 in
      (u.0, v.0, u.1, v.1, not-true _ t.0, t.1)

  deleted_in : (c : ℕ) → c < L * J * J → Mem (suc c) (deleted J L (mask_at J bytes)) → kept c ≡ false
  unfolding deleted
  deleted_in c h m = go (mem_append (suc c) (each L (λ i. map (λ n. n + J * J * i) (deleted_once J mask))) _ m)
    where
      go : Mem (suc c) (each L (λ i. map (λ n. n + J * J * i) (deleted_once J mask))) ⊎ Mem (suc c) (range (1 + J * J * L) (J * J * J - J * J * L)) → kept c ≡ false
      go (inl k) =
          let u = mem_each (suc c) L _ k in
          let v = mem_map (λ n. n + J * J * u.0) (suc c) (deleted_once J mask) u.2 in
          let t = once_in v.0 v.1 in
          let i = u.0 in
          let j = t.0 in
          let r = t.1 in
          let e : c ≡ (i * J + j) * J + r = omega (arith, v.2, t.5) in
          let x : c / J ≡ i * J + j = ap (◌/ J) e ∙ block_of_law J some_order (i * J + j) r t.3 in
          let j-is : c / J % J ≡ j = ap (◌% J) x ∙ place_of J some_order i j t.2 in
          let r-is : c % J ≡ r = ap (◌% J) e ∙ place_of J some_order (i * J + j) r t.3 in
          ap₂ mask j-is r-is ∙ t.4
      go (inr k) = absurd (let b = mem_range (suc c) (1 + J * J * L) (J * J * J - J * J * L) k in omega arith)

  in_deleted : (c : ℕ) → c < L * J * J → kept c ≡ false → Mem (suc c) (deleted J L (mask_at J bytes))
  unfolding deleted
  in_deleted c h e =
      let a = c / J / J in
      let j = c / J % J in
      let r = c % J in
      let ha : a < L = first_digit J some_order (c / J) L (first_digit J some_order c (L * J) h) in
      let same : suc (j * J + r) + J * J * a ≡ suc c = omega (arith, digits_are c) in
      mem_left (suc c) (each L (λ i. map (λ n. n + J * J * i) (deleted_once J mask))) _
      (each_mem (suc c) L _ a ha (subst (λ (n : ℕ). Mem n (map (λ n. n + J * J * a) (deleted_once J mask))) same
      (mem_image (λ n. n + J * J * a) (suc (j * J + r)) (deleted_once J mask) (in_once j r (digit J some_order (c / J)) (digit J some_order c) e))))

  late_deleted : (c : ℕ) → L * J * J ≤ c → c < J * J * J → Mem (suc c) (deleted J L (mask_at J bytes))
  unfolding deleted
  late_deleted c h k =
      mem_right (suc c) (each L (λ i. map (λ n. n + J * J * i) (deleted_once J mask))) _ (range_mem (suc c) (1 + J * J * L) (J * J * J - J * J * L) (omega arith) (omega arith))

  columns_kept : kept_columns J L (mask_at J bytes) ≡ select kept (below (L * J * J))
  unfolding kept_columns
  columns_kept =
      select_cut (λ c. not (member (suc c) (deleted J L mask))) kept (L * J * J) (J * J * J)
      (mul-le-mul_right J (mul-le-mul_right J w.most))
      (λ c h. by_bool (kept c)
      (λ e. ap not (by_bool (member (suc c) (deleted J L mask)) (λ m. both_ways e (deleted_in c h (member_mem (suc c) (deleted J L mask) m))) (λ m. m)) ∙ sym e)
      (λ e. ap not (mem_member (suc c) (deleted J L mask) (in_deleted c h e)) ∙ sym e))
      (λ c h k. ap not (mem_member (suc c) (deleted J L mask) (late_deleted c h k)))

  columns_are : map (column J) (kept_columns J L (mask_at J bytes)) ≡ columns J L (mask_at J bytes)
  columns_are = ap (map (column J)) columns_kept ∙ sym (columns_selected J L mask some_order)

  -- ROWS. A row that has a number is one that the definition keeps
  meets_fixed : (v : Row) (q : Column) → column_in J L (mask_at J bytes) some_order q → meets v q ≡ true → Fixed J L (mask_at J bytes) v.part v.one v.two
  meets_fixed v q m e = step v.part (eqb-true _ _ (and_left (eqb v.one (row_at v.part q).one) _ e)) (eqb-true _ _ (and_right (eqb v.one (row_at v.part q).one) _ e))
    where
      step : (p : Part) → v.one ≡ (row_at p q).one → v.two ≡ (row_at p q).two → Fixed J L (mask_at J bytes) p v.one v.two
      step AJ a b = (omega (arith, m.a_in), omega (arith, m.j_in))
      step AR a b = (omega (arith, m.a_in), omega (arith, m.r_in))
      step JR a b = (omega (arith, m.j_in), omega (arith, m.r_in), ap₂ mask a b ∙ m.masked)

  abbrev used : Row → Bool
  used v = somewhere (λ c. meets v (column J c)) cols

  used_fixed : (v : Row) → used v ≡ true → Fixed J L (mask_at J bytes) v.part v.one v.two
  used_fixed v e =
      let test : ℕ → Bool = λ c. meets v (column J c) in
      let k = first_place test cols in
      let h : k < length cols = ltb-true k (length cols) e in
      let c = get_or cols k 0 in
      meets_fixed v (column J c)
      (mem_column J L mask some_order (column J c) (subst (Mem (column J c)) (sym (columns_selected J L mask some_order)) (mem_image (column J) c cols (get_or_mem cols k 0 h))))
      (at_first test 0 cols h)

  fixed_used : (v : Row) → Fixed J L (mask_at J bytes) v.part v.one v.two → used v ≡ true
  fixed_used v f =
      lt-ltb _ _ (tally_first (meets v) (column J) cols
      (omega (arith, ap (tally (meets v)) (sym (columns_selected J L mask some_order)) ∙ row_meets J L bytes w v.part v.one v.two f, w.least)))

  -- the rows of a part that are kept
  abbrev keep : Part → ℕ → Bool
  keep AJ x = ltb (x / J) L
  keep AR x = ltb (x / J) L
  keep JR x = mask (x / J) (x % J)

  abbrev nth : Part → ℕ → Row
  nth part x = row_of part (x / J) (x % J)

  used_is : (part : Part) (x : ℕ) → x < J * J → used (nth part x) ≡ keep part x
  used_is AJ x h = same_bool _ _ (λ e. lt-ltb _ _ (used_fixed (nth AJ x) e).0) (λ e. fixed_used (nth AJ x) (ltb-true _ _ e, digit J some_order x))
  used_is AR x h = same_bool _ _ (λ e. lt-ltb _ _ (used_fixed (nth AR x) e).0) (λ e. fixed_used (nth AR x) (ltb-true _ _ e, digit J some_order x))
  used_is JR x h = same_bool _ _ (λ e. (used_fixed (nth JR x) e).2) (λ e. fixed_used (nth JR x) (first_digit J some_order x J h, digit J some_order x, e))

  abbrev part_list : Part → List Row
  part_list part = map (nth part) (select (keep part) (below (J * J)))

  first_rows : select (λ x. ltb (x / J) L) (below (J * J)) ≡ select (λ x. true) (below (L * J))
  first_rows =
      select_cut (λ x. ltb (x / J) L) (λ x. true) (L * J) (J * J) (mul-le-mul_right J w.most)
      (λ x h. lt-ltb _ _ (first_digit J some_order x L h))
      (λ x h k. le-ltb _ _ (by_le L (x / J) (λ l. l) (λ l. absurd (omega (arith, number_low (x / J) (x % J) L J l (digit J some_order x), div-add-mod' x J)))))

  rows_are : rows J L (mask_at J bytes) ≡ part_list AJ ++ (part_list AR ++ part_list JR)
  unfolding rows
  rows_are =
      ap₂ ◌++◌ (part_selected J L mask some_order AJ L ∙ ap (map (nth AJ)) (sym first_rows))
      (ap₂ ◌++◌ (part_selected J L mask some_order AR L ∙ ap (map (nth AR)) (sym first_rows)) (part_selected J L mask some_order JR J))

  -- the names of the rows of E
  name_1 : (x : ℕ) → x < J * J → row_name J (0 + x) ≡ nth AJ x
  name_1 x h = ap (row_name J) (zero-add x) ∙ rw (lt-ltb x (J * J) h) refl

  name_2 : (x : ℕ) → x < J * J → row_name J (0 + J * J + x) ≡ nth AR x
  name_2 x h =
      let y = 0 + J * J + x in
      let e : y - J * J ≡ x = omega arith in
      rw (le-ltb y (J * J) (omega arith), lt-ltb y (2 * (J * J)) (omega arith)) (ap (nth AR) e)

  name_3 : (x : ℕ) → x < J * J → row_name J (0 + J * J + J * J + x) ≡ nth JR x
  name_3 x h =
      let y = 0 + J * J + J * J + x in
      let e : y - 2 * (J * J) ≡ x = omega arith in
      rw (le-ltb y (J * J) (omega arith), le-ltb y (2 * (J * J)) (omega arith)) (ap (nth JR) e)

  abbrev has : ℕ → Bool
  has i = used (row_name J i)

  part_kept : (part : Part) (b : ℕ) → ((x : ℕ) → x < J * J → row_name J (b + x) ≡ nth part x) → map (row_name J) (select has (range b (J * J))) ≡ part_list part
  part_kept part b name =
      ap (λ (k : ℕ). map (row_name J) (select has (range k (J * J)))) (sym (add-zero b))
      ∙ select_shift has (keep part) (row_name J) (nth part) b 0 (J * J) (λ x _ h. let n = name x (omega arith) in (ap used n ∙ used_is part x (omega arith), n))

  rows_kept : kept_rows J L s (mask_at J bytes) ≡ select has (below (3 * (J * J)))
  unfolding kept_rows
  rows_kept =
      select_same _ has (below (3 * (J * J))) λ i _.
      ap (somewhere (λ c. is_some (E J s i c))) columns_kept
      ∙ ap (λ (f : ℕ → Bool). somewhere f cols) (fun_ext λ c. ap is_some (e_is J s i c) ∙ is_some_is (meets (row_name J i) (column J c)) _)

  rows_named : map (row_name J) (kept_rows J L s (mask_at J bytes)) ≡ rows J L (mask_at J bytes)
  rows_named =
      let e : 3 * (J * J) ≡ J * J + (J * J + J * J) = omega arith in
      let r₂ = range (0 + J * J) (J * J) in
      let r₃ = range (0 + J * J + J * J) (J * J) in
      ap (map (row_name J)) (rows_kept ∙ ap (λ (n : ℕ). select has (below n)) e
      ∙ ap (select has) (range_append 0 (J * J) (J * J + J * J) ∙ ap (λ (l : List ℕ). below (J * J) ++ l) (range_append (0 + J * J) (J * J) (J * J))))
      ∙ ap (map (row_name J)) (select_append has (below (J * J)) (r₂ ++ r₃) ∙ ap (λ (l : List ℕ). select has (below (J * J)) ++ l) (select_append has r₂ r₃))
      ∙ map-append (row_name J) (select has (below (J * J))) (select has r₂ ++ select has r₃)
      ∙ ap₂ ◌++◌ (part_kept AJ 0 name_1) (map-append (row_name J) (select has r₂) (select has r₃)
      ∙ ap₂ ◌++◌ (part_kept AR (0 + J * J) name_2) (part_kept JR (0 + J * J + J * J) name_3))
      ∙ sym rows_are

  -- THE THEOREM: the plan of a table and a mask is the target matrix of 004
  pub source_004 : (P : ℕ) → map (written P) (target J L s (mask_at J bytes)) ≡ table_plan J L P s (mask_at J bytes)
  unfolding target table_plan
  source_004 P =
      grid_map (E J s) (entry J P s) (written P) (row_name J) (column J)
      (λ i c. ap (written P) (e_is J s i c) ∙ written_is P (meets (row_name J i) (column J c)) _)
      (kept_rows J L s mask) (kept_columns J L mask)
      ∙ ap₂ (grid (entry J P s)) rows_named columns_are

  -- and has its rows and columns
  pub shape_004 : (length (kept_rows J L s (mask_at J bytes)) ≡ plan_rows J L) × (length (kept_columns J L (mask_at J bytes)) ≡ plan_cols J L)
  shape_004 = (
    sym (length-map (kept_rows J L s mask) (row_name J)) ∙ ap length rows_named ∙ rows_count J L bytes w,
    sym (length-map (kept_columns J L mask) (column J)) ∙ ap length columns_are ∙ columns_count J L bytes w,
  )
