-- The shape that is tested is the shape by its blocks. Assumes nothing.
use Prim.Native.Nat.{ℕ, zero, suc, ◌+◌, ◌-◌, ◌≤◌, ◌<◌}
use mathlib.Core.Path.{◌≡◌, refl, sym, ap, subst, ◌∙◌}
use mathlib.Core.Logic.{◌⊎◌, inl, inr, ◌≢◌, ◌↔◌}
use mathlib.Core.Bool.{true, false, not}
use mathlib.Core.List.{List, [], ◌∷◌}
use Rattle.std.specs.Prelude.{Option, None, Some}
use native.Mathlib.Omega.{arith}
use borrow.Author.Tests.{eqb-false, le-ltb}
use lib.Dec.{eqb}
use lib.IntN.{ℤ}
use lib.ListN.{length}
use Rattle.graph.specs.Count.{range, below, one, count, is_some, Mem, Nodup}
use Rattle.graph.specs.Erasure.{any}
use Rattle.graph.proofs.Decide.{both_ways, by_bool, by_eq}
use Rattle.graph.proofs.Count.{nodup_range}
use Rattle.graph.proofs.Neighbours.{below_mem}
use Rattle.graph.proofs.Peeling.{any_none}
use Rattle.exponent.specs.declared.block.Block.{Block}
use Rattle.exponent.specs.declared.block.Block.TheVariants.{Zero, Shift, Invalid}
use Rattle.exponent.specs.Plan.{block_at, filled}
use Rattle.exponent.specs.Tanner.{column_weight}
use Rattle.bidiagonal.specs.Shape.{is_identity, is_zero, misplaced, add_shift, shifts_of, third, third_shift, some_misplaced, not_bidiagonal}
use Rattle.bidiagonal.proofs.Thirds.{Twice, upper_two, outer_two, lower_two, twice}
use Rattle.bidiagonal.proofs.Judging.{misplaced_here, misplaced_under, misplaced_else, Diagonals, diagonals, third_some}

-- as many shifts as filled blocks
length_shifts : (block : ℕ → Block) (l : List ℕ) → length (shifts_of block l) ≡ count (λ i. filled (block i)) l
unfolding shifts_of count
length_shifts block [] = refl
length_shifts block (i ∷ l) = step (block i) (length_shifts block l)
  where
    step : (b : Block) → length (shifts_of block l) ≡ count (λ i. filled (block i)) l → length (add_shift b (shifts_of block l)) ≡ one (filled b) + count (λ i. filled (block i)) l
    step Zero e = omega arith
    step (Shift x) e = omega arith
    step Invalid e = omega arith

-- the row that a first shift comes from, and the rows of the others
record From (block : ℕ → Block) (x : ℕ) (rest : List ℕ) (s end : ℕ) : Type 0 where
  row : ℕ
  onward : s ≤ row
  inside : row < end
  is : block row ≡ Shift x
  others : rest ≡ shifts_of block (range (suc row) (end - suc row))

from : (block : ℕ → Block) (s n x : ℕ) (rest : List ℕ) → shifts_of block (range s n) ≡ x ∷ rest → From block x rest s (s + n)
unfolding shifts_of range
from block s zero x rest e = absurd (let z : ◌≡◌ {A = ℕ} 0 1 = cc in omega arith)
from block s (suc n) x rest e = step (block s) refl e (λ p. from block (suc s) n x rest p)
  where
    here : (y : ℕ) (l : List ℕ) → y ∷ l ≡ x ∷ rest → (y ≡ x) × (rest ≡ l)
    here y l q = let p : y ≡ x = cc in let r : rest ≡ l = cc in (p, r)

    wider : From block x rest (suc s) (suc s + n) → From block x rest s (s + suc n)
    wider f =
        let same : suc s + n ≡ s + suc n = omega arith in
        record { row = f.row; onward = omega (arith, f.onward); inside = omega (arith, f.inside); is = f.is; others = subst (λ (m : ℕ). rest ≡ shifts_of block (range (suc f.row) (m - suc f.row))) same f.others }

    step : (b : Block) → block s ≡ b → add_shift b (shifts_of block (range (suc s) n)) ≡ x ∷ rest → (shifts_of block (range (suc s) n) ≡ x ∷ rest → From block x rest (suc s) (suc s + n)) → From block x rest s (s + suc n)
    step Zero q p more = wider (more p)
    step Invalid q p more = wider (more p)
    step (Shift y) q p more =
        let (r, t) = here y (shifts_of block (range (suc s) n)) p in
        record {
          row = s;
          onward = omega arith;
          inside = omega arith;
          is = q ∙ ap Shift r;
          others = t ∙ ap (λ (m : ℕ). shifts_of block (range (suc s) m)) (let k : n ≡ s + suc n - suc s = omega arith in k);
        }

mem_shifts : (block : ℕ → Block) (i e : ℕ) (l : List ℕ) → Mem i l → block i ≡ Shift e → Mem e (shifts_of block l)
unfolding shifts_of
mem_shifts block i e [] m q = absurd m
mem_shifts block i e (j ∷ l) (inl h) q = subst (λ (b : Block). Mem e (add_shift b (shifts_of block l))) (sym (ap block (sym h) ∙ q)) (inl refl)
mem_shifts block i e (j ∷ l) (inr m) q = step (block j) (mem_shifts block i e l m q)
  where
    step : (b : Block) → Mem e (shifts_of block l) → Mem e (add_shift b (shifts_of block l))
    step Zero k = k
    step (Shift x) k = inr k
    step Invalid k = k

-- two rows with the same shift repeat it
repeats : (block : ℕ → Block) (i k e : ℕ) (l : List ℕ) → Nodup l → Nodup (shifts_of block l) → Mem i l → Mem k l → i ≢ k → block i ≡ Shift e → block k ≡ Shift e → ⊥
unfolding shifts_of
repeats block i k e [] dl d m n ik p q = m
repeats block i k e (j ∷ l) dl d (inl h) (inl g) ik p q = ik (h ∙ sym g)
repeats block i k e (j ∷ l) dl d (inl h) (inr n) ik p q = twice (subst (λ (b : Block). Nodup (add_shift b (shifts_of block l))) (ap block (sym h) ∙ p) d) (mem_shifts block k e l n q)
  where
    twice : Nodup (e ∷ shifts_of block l) → Mem e (shifts_of block l) → ⊥
    twice t m = t.0 m
repeats block i k e (j ∷ l) dl d (inr m) (inl g) ik p q = twice (subst (λ (b : Block). Nodup (add_shift b (shifts_of block l))) (ap block (sym g) ∙ q) d) (mem_shifts block i e l m p)
  where
    twice : Nodup (e ∷ shifts_of block l) → Mem e (shifts_of block l) → ⊥
    twice t m = t.0 m
repeats block i k e (j ∷ l) dl d (inr m) (inr n) ik p q = repeats block i k e l dl.1 (rest (block j) d) m n ik p q
  where
    rest : (b : Block) → Nodup (add_shift b (shifts_of block l)) → Nodup (shifts_of block l)
    rest Zero t = t
    rest (Shift x) t = t.1
    rest Invalid t = t

-- three shifts without a third are all different
none_third : (l : List ℕ) → length l ≡ 3 → third l ≡ None → Nodup l
none_third [] h e = absurd (omega arith)
none_third (a ∷ []) h e = absurd (omega arith)
none_third (a ∷ b ∷ []) h e = absurd (omega arith)
none_third (a ∷ b ∷ c ∷ []) h e =
    by_bool (eqb a b)
    (λ p. absurd (let z = never c (rw p at e) in omega arith))
    (λ p.
    by_bool (eqb a c)
    (λ r. absurd (let z = never b (rw (p, r) at e) in omega arith))
    (λ r.
    by_bool (eqb b c)
    (λ s. absurd (let z = never a (rw (p, r, s) at e) in omega arith))
    (λ s. (λ m. apart (eqb-false a b p) (eqb-false a c r) m, (λ m. apart' (eqb-false b c s) m, (λ m. m, tt))))))
  where
    never : (x : ℕ) → Some x ≡ None → ◌≡◌ {A = ℕ} 0 1
    never x q = cc

    apart : a ≢ b → a ≢ c → Mem a (b ∷ c ∷ []) → ⊥
    apart p q (inl m) = p m
    apart p q (inr (inl m)) = q m
    apart p q (inr (inr m)) = m

    apart' : b ≢ c → Mem b (c ∷ []) → ⊥
    apart' p (inl m) = p m
    apart' p (inr m) = m
none_third (a ∷ b ∷ c ∷ d ∷ l) h e = absurd (omega arith)

-- a third is there where two of three are equal: their places
record Pair (l : List ℕ) : Type 0 where
  a : ℕ
  b : ℕ
  c : ℕ
  whole : l ≡ a ∷ b ∷ c ∷ []
  equal : (a ≡ b) ⊎ ((a ≡ c) ⊎ (b ≡ c))

pair : {x : ℕ} {l : List ℕ} → Twice x l → Pair l
pair {x} (upper_two a) = record { a = a; b = a; c = x; whole = refl; equal = inl refl }
pair {x} (outer_two a) = record { a = a; b = x; c = a; whole = refl; equal = inr (inl refl) }
pair {x} (lower_two a) = record { a = x; b = a; c = a; whole = refl; equal = inr (inr refl) }

-- the shape by its blocks
pub record ByBlocks (plan : List ℤ) (rows cols lift : ℕ) : Type 0 where
  pub front : Diagonals plan rows cols lift
  pub three_filled : column_weight plan rows cols lift (rows - 1) ≡ 3
  pub two_equal : (i : ℕ) × (k : ℕ) × (e : ℕ) × (i < k) × (k < rows) × (block_at plan cols lift i (rows - 1) ≡ Shift e) × (block_at plan cols lift k (rows - 1) ≡ Shift e)

module _ (plan : List ℤ) (rows cols lift : ℕ) where
  abbrev last : ℕ → Block
  last i = block_at plan cols lift i (rows - 1)

  abbrev shifts : List ℕ
  shifts = shifts_of (λ i. block_at plan cols lift i (rows - 1)) (below rows)

  abbrev Two : Type 0
  Two = (i : ℕ) × (k : ℕ) × (e : ℕ) × (i < k) × (k < rows) × (block_at plan cols lift i (rows - 1) ≡ Shift e) × (block_at plan cols lift k (rows - 1) ≡ Shift e)

  two_rows : Pair shifts → Two
  two_rows p =
      let f = from last 0 rows p.a (p.b ∷ p.c ∷ []) p.whole in
      let g = from last (suc f.row) (0 + rows - suc f.row) p.b (p.c ∷ []) (sym f.others) in
      let h = from last (suc g.row) (suc f.row + (0 + rows - suc f.row) - suc g.row) p.c [] (sym g.others) in
      pick f g h p.equal
    where
      pick : (f : From last p.a (p.b ∷ p.c ∷ []) 0 (0 + rows))
          → (g : From last p.b (p.c ∷ []) (suc f.row) (suc f.row + (0 + rows - suc f.row)))
          → (h : From last p.c [] (suc g.row) (suc g.row + (suc f.row + (0 + rows - suc f.row) - suc g.row)))
          → (p.a ≡ p.b) ⊎ ((p.a ≡ p.c) ⊎ (p.b ≡ p.c)) → Two
      pick f g h (inl e) = (f.row, g.row, p.b, omega (arith, g.onward), omega (arith, g.inside, f.inside), f.is ∙ ap Shift e, g.is)
      pick f g h (inr (inl e)) = (f.row, h.row, p.c, omega (arith, g.onward, h.onward), omega (arith, h.inside, g.inside, f.inside), f.is ∙ ap Shift e, h.is)
      pick f g h (inr (inr e)) = (g.row, h.row, p.c, omega (arith, h.onward), omega (arith, h.inside, g.inside, f.inside), g.is ∙ ap Shift e, h.is)

  -- from the test to the blocks
  to_blocks : not_bidiagonal plan rows cols lift ≡ false → ByBlocks plan rows cols lift
  unfolding column_weight third_shift
  to_blocks e =
      let (b, is) = third_some plan rows cols lift e (third_shift plan rows cols lift) refl in
      let p = pair (twice shifts b is) in
      record {
        front = diagonals plan rows cols lift e;
        three_filled = sym (length_shifts last (below rows)) ∙ ap length p.whole;
        two_equal = two_rows p;
      }

  -- and back
  placed : ByBlocks plan rows cols lift → (i k : ℕ) → i < rows → k < rows - 1 → misplaced i k (block_at plan cols lift i k) ≡ false
  placed s i k p q =
      by_eq i k
      (λ e. misplaced_here i k (block_at plan cols lift i k) e ∙ ap (λ (b : Block). not (is_identity b)) (ap (λ (n : ℕ). block_at plan cols lift n k) e ∙ s.front.upper k q))
      (λ d.
      by_eq i (k + 1)
      (λ e. misplaced_under i k (block_at plan cols lift i k) d e ∙ ap (λ (b : Block). not (is_identity b)) (ap (λ (n : ℕ). block_at plan cols lift n k) (let r : i ≡ suc k = omega arith in r) ∙ s.front.lower k q))
      (λ f. misplaced_else i k (block_at plan cols lift i k) d f ∙ ap (λ (b : Block). not (is_zero b)) (s.front.empty i k p q d (λ r. f (omega arith)))))

  straight_part : ByBlocks plan rows cols lift → some_misplaced plan rows cols lift ≡ false
  unfolding some_misplaced
  straight_part s =
      any_none rows (λ i. any (rows - 1) (λ k. misplaced i k (block_at plan cols lift i k))) λ i p t.
      both_ways t (any_none (rows - 1) (λ k. misplaced i k (block_at plan cols lift i k)) (λ k q u. both_ways u (placed s i k p q)))

  some_lone : ByBlocks plan rows cols lift → is_some (third_shift plan rows cols lift) ≡ true
  unfolding third_shift column_weight
  some_lone s = step (third shifts) refl
    where
      step : (o : Option ℕ) → third shifts ≡ o → is_some (third shifts) ≡ true
      step (Some x) e = ap is_some e
      step None e =
          let (i, k, x, l, h, p, q) = s.two_equal in
          absurd (repeats last i k x (below rows) (nodup_range 0 rows) (none_third shifts (length_shifts last (below rows) ∙ s.three_filled) e) (below_mem i rows (omega arith)) (below_mem k rows h) (λ r. omega arith) p q)

  from_blocks : ByBlocks plan rows cols lift → not_bidiagonal plan rows cols lift ≡ false
  unfolding not_bidiagonal
  from_blocks s = rw (le-ltb rows 3 s.front.three_rows, le-ltb cols (rows + 1) (omega (arith, s.front.data_column)), straight_part s, some_lone s)

  -- THE SHAPE, as it is tested and by its blocks
  pub shape_exactly : (not_bidiagonal plan rows cols lift ≡ true) ↔ (ByBlocks plan rows cols lift → ⊥)
  shape_exactly = (
    λ e s. both_ways e (from_blocks s),
    λ h. by_bool (not_bidiagonal plan rows cols lift) (λ e. e) (λ e. absurd (h (to_blocks e))),
  )
