-- Laws of a scan: it starts with nothing, and grows by one bit at a time. Assumes nothing.
use Prim.Native.Nat.{ℕ, ◌+◌, ◌*◌, ◌/◌, ◌%◌, ◌≤◌, ◌<◌}
use mathlib.Core.Path.{◌≡◌, refl, sym, ap, subst, ◌∙◌}
use mathlib.Core.Logic.{inl, inr}
use mathlib.Core.Bool.{false}
use mathlib.Core.List.{List, [], ◌∷◌, ◌++◌, append-nil}
use Rattle.std.specs.Prelude.{Option, None}
use native.Mathlib.Nat.{mod-lt, div-add-mod'}
use native.Mathlib.Omega.{arith}
use borrow.Author.Tests.{eq-eqb, ne_eqb}
use lib.IntN.{ℤ}
use lib.ListN.{get_or, length}
use Rattle.graph.specs.Count.{below, one, count, Mem}
use Rattle.graph.specs.Graph.{bits_of}
use Rattle.graph.specs.Erasure.{erased, total}
use Rattle.graph.proofs.Lists.{mem_left}
use Rattle.graph.proofs.Count.{count_append}
use Rattle.exponent.specs.declared.block.Block.{Block}
use Rattle.exponent.specs.declared.block.Block.TheVariants.{Zero, Shift, Invalid}
use Rattle.exponent.specs.declared.Shape.{Shape}
use Rattle.exponent.specs.declared.plan.Plan.{Plan}
use Rattle.exponent.specs.Plan.{block_at, filled}
use Rattle.exponent.specs.Tanner.{tanner}
use Rattle.exponent.specs.Neighbours.{gather, bit_in}
use Rattle.exponent.proofs.Numbers.{block_low}
use Rattle.exponent.proofs.Blocks.{gather_last, gather_skip}
use Rattle.exponent.proofs.Tanner.{bits_of_check}
use Rattle.index.specs.Index.{NextFrom, filled_at, AlongIndex}
use Rattle.syndrome.specs.declared.scan.Scan.{Scan}
use Rattle.syndrome.specs.Scan.{Scanned, AddedBit, AddedBlock, IsWord}

total_append : (w p q : List ℕ) → total w (p ++ q) ≡ total w p + total w q
unfolding total
total_append w [] q = omega arith
total_append w (b ∷ p) q = omega (arith, total_append w p q)

mem_end : (x : ℕ) (p : List ℕ) → Mem x (p ++ x ∷ [])
mem_end x [] = inl refl
mem_end x (y ∷ p) = inr (mem_end x p)

pub scanned_none : (word : List ℕ) → Scanned word [] (record { erased = 0; sum = 0; at = 0 })
unfolding count total
scanned_none word = record { erasures = refl; sum = refl; one = λ q. absurd (omega arith) }

-- one bit more: an erasure, or a known one
module _ (word bits : List ℕ) (s : Scan) (at : ℕ) (h : Scanned word bits s) where
  pub scanned_erased : get_or word at 0 ≡ 2 → Scanned word (bits ++ at ∷ []) (record { erased = s.erased + 1; sum = s.sum + 2; at = at })
  unfolding count total
  scanned_erased e =
      let k = eq-eqb (get_or word at 0) 2 e in
      record {
        erasures = omega (arith, h.erasures, ap one k, count_append (erased word) bits (at ∷ []));
        sum = omega (arith, h.sum, e, total_append word bits (at ∷ []));
        one = λ _. (mem_end at bits, k);
      }

  pub scanned_known : (x : ℕ) → get_or word at 0 ≡ x → (x ≡ 2 → ⊥) → Scanned word (bits ++ at ∷ []) (record { erased = s.erased; sum = s.sum + x; at = s.at })
  unfolding count total
  scanned_known x e n =
      let k = ne_eqb (get_or word at 0) 2 (λ q. n (sym e ∙ q)) in
      record {
        erasures = omega (arith, h.erasures, ap one k, count_append (erased word) bits (at ∷ []));
        sum = omega (arith, h.sum, e, total_append word bits (at ∷ []));
        one = λ q. let o = h.one q in (mem_left s.at bits (at ∷ []) o.0, o.1);
      }

-- one block more: no bit where it is not filled, else the bit that it has

pub no_bit : (lift y : ℕ) (b : Block) → filled b ≡ false → bit_in lift y b ≡ None
no_bit lift y Zero e = refl
no_bit lift y (Shift x) e = absurd (let z : ◌≡◌ {A = ℕ} 0 1 = cc in omega arith)
no_bit lift y Invalid e = refl

pub not_filled : (b : Block) → ((e : ℕ) → b ≡ Shift e → ⊥) → filled b ≡ false
not_filled Zero n = refl
not_filled (Shift e) n = absurd (n e refl)
not_filled Invalid n = refl

module _ (word : List ℕ) (b : Block) (lift y j : ℕ) (s : Scan) where
  pub added_none : ((e : ℕ) → b ≡ Shift e → ⊥) → AddedBlock word b lift y j s s
  unfolding gather
  added_none n =
      record {
        grown = omega arith;
        scanned = λ bits h.
            subst (λ (l : List ℕ). Scanned word l s)
            (sym (ap (λ (o : Option ℕ). bits ++ gather lift (λ _. o) (j ∷ [])) (no_bit lift y b (not_filled b n)) ∙ append-nil bits)) h;
      }

  pub added_shift : (e : ℕ) (r : Scan) → b ≡ Shift e → AddedBit s (get_or word (j * lift + (y + e) % lift) 0) (j * lift + (y + e) % lift) r → AddedBlock word b lift y j s r
  unfolding gather
  added_shift e r q a =
      record {
        grown = a.grown;
        scanned = λ bits h.
            subst (λ (x : Block). Scanned word (bits ++ gather lift (λ _. bit_in lift y x) (j ∷ [])) r) (sym q) (a.scanned word bits refl h);
      }

-- the bits of check y of row i: at most one of each column k, and those of the columns below j
abbrev pub pick : List ℤ → Shape → ℕ → ℕ → ℕ → Option ℕ
pick plan shape i y k = bit_in shape.lift y (block_at plan shape.cols shape.lift i k)

abbrev pub row_bits : List ℤ → Shape → ℕ → ℕ → ℕ → List ℕ
row_bits plan shape i y j = gather shape.lift (pick plan shape i y) (below j)

module _ (plan : List ℤ) (shape : Shape) (word : List ℕ) (s : Scan) where
  -- columns that are not filled are passed over
  pub scanned_skip : (i y j col : ℕ) → NextFrom (filled_at plan shape i) j shape.cols col
      → Scanned word (row_bits plan shape i y j) s → Scanned word (row_bits plan shape i y col) s
  scanned_skip i y j col n =
      let empty : (k : ℕ) → j ≤ k → k < col → pick plan shape i y k ≡ None =
      λ k p q. no_bit shape.lift y (block_at plan shape.cols shape.lift i k) (n.none_between k p q) in
      subst (λ (l : List ℕ). Scanned word l s) (sym (gather_skip shape.lift (pick plan shape i y) j col n.from_here empty))

  -- one column more
  pub scanned_block : (i y j : ℕ) (b : Block) (r : Scan) → b ≡ block_at plan shape.cols shape.lift i j → AddedBlock word b shape.lift y j s r
      → Scanned word (row_bits plan shape i y j) s → Scanned word (row_bits plan shape i y (j + 1)) r
  unfolding gather
  scanned_block i y j b r e a h =
      let before : List ℕ = row_bits plan shape i y j in
      subst (λ (l : List ℕ). Scanned word l r) (sym (gather_last shape.lift (pick plan shape i y) j))
      (subst (λ (x : Block). Scanned word (before ++ gather shape.lift (λ _. bit_in shape.lift y x) (j ∷ [])) r) e (a.scanned before h))

  -- all columns
  pub scanned_row : (c j : ℕ) → 0 < shape.lift → j ≡ shape.cols → Scanned word (row_bits plan shape (c / shape.lift) (c % shape.lift) j) s
      → Scanned word (bits_of (tanner plan shape.rows shape.cols shape.lift) c) s
  scanned_row c j h e =
      subst (λ (l : List ℕ). Scanned word l s)
      (ap (row_bits plan shape (c / shape.lift) (c % shape.lift)) e
      ∙ sym (bits_of_check plan shape.rows shape.cols shape.lift h (c / shape.lift) (c % shape.lift) (mod-lt c h))
      ∙ ap (bits_of (tanner plan shape.rows shape.cols shape.lift)) (div-add-mod' c shape.lift))

-- a word that keeps its length may take the place of another
pub ready_same : (p : Plan) (v w : List ℕ) → IsWord p v → length w ≡ length v → IsWord p w
ready_same p v w r e = e ∙ r

-- the row of a check
pub row_low : (p : Plan) (c : ℕ) → c < p.shape.rows * p.shape.lift → c / p.shape.lift < p.shape.rows
row_low p c h = block_low _ p.well_formed.some_lift _ _ h

-- what the index along the rows says of that row
pub next_filled : {plan : List ℤ} {shape : Shape} {along : List ℕ} {i j col : ℕ} → AlongIndex plan shape along → i < shape.rows → j < shape.cols
    → col ≡ get_or along (i * shape.cols + j) 0 → NextFrom (filled_at plan shape i) j shape.cols col
next_filled a h k e = subst (NextFrom _ _ _) (sym e) (a.next _ _ h k)
