-- What is added to a column, block by block: nothing, a turned column, the sum of a row's data bits. Assumes nothing.
use Prim.Native.Nat.{ℕ, ◌+◌, ◌-◌, ◌*◌, ◌/◌, ◌%◌, ◌≤◌, ◌<◌}
use mathlib.Core.Path.{◌≡◌, refl, sym, ap, subst, ◌∙◌}
use mathlib.Core.Logic.{◌≢◌}
use mathlib.Core.Bool.{false}
use mathlib.Core.List.{List, [], ◌∷◌}
use native.Mathlib.Omega.{arith}
use native.Mathlib.Nat.{mod-lt, mod-eq_of_lt, add-mod-mod, mod-add-mod, add-zero, div-add-mod'}
use lib.IntN.{ℤ}
use lib.ListN.{length, get_or}
use Rattle.graph.specs.Count.{range, sum}
use Rattle.graph.proofs.Decide.{by_eq}
use Rattle.graph.proofs.Count.{range_append}
use Rattle.graph.proofs.Sums.{sum_append}
use Rattle.exponent.specs.declared.block.Block.{Block}
use Rattle.exponent.specs.declared.block.Block.TheVariants.{Zero, Shift, Invalid}
use Rattle.exponent.specs.declared.Shape.{Shape}
use Rattle.exponent.specs.Plan.{filled, block_at}
use Rattle.exponent.proofs.Numbers.{number_low}
use Rattle.encoding.specs.Encoded.{bit_for}
use Rattle.encoding.specs.Work.{column, Bits, Columns, Added, Ready}
use Rattle.encoding.proofs.Data.{bit_for_same}

-- a word of bits stays one: a byte stands in some column
pub added_bits : {lift k : ℕ} {f : ℕ → ℕ} {w v : List ℕ} → 0 < lift → Added lift k f w v → Bits w → Bits v
added_bits {lift} {k} {f} {w} {v} some_lift a bits = record { low = λ b. subst (λ (x : ℕ). get_or v x 0 < 2) (div-add-mod' b lift) (at (b / lift) (b % lift) (mod-lt b some_lift)) }
  where
    at : (j z : ℕ) → z < lift → column lift v j z < 2
    at j z h =
        by_eq j k
        (λ e. rw e (omega (arith, a.there z h)))
        (λ d. omega (arith, a.elsewhere j z h d, bits.low (j * lift + z)))

pub added_ready : {plan : List ℤ} {s : Shape} {k : ℕ} {f : ℕ → ℕ} {w v : List ℕ} → Added s.lift k f w v → Ready plan s w → Ready plan s v
added_ready a r = record { formed = r.formed; data_column = r.data_column; whole = a.long ∙ r.whole; bits = added_bits r.formed.some_lift a r.bits }

-- the two columns of a word of the plan
pub two_columns : {plan : List ℤ} {s : Shape} {w : List ℕ} → Ready plan s w → (i j : ℕ) → i < s.cols → j < s.cols → i ≢ j → Columns s.lift w i j
two_columns {plan} {s} {w} r i j p q d =
    record { some_lift = r.formed.some_lift; to_in = inside i p; from_in = inside j q; other = d; bits = r.bits }
  where
    inside : (k : ℕ) → k < s.cols → k * s.lift + s.lift ≤ length w
    inside k h = omega (arith, r.whole, r.formed.some_lift, number_low k (s.lift - 1) s.cols s.lift h (omega (arith, r.formed.some_lift)))

-- the same bits, said otherwise
pub added_same : {lift k : ℕ} {f g : ℕ → ℕ} {w v : List ℕ} → ((z : ℕ) → z < lift → f z ≡ g z) → Added lift k f w v → Added lift k g w v
added_same {lift} {k} {f} {g} {w} e a =
    record { long = a.long; there = λ z h. a.there z h ∙ ap (λ (x : ℕ). (column lift w k z + x) % 2) (e z h); elsewhere = a.elsewhere }

-- nothing is added
pub added_none : (lift k : ℕ) (f : ℕ → ℕ) (w : List ℕ) → Bits w → ((z : ℕ) → z < lift → f z ≡ 0) → Added lift k f w w
added_none lift k f w bits none =
    record { long = refl; there = λ z h. omega (arith, none z h, bits.low (k * lift + z)); elsewhere = λ j z h d. refl }

-- by a block that is not filled
no_bit : (lift y : ℕ) (column : ℕ → ℕ) (b : Block) → filled b ≡ false → bit_for lift y column b ≡ 0
no_bit lift y column Zero e = refl
no_bit lift y column (Shift s) e = absurd (let z : ◌≡◌ {A = ℕ} 0 1 = cc in omega arith)
no_bit lift y column Invalid e = refl

pub block_none : (lift k : ℕ) (check : ℕ → ℕ) (bits : ℕ → ℕ) (b : Block) (w : List ℕ) → Bits w → filled b ≡ false → Added lift k (λ z. bit_for lift (check z) bits b) w w
block_none lift k check bits b w low e = added_none lift k _ w low (λ z h. no_bit lift (check z) bits b e)

-- turned by e and by `turn` more
pub turned : (lift z e turn : ℕ) → (z + (e + turn) % lift) % lift ≡ ((z + turn) % lift + e) % lift
turned lift z e turn =
    add-mod-mod z (e + turn) lift ∙ ap (λ (x : ℕ). x % lift) (let q : z + (e + turn) ≡ z + turn + e = omega arith in q) ∙ sym (mod-add-mod (z + turn) lift e)

-- not turned
pub unturned : (lift z : ℕ) → z < lift → (z + 0) % lift ≡ z
unturned lift z h = ap (λ (x : ℕ). x % lift) (add-zero z) ∙ mod-eq_of_lt h

-- COLUMN BY COLUMN
module _ (plan : List ℤ) (cols lift i turn : ℕ) where
  abbrev pub bits_of : List ℕ → ℕ → ℕ → ℕ
  bits_of w j z = bit_for lift ((z + turn) % lift) (column lift w j) (block_at plan cols lift i j)

  -- what the columns from s to j − 1 have, and column j besides
  sum_more : (w : List ℕ) (s j z : ℕ) → s ≤ j → sum (λ k. bits_of w k z) (range s (j + 1 - s)) ≡ sum (λ k. bits_of w k z) (range s (j - s)) + bits_of w j z
  unfolding sum range
  sum_more w s j z h =
      ap (λ (n : ℕ). sum (λ k. bits_of w k z) (range s n)) (let e : j + 1 - s ≡ j - s + 1 = omega arith in e)
      ∙ ap (sum (λ k. bits_of w k z)) (range_append s (j - s) 1)
      ∙ sum_append (λ k. bits_of w k z) (range s (j - s)) ((s + (j - s)) ∷ [])
      ∙ ap (λ (n : ℕ). sum (λ k. bits_of w k z) (range s (j - s)) + n) (add-zero _ ∙ ap (λ (n : ℕ). bits_of w n z) (let e : s + (j - s) ≡ j = omega arith in e))

  pub columns_none : (w : List ℕ) (s : ℕ) → Bits w → Added lift i (λ z. sum (λ k. bits_of w k z) (range s (s - s))) w w
  unfolding sum range
  columns_none w s bits = added_none lift i _ w bits (λ z h. ap (λ (n : ℕ). sum (λ k. bits_of w k z) (range s n)) (let e : s - s ≡ 0 = omega arith in e))

  -- the bits of a column that nothing was added to
  kept : (w v : List ℕ) (f : ℕ → ℕ) → 0 < lift → Added lift i f w v → (j z : ℕ) → j ≢ i → bits_of v j z ≡ bits_of w j z
  kept w v f some_lift a j z d = bit_for_same lift ((z + turn) % lift) some_lift _ _ (λ y h. a.elsewhere j y h d) (block_at plan cols lift i j)

  pub columns_more : (w v u : List ℕ) (s j : ℕ) → 0 < lift → s ≤ j → j ≢ i
      → Added lift i (λ z. sum (λ k. bits_of w k z) (range s (j - s))) w v → Added lift i (bits_of v j) v u
      → Added lift i (λ z. sum (λ k. bits_of w k z) (range s (j + 1 - s))) w u
  columns_more w v u s j some_lift h d a b =
      record {
        long = b.long ∙ a.long;
        there = λ z l. omega (arith, b.there z l, a.there z l, kept w v _ some_lift a j z d, sum_more w s j z h);
        elsewhere = λ k z l e. b.elsewhere k z l e ∙ a.elsewhere k z l e;
      }
