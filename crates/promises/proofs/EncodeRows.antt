-- Rows 1 to 6, 16, 30 and 31, of who has data encoded: the tests of the encoder say what the rows say. Assumes nothing.
use Prim.Native.Nat.{ℕ, zero, suc, ◌+◌, ◌-◌, ◌*◌, ◌%◌}
use mathlib.Core.Path.{◌≡◌, refl, ap, ◌∙◌}
use mathlib.Core.Logic.{◌↔◌, inl}
use mathlib.Core.Bool.{true, not}
use mathlib.Core.List.{List, []}
use native.Mathlib.Omega.{arith}
use native.Mathlib.Numerals.{add-one}
use lib.Dec.{eqb}
use lib.IntN.{ℤ, pos, negsuc}
use lib.ListN.{get_or}
use Rattle.refusal.specs.declared.Refusal.{Refusal}
use Rattle.refusal.specs.declared.Refusal.TheVariants.{WordLength, NotBidiagonal, DataBits}
use Rattle.refusal.specs.Lowest.{refuse, In}
use Rattle.exponent.specs.declared.block.Block.TheVariants.{Zero, Shift}
use Rattle.exponent.specs.Plan.{block_of, entry_at, block_at}
use Rattle.exponent.specs.Limits.{plan_rules}
use Rattle.bidiagonal.specs.Shape.{not_bidiagonal}
use Rattle.bidiagonal.proofs.Words.{ByBlocks, shape_exactly}
use Rattle.encoding.specs.Encode.{bad_data, coding_rules, encode_rules}
use Rattle.promises.specs.TurnedAway.{PlanRow, Voltage, leaves, Bidiagonal, EncodeRow, lent_word, row_30, row_31, ◌or◌}
use Rattle.promises.proofs.Matching.{Listed, RowOf, Matches, join, by_rule, no_rule, at_rule, further}
use Rattle.promises.proofs.PlanRows.{differs, plan_matches}
use Rattle.promises.proofs.TableRows.{bytes_exactly}

-- A BLOCK AND ITS ENTRY: a shift is what a voltage leaves, and the zero block is −1
module _ (plan : List ℤ) (cols lift i j : ℕ) where
  voltage : (r : ℕ) → (block_at plan cols lift i j ≡ Shift r) ↔ Voltage plan cols lift i j r
  unfolding block_at entry_at
  voltage r = (left (get_or plan (i * cols + j) (pos 0)) refl, shifted)
    where
      left : (z : ℤ) → get_or plan (i * cols + j) (pos 0) ≡ z → block_of lift z ≡ Shift r → Voltage plan cols lift i j r
      left (pos e) q h = leaves e q (let p : e % lift ≡ r = cc in p)
      left (negsuc zero) q h = absurd (let z : ◌≡◌ {A = ℕ} 0 1 = cc in omega arith)
      left (negsuc (suc n)) q h = absurd (let z : ◌≡◌ {A = ℕ} 0 1 = cc in omega arith)

      shifted : Voltage plan cols lift i j r → block_of lift (get_or plan (i * cols + j) (pos 0)) ≡ Shift r
      shifted (leaves e q h) = ap (block_of lift) q ∙ ap Shift h

  minus_one : (block_at plan cols lift i j ≡ Zero) ↔ (get_or plan (i * cols + j) (pos 0) ≡ negsuc 0)
  unfolding block_at entry_at
  minus_one = (left (get_or plan (i * cols + j) (pos 0)), λ q. ap (block_of lift) q)
    where
      left : (z : ℤ) → block_of lift z ≡ Zero → z ≡ negsuc 0
      left (pos e) h = absurd (let z : ◌≡◌ {A = ℕ} 0 1 = cc in omega arith)
      left (negsuc zero) h = refl
      left (negsuc (suc n)) h = absurd (let z : ◌≡◌ {A = ℕ} 0 1 = cc in omega arith)

-- 30
module _ (plan : List ℤ) (rows cols lift : ℕ) where
  -- the shape by its blocks is the shape by its entries
  by_entries : ByBlocks plan rows cols lift → Bidiagonal plan rows cols lift
  by_entries s =
      let (i, k, r, l, h, p, q) = s.two_equal in
      record {
        three_rows = s.front.three_rows;
        data_column = omega (arith, s.front.data_column);
        upper = λ k h. (voltage plan cols lift k k 0).0 (s.front.upper k h);
        lower = λ k h. (voltage plan cols lift (k + 1) k 0).0 (rw add-one (s.front.lower k h));
        empty = λ i k h l d f. (minus_one plan cols lift i k).0 (s.front.empty i k h l d (λ e. f (omega arith)));
        three_filled = s.three_filled;
        two_equal = (i, k, r, l, h, (voltage plan cols lift i (rows - 1) r).0 p, (voltage plan cols lift k (rows - 1) r).0 q);
      }

  by_blocks : Bidiagonal plan rows cols lift → ByBlocks plan rows cols lift
  by_blocks s =
      let (i, k, r, l, h, p, q) = s.two_equal in
      record {
        front = record {
          three_rows = s.three_rows;
          data_column = s.data_column;
          upper = λ k h. (voltage plan cols lift k k 0).1 (s.upper k h);
          lower = λ k h. rw add-one at ((voltage plan cols lift (k + 1) k 0).1 (s.lower k h));
          empty = λ i k h l d f. (minus_one plan cols lift i k).1 (s.empty i k h l d (λ e. f (omega arith)));
        };
        three_filled = s.three_filled;
        two_equal = (i, k, r, l, h, (voltage plan cols lift i (rows - 1) r).1 p, (voltage plan cols lift k (rows - 1) r).1 q);
      }

  shaped : (not_bidiagonal plan rows cols lift ≡ true) ↔ (Bidiagonal plan rows cols lift → ⊥)
  shaped = let (told, found) = shape_exactly plan rows cols lift in (λ e s. told e (by_blocks s), λ h. found (λ s. h (by_entries s)))

-- 16, 30 AND 31
module _ (plan : List ℤ) (rows cols lift : ℕ) (info : List ℕ) (room : ℕ) where
  abbrev Row : Refusal → Type 0
  Row = RowOf (EncodeRow plan rows cols lift info room)

  listed : (s : Refusal) → In (refuse s true) (coding_rules plan rows cols lift info room) → Row s
  unfolding coding_rules
  listed s i =
      by_rule Row WordLength (not (eqb room (cols * lift))) _ s i (λ e. lent_word ((differs room (cols * lift)).0 e)) λ i.
      by_rule Row NotBidiagonal (not_bidiagonal plan rows cols lift) _ s i (λ e. row_30 ((shaped plan rows cols lift).0 e)) λ i.
      by_rule Row DataBits (bad_data ((cols - rows) * lift) info) [] s i (λ e. row_31 ((bytes_exactly ((cols - rows) * lift) info).0 e)) λ i.
      no_rule Row s i

  applies : (n : ℕ) (l : List ℕ) → EncodeRow plan rows cols lift info room n l → Listed (coding_rules plan rows cols lift info room) n l
  unfolding coding_rules
  applies n l (lent_word h) = at_rule _ _ refl refl ((differs room (cols * lift)).1 h)
  applies n l (row_30 h) = further (at_rule _ _ refl refl ((shaped plan rows cols lift).1 h))
  applies n l (row_31 h) = further (further (at_rule _ _ refl refl ((bytes_exactly ((cols - rows) * lift) info).1 h)))

  pub encode_matches : Matches (encode_rules plan rows cols lift info room) (PlanRow plan rows cols lift or EncodeRow plan rows cols lift info room)
  unfolding encode_rules
  encode_matches =
      join (plan_rules plan rows cols lift) (coding_rules plan rows cols lift info room) _ _ (plan_matches plan rows cols lift) (record { listed = λ s i. inl (listed s i); applies = applies })
