-- Slip 4 of the encoder: it looks at a plan by refusals 1 to 6 and by its blocks, so plans with the same remainders get the same answer and
-- the same word. Assumes nothing.
use Prim.Native.Nat.{ℕ, ◌+◌, ◌-◌, ◌*◌, ◌/◌, ◌%◌}
use Rattle.refusal.specs.Answer.{ok_unless}
use mathlib.Core.Path.{◌≡◌, ap}
use mathlib.Core.Bool.{cond, not, ◌||◌}
use mathlib.Core.List.{List, ◌++◌, map}
use lib.Dec.{ltb}
use lib.IntN.{ℤ}
use Rattle.graph.specs.Count.{range, below, sum, is_some}
use Rattle.graph.specs.Erasure.{any}
use Rattle.exponent.specs.Remainders.{SameRemainders}
use Rattle.exponent.proofs.Remainders.{same_rules, same_block}
use Rattle.bidiagonal.specs.Shape.{too_few, misplaced, some_misplaced, shifts_of, third, third_shift, not_bidiagonal}
use Rattle.encoding.specs.Encoded.{bit_for, data_sum, last_bit, front_bit, data_bit, encoded_word}
use Rattle.encoding.specs.Encode.{coding_rules, encode_rules, encode_refusal, after_encode}

module _ (lift : ℕ) {p q : List ℤ} (same : SameRemainders lift p q) (rows cols : ℕ) where
  -- the shape
  same_third : third_shift p rows cols lift ≡ third_shift q rows cols lift
  unfolding third_shift
  same_third = λ k. third (shifts_of (λ i. same_block lift same rows cols i (rows - 1) k) (below rows))

  same_shape : not_bidiagonal p rows cols lift ≡ not_bidiagonal q rows cols lift
  unfolding not_bidiagonal some_misplaced
  same_shape = λ k. too_few rows cols || (any rows (λ i. any (rows - 1) (λ j. misplaced i j (same_block lift same rows cols i j k))) || not (is_some (same_third k)))

  -- the encoded word
  module _ (bit : ℕ → ℕ → ℕ) where
    same_data : (i y : ℕ) → data_sum p rows cols lift bit i y ≡ data_sum q rows cols lift bit i y
    unfolding data_sum
    same_data i y = λ k. sum (λ j. bit_for lift y (bit j) (same_block lift same rows cols i j k)) (range rows (cols - rows))

    same_last : (b z : ℕ) → last_bit p rows cols lift b bit z ≡ last_bit q rows cols lift b bit z
    unfolding last_bit
    same_last b z = λ k. sum (λ i. same_data i ((z + (lift - b)) % lift) k) (below rows) % 2

    same_front : (b j y : ℕ) → front_bit p rows cols lift b bit j y ≡ front_bit q rows cols lift b bit j y
    unfolding front_bit
    same_front b j y = λ k. sum (λ i. same_data i y k + bit_for lift y (λ z. same_last b z k) (same_block lift same rows cols i (rows - 1) k)) (below (j + 1)) % 2

  same_word : (b : ℕ) (info : List ℕ) → encoded_word p rows cols lift b info ≡ encoded_word q rows cols lift b info
  unfolding encoded_word
  same_word b info =
      λ k.
      map (λ n. cond (ltb (n / lift) (rows - 1)) (same_front (data_bit rows lift info) b (n / lift) (n % lift) k) (same_last (data_bit rows lift info) b (n % lift) k)) (below (rows * lift))
      ++ info

  -- the call
  same_refusal : (info word : List ℕ) → encode_refusal p rows cols lift info word ≡ encode_refusal q rows cols lift info word
  unfolding encode_rules coding_rules
  same_refusal info word = rw (same_rules lift same rows cols, same_shape)

  pub same_encoding : (info word : List ℕ) → ok_unless (encode_refusal p rows cols lift info word) ≡ ok_unless (encode_refusal q rows cols lift info word)
  same_encoding info word = ap ok_unless (same_refusal info word)

  pub same_encoded : (info word : List ℕ) → after_encode p rows cols lift info word ≡ after_encode q rows cols lift info word
  same_encoded info word = rw (same_refusal info word, same_third, same_word)
