-- The encoded word is a codeword that carries its data bits, and the only one. Assumes nothing.
use Prim.Native.Nat.{ℕ, ◌+◌, ◌-◌, ◌*◌, ◌/◌, ◌%◌, ◌<◌}
use mathlib.Core.Path.{◌≡◌, sym, subst, ◌∙◌}
use mathlib.Core.List.{List}
use Rattle.std.specs.Prelude.{Some}
use native.Mathlib.Omega.{arith}
use native.Mathlib.Nat.{mod-lt, div-add-mod'}
use lib.IntN.{ℤ}
use lib.ListN.{length, get_or}
use Rattle.graph.specs.Erasure.{parity, Codeword}
use Rattle.graph.proofs.Decide.{by_le}
use Rattle.exponent.specs.Tanner.{tanner}
use Rattle.exponent.proofs.Numbers.{number_low, block_low}
use Rattle.bidiagonal.specs.Shape.{third_shift}
use Rattle.bidiagonal.proofs.Judging.{Diagonals}
use Rattle.encoding.specs.Encoded.{data_bit, encoded_word, Carries}
use Rattle.encoding.specs.Work.{column}
use Rattle.encoding.proofs.Checks.{even_solved, solved_even}
use Rattle.encoding.proofs.Words.{parts, carried_byte, carried_column, parity_low, same_parity, encoded_length, encoded_front, encoded_column, encoded_carries, encoded_is}

module _ (plan : List ℤ) (rows cols lift b : ℕ) (some_lift : 0 < lift) (front : Diagonals plan rows cols lift)
    (is-third : third_shift plan rows cols lift ≡ Some b) (b-low : b < lift)
    (info : List ℕ) (info-length : length info ≡ (cols - rows) * lift) where
  abbrev F : List ℕ
  F = encoded_word plan rows cols lift b info

  whole : rows * lift + length info ≡ cols * lift
  whole = omega (arith, parts rows cols lift (omega (arith, front.data_column)))

  long : length (encoded_word plan rows cols lift b info) ≡ rows * lift + length info
  long = encoded_length plan rows cols lift b some_lift info

  carries : Carries (rows * lift) info (encoded_word plan rows cols lift b info)
  carries = encoded_carries plan rows cols lift b some_lift info

  -- IT IS A CODEWORD

  encoded_bits : ((d : ℕ) → d < length info → get_or info d 0 < 2) → (n : ℕ) → n < cols * lift → get_or F n 0 < 2
  encoded_bits bits n h =
      by_le (rows * lift) n
      (λ l. omega (arith, carried_byte (rows * lift) info F long carries n l, bits (n - rows * lift) (omega (arith, whole))))
      (λ l. omega (arith, encoded_front plan rows cols lift b some_lift info n l, parity_low plan rows cols lift b (data_bit rows lift info) (n / lift) (n % lift)))

  encoded_even : (c : ℕ) → c < rows * lift → parity (tanner plan rows cols lift) F c ≡ 0
  encoded_even c h =
      subst (λ (x : ℕ). parity (tanner plan rows cols lift) F x ≡ 0) (div-add-mod' c lift)
      (solved_even plan rows cols lift b some_lift front is-third b-low F
      (λ k z p q. encoded_column plan rows cols lift b some_lift info k z p q ∙ sym (same_parity plan rows cols lift b some_lift info (column lift F) (λ j y l m. carried_column rows lift info F long carries j y l) k z))
      (c / lift) (c % lift) (block_low lift some_lift c rows h) (mod-lt c some_lift))

  pub encoded_codeword : ((d : ℕ) → d < length info → get_or info d 0 < 2) → Codeword (tanner plan rows cols lift) (encoded_word plan rows cols lift b info)
  unfolding tanner
  encoded_codeword bits = record { same_length = long ∙ whole; known = encoded_bits bits; even = encoded_even }

  -- AND THE ONLY ONE that carries the data bits
  pub encoded_only : (v : List ℕ) → Codeword (tanner plan rows cols lift) v → Carries (rows * lift) info v → v ≡ encoded_word plan rows cols lift b info
  unfolding tanner
  encoded_only v word carried =
      let word-long : length v ≡ rows * lift + length info = word.same_length ∙ sym whole in
      encoded_is plan rows cols lift b some_lift info v word-long carried λ k z h l.
      even_solved plan rows cols lift b some_lift front is-third b-low v
      (λ k z p q. word.known (k * lift + z) (number_low k z cols lift (omega (arith, front.data_column)) q))
      (λ i y p q. word.even (i * lift + y) (number_low i y rows lift p q))
      k z h l
      ∙ same_parity plan rows cols lift b some_lift info (column lift v) (λ j y p q. carried_column rows lift info v word-long carried j y p) k z
