-- What is written is the encoded word: data bits laid behind zeros, and the parity bits settled. Assumes nothing.
use Prim.Native.Nat.{ℕ, ◌+◌, ◌-◌, ◌*◌, ◌/◌, ◌%◌, ◌≤◌, ◌<◌}
use mathlib.Core.Path.{◌≡◌, ap, subst, ◌∙◌}
use mathlib.Core.List.{List, ◌++◌}
use Rattle.std.proofs.Common.{sym, replicate, length-append}
use Rattle.std.proofs.lemmas.List.{length-replicate, get_or-replicate, get_or_append_left, get_or-append-add}
use native.Mathlib.Omega.{arith}
use native.Mathlib.Nat.{mod-lt, add-mul, div-add-mod'}
use borrow.Author.Tests.{lt-ltb, le-ltb}
use lib.IntN.{ℤ}
use lib.ListN.{length, get_or}
use Rattle.graph.proofs.Decide.{by_le}
use Rattle.exponent.specs.declared.Shape.{Shape}
use Rattle.encoding.specs.Encoded.{parity_bit, encoded_word, Carries}
use Rattle.encoding.specs.Work.{column, Bits, Settled, Fits, Laid}
use Rattle.encoding.proofs.Words.{parts, carried_byte, carried_column, same_parity, encoded_is}

module _ {plan : List ℤ} {s : Shape} {third : ℕ} {info word w : List ℕ} (fits : Fits plan s third info word)
    (lay : w ≡ replicate (s.rows * s.lift) 0 ++ info) where
  abbrev start : ℕ
  start = s.rows * s.lift

  -- parity bits and data bits are the whole word
  pub whole : s.cols * s.lift ≡ s.rows * s.lift + length info
  whole = omega (arith, fits.data_whole, parts s.rows s.cols s.lift (let h : s.rows ≤ s.cols = omega (arith, fits.data_column) in h))

  long : length w ≡ s.cols * s.lift
  long = ap length lay ∙ length-append (replicate (s.rows * s.lift) 0) info ∙ ap (λ (n : ℕ). n + length info) (length-replicate {A = ℕ} (s.rows * s.lift) 0) ∙ sym whole

  zero : (b : ℕ) → b < s.rows * s.lift → get_or w b 0 ≡ 0
  zero b h =
      ap (λ (l : List ℕ). get_or l b 0) lay
      ∙ get_or_append_left (replicate (s.rows * s.lift) 0) info 0 b (omega (arith, length-replicate {A = ℕ} (s.rows * s.lift) 0))
      ∙ get_or-replicate (s.rows * s.lift) b 0 0 h

  carried : (d : ℕ) → d < length info → get_or w (s.rows * s.lift + d) 0 ≡ get_or info d 0
  carried d h =
      ap (λ (l : List ℕ). get_or l (s.rows * s.lift + d) 0) lay
      ∙ ap (λ (n : ℕ). get_or (replicate (s.rows * s.lift) 0 ++ info) (n + d) 0) (sym (length-replicate {A = ℕ} (s.rows * s.lift) 0))
      ∙ get_or-append-add (replicate (s.rows * s.lift) 0) info d 0

  carries : Carries (s.rows * s.lift) info w
  carries = record { carried = carried }

  laid_bits : Bits w
  laid_bits =
      record {
        low = λ b.
            by_le start b
            (λ h. omega (arith, carried_byte start info w (long ∙ whole) carries b h, fits.data_bits.low (b - start)))
            (λ h. omega (arith, zero b h));
      }

  -- DATA BITS behind parity bits that are 0
  pub laid : Laid plan s w
  laid = record { ready = record { formed = fits.formed; data_column = fits.data_column; whole = long; bits = laid_bits }; zero = zero }

  -- THE ENCODED WORD
  module _ {v : List ℕ} (settled : Settled plan s third (column s.lift w) (s.rows - 1) v) where
    some_lift : 0 < s.lift
    some_lift = fits.formed.some_lift

    -- the data bits stay where they are
    kept : Carries (s.rows * s.lift) info v
    kept = record { carried = λ d h. stays d ∙ carried d h }
      where
        stays : (d : ℕ) → get_or v (s.rows * s.lift + d) 0 ≡ get_or w (s.rows * s.lift + d) 0
        stays d =
            let j : ℕ = s.rows + d / s.lift in
            let at : j * s.lift + d % s.lift ≡ start + d = omega (arith, add-mul s.rows (d / s.lift) s.lift, div-add-mod' d s.lift) in
            subst (λ (n : ℕ). get_or v n 0 ≡ get_or w n 0) at (settled.carried j (d % s.lift) (omega arith) (mod-lt d some_lift))

    parity_at : (k z : ℕ) → k < s.rows → z < s.lift → column s.lift v k z ≡ parity_bit plan s.rows s.cols s.lift third (column s.lift w) k z
    parity_at k z h l =
        by_le (s.rows - 1) k
        (λ q.
        let e : k ≡ s.rows - 1 = omega arith in
        rw (le-ltb k (s.rows - 1) q) (ap (λ (n : ℕ). column s.lift v n z) e ∙ settled.last z l))
        (λ q. rw (lt-ltb k (s.rows - 1) q) (settled.done k z q l))

    pub encoded_written : v ≡ encoded_word plan s.rows s.cols s.lift third info
    encoded_written =
        encoded_is plan s.rows s.cols s.lift third some_lift info v (settled.ready.whole ∙ whole) kept λ k z h l.
        parity_at k z h l
        ∙ same_parity plan s.rows s.cols s.lift third some_lift info (column s.lift w) (λ j y p q. carried_column s.rows s.lift info w (long ∙ whole) carries j y p) k z
