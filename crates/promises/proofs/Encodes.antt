-- What the encoder answers `Ok` for is what slip 10 says. Assumes nothing.
use Rattle.std.specs.Prelude.{Ok}
use Rattle.refusal.specs.Answer.{ok_unless}
use Prim.Native.Nat.{ℕ}
use mathlib.Core.Path.{◌≡◌, refl, sym, ap, subst, ◌∙◌}
use mathlib.Core.List.{List}
use Rattle.std.specs.Prelude.{Option, None, Some}
use native.Mathlib.Omega.{arith}
use lib.IntN.{ℤ}
use lib.ListN.{length}
use Rattle.refusal.specs.declared.Refusal.{Refusal}
use Rattle.refusal.specs.Lowest.{lowest}
use Rattle.syndrome.proofs.Rules.{even_exactly}
use Rattle.bidiagonal.specs.Shape.{third_shift}
use Rattle.bidiagonal.proofs.Judging.{diagonals, third_some, third_low}
use Rattle.encoding.specs.Encoded.{encoded_word}
use Rattle.encoding.specs.Encode.{encode_rules, or_zero, word_of, encode_refusal}
use Rattle.encoding.proofs.Words.{encoded_carries}
use Rattle.encoding.proofs.Only.{encoded_codeword, encoded_only}
use Rattle.encoding.proofs.Rules.{Accepted, accepted}
use Rattle.promises.specs.Encodes.{Encodes, EncodedWords}

-- an answer `Ok` is that there is no refusal
not_refused : (o : Option Refusal) → ok_unless o ≡ Ok tt → o ≡ None
not_refused None e = refl
not_refused (Some r) e = absurd (let z : ◌≡◌ {A = ℕ} 0 1 = cc in omega arith)

-- the codeword of accepted data bits
encodes : (plan : List ℤ) (rows cols lift : ℕ) (info : List ℕ) → Accepted plan rows cols lift info → Encodes plan rows cols lift info (word_of plan rows cols lift info)
encodes plan rows cols lift info a =
    let some_lift = a.formed.some_lift in
    let front = diagonals plan rows cols lift a.shaped in
    let (b, is) = third_some plan rows cols lift a.shaped (third_shift plan rows cols lift) refl in
    let low = third_low plan rows cols lift some_lift b is in
    let code = encoded_codeword plan rows cols lift b some_lift front is low info a.data_whole (λ d h. a.data_bits.low d) in
    subst (Encodes plan rows cols lift info) (ap (λ (o : Option ℕ). encoded_word plan rows cols lift (or_zero o) info) (sym is))
    (record {
      codeword = code;
      carries = encoded_carries plan rows cols lift b some_lift info;
      only = encoded_only plan rows cols lift b some_lift front is low info a.data_whole;
      even = (even_exactly plan rows cols lift _).1 (a.formed, code);
    })

-- THE PROMISE of the slip
pub encoded_words : EncodedWords
encoded_words =
    record {
      encoded = λ plan rows cols lift info word e.
          let q = not_refused (encode_refusal plan rows cols lift info word) e in
          rw q (encodes plan rows cols lift info (accepted plan rows cols lift info (length word) q));
      unread = λ plan rows cols lift info u v e.
          let same : encode_refusal plan rows cols lift info u ≡ encode_refusal plan rows cols lift info v = λ k. lowest (encode_rules plan rows cols lift info (e k)) in (
            ap ok_unless same,
            λ r. let q = not_refused (encode_refusal plan rows cols lift info u) r in rw (q, sym same ∙ q),
          );
    }
