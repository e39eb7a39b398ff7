-- Document 02, slip 10: the frame of given data bits, over the definitions that the call answers by.
use Rattle.std.specs.Prelude.{None, Ok}
use Rattle.refusal.specs.Answer.{ok_unless}
use Rattle.std.specs.Prelude.{ℕ, ◌*◌, ◌≡◌, List, ℤ, length}
use Rattle.graph.specs.Erasure.{Codeword}
use Rattle.exponent.specs.Tanner.{tanner}
use Rattle.syndrome.specs.Check.{syndrome_of}
use Rattle.encoding.specs.Encoded.{Carries}
use Rattle.encoding.specs.Encode.{encode_refusal, after_encode}

pub record Encodes (plan : List ℤ) (rows cols lift : ℕ) (info word : List ℕ) : Type 0 where
  -- a code frame with these data bits, and the only one;
  pub codeword : Codeword (tanner plan rows cols lift) word
  pub carries : Carries (rows * lift) info word
  pub only : (v : List ℕ) → Codeword (tanner plan rows cols lift) v → Carries (rows * lift) info v → v ≡ word
  -- the frame check calls it even
  pub even : syndrome_of plan rows cols lift word ≡ Ok None

pub record EncodedWords : Type 0 where
  -- wherever the call answers that it encoded, of what the lent word then holds
  pub encoded : (plan : List ℤ) (rows cols lift : ℕ) (info word : List ℕ) → ok_unless (encode_refusal plan rows cols lift info word) ≡ Ok tt
      → Encodes plan rows cols lift info (after_encode plan rows cols lift info word)
  -- what the lent word held is not read: two words of one length get the same answer, and where that is no refusal the same frame
  pub unread : (plan : List ℤ) (rows cols lift : ℕ) (info u v : List ℕ) → length u ≡ length v
      → (ok_unless (encode_refusal plan rows cols lift info u) ≡ ok_unless (encode_refusal plan rows cols lift info v))
      × (ok_unless (encode_refusal plan rows cols lift info u) ≡ Ok tt → after_encode plan rows cols lift info u ≡ after_encode plan rows cols lift info v)
