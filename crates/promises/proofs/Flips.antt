-- What slip 12 says of a round holds, by graph's laws of bit flipping. Assumes nothing.
use Rattle.std.specs.Prelude.{Ok}
use Rattle.refusal.specs.Answer.{outcome}
use Prim.Native.Nat.{ℕ, ◌*◌, ◌<◌}
use mathlib.Core.Path.{◌≡◌, refl, sym, ap, subst₂, ◌∙◌}
use mathlib.Core.List.{List}
use Rattle.std.specs.Prelude.{Option, None, Some}
use native.Mathlib.Omega.{arith}
use lib.IntN.{ℤ}
use lib.ListN.{length, get_or}
use Rattle.refusal.specs.declared.Refusal.{Refusal}
use Rattle.refusal.specs.Lowest.{lowest}
use Rattle.refusal.specs.Lent.{lent}
use Rattle.refusal.proofs.Lowest.{none_append}
use Rattle.graph.specs.Graph.{Bipartite}
use Rattle.graph.specs.Stopping.{ThreeChecks}
use Rattle.graph.specs.Flipping.{Round, flipped_word, flipped_count}
use Rattle.graph.proofs.Flipping.{flipped_round, codeword_stays, one_restored}
use Rattle.exponent.specs.Limits.{WellFormed}
use Rattle.exponent.specs.Tanner.{tanner, ThreeBlocks}
use Rattle.exponent.proofs.Rules.{accepted, valid_none}
use Rattle.exponent.proofs.Tanner.{three_checks}
use Rattle.girth.proofs.Rules.{formed}
use Rattle.syndrome.specs.Check.{check_rules}
use Rattle.syndrome.proofs.Rules.{check_accepted}
use Rattle.flipping.specs.Flip.{flip_rules, flip_answer, flip_word}
use Rattle.flipping.proofs.Rules.{all_three, not_refused}
use Rattle.promises.specs.Flips.{Turns, ExactlyThree, TurnedBits}
use Rattle.promises.proofs.Two.{verdict}
use Rattle.promises.proofs.Three.{whole}
use Rattle.promises.proofs.Errors.{all_known}

-- a number is reported only where nothing is refused
reported : (o : Option Refusal) (m n : ℕ) → outcome o m ≡ Ok n → (o ≡ None) × (m ≡ n)
reported None m n e = (refl, cc)
reported (Some r) m n e = absurd (let z : ◌≡◌ {A = ℕ} 0 1 = cc in omega arith)

module _ (plan : List ℤ) (rows cols lift : ℕ) where
  abbrev G : Bipartite
  G = tanner plan rows cols lift

  -- what is turned is a round
  round : (w v : List ℕ) (n : ℕ) → Turns plan rows cols lift w v n → Round (tanner plan rows cols lift) w v n
  unfolding flip_answer flip_word flip_rules tanner
  round w v n t =
      let (o, m) = reported (lowest (flip_rules plan rows cols lift w)) (flipped_count G w) n t.reported in
      let (p, _) = (none_append (check_rules plan rows cols lift w) _).0 o in
      let (_, len, known) = (check_accepted plan rows cols lift w).0 p in
      let left = sym (ap (λ (x : Option Refusal). lent x (flipped_word G w) w) o) ∙ t.left in
      subst₂ (Round G w) left m (flipped_round G w len known)

  -- of a valid plan with three blocks in each column, and a word of bits
  module _ (well : WellFormed plan rows cols lift) (three : ExactlyThree plan rows cols lift) where
    turns : (w v : List ℕ) (n : ℕ) → length w ≡ cols * lift → ((b : ℕ) → b < length w → get_or w b 0 < 2) → (flipped_word (tanner plan rows cols lift) w ≡ v) × (flipped_count (tanner plan rows cols lift) w ≡ n)
        → Turns plan rows cols lift w v n
    turns w v n len known (word, count) =
        let valid = (check_accepted plan rows cols lift w).1 (well, len, known) in
        let a = not_refused plan rows cols lift w valid ((all_three plan rows cols lift).1 (λ j h. omega (arith, three j h))) in
        record { reported = sym a.answered ∙ ap Ok count; left = sym a.leaves ∙ word }

    checks : ThreeChecks (tanner plan rows cols lift)
    unfolding ThreeBlocks
    checks = three_checks plan rows cols lift well.some_lift (λ j h. omega (arith, three j h))

-- THE PROMISE of the slip
pub turned_bits : TurnedBits
unfolding tanner
turned_bits =
    record {
      two_odd = round;
      code_frame = λ plan rows cols lift v valid three code.
          let well = (accepted plan rows cols lift).0 (valid_none _ valid) in
          turns plan rows cols lift well three v v 0 code.same_length (λ b h. code.known b (omega (arith, code.same_length))) (codeword_stays (tanner plan rows cols lift) v code);
      one_wrong = λ plan rows cols lift v w r answer pass three code read single.
          let (accept, no-cycle) = (verdict plan rows cols lift 6 answer).passed.0 pass in
          let well = formed plan rows cols lift 6 accept in
          let known = all_known v w read in
          turns plan rows cols lift well three w v 1 (read.same_length ∙ whole plan rows cols lift v code) known
          (one_restored (tanner plan rows cols lift) v w code read.same_length known (omega (arith, single)) no-cycle (checks plan rows cols lift well three));
    }
