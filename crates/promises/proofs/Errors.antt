-- What slip 11 says of lost and wrong bits together holds, by graph's laws of errors. Assumes nothing.
use Rattle.refusal.specs.Answer.{outcome}
use Rattle.std.specs.Prelude.{Some}
use Rattle.std.specs.Prelude.{Ok}
use Prim.Native.Nat.{ℕ, ◌*◌, ◌≤◌, ◌<◌}
use mathlib.Core.Path.{◌≡◌, refl, ap, ◌∙◌}
use mathlib.Core.Bool.{Bool, false, not, cond}
use mathlib.Core.List.{List}
use Rattle.std.specs.Prelude.{Option, None}
use native.Mathlib.Omega.{arith}
use borrow.Author.Tests.{eq-eqb, ne_eqb}
use lib.Dec.{ltb}
use lib.IntN.{ℤ}
use lib.ListN.{length, get_or, get_or-eq_default}
use Rattle.refusal.specs.declared.Refusal.{Refusal}
use Rattle.refusal.specs.declared.Refusal.TheVariants.{NoSolution}
use Rattle.refusal.specs.Lowest.{lowest}
use Rattle.graph.specs.Count.{below}
use Rattle.graph.specs.Graph.{Bipartite}
use Rattle.graph.specs.Girth.{Passes}
use Rattle.graph.specs.Stopping.{ThreeChecks}
use Rattle.graph.specs.Erasure.{erased, Codeword}
use Rattle.graph.specs.Errors.{differs, wrong, errors}
use Rattle.graph.proofs.Decide.{by_bool, by_eq, by_le, and_both}
use Rattle.graph.proofs.Count.{count_mem}
use Rattle.graph.proofs.Neighbours.{below_mem}
use Rattle.graph.proofs.Peeling.{erasures_count}
use Rattle.graph.proofs.Errors.{at_most_one, no_error, errors_self, errors_clash}
use Rattle.exponent.specs.Limits.{WellFormed}
use Rattle.exponent.specs.Tanner.{tanner, ThreeBlocks}
use Rattle.exponent.proofs.Tanner.{three_checks}
use Rattle.girth.proofs.Rules.{formed}
use Rattle.syndrome.specs.Check.{check_rules, lowest_odd, found, syndrome_of}
use Rattle.syndrome.proofs.Rules.{word_accepted, check_accepted, even_exactly}
use Rattle.peeling.proofs.Rules.{clash_refused}
use Rattle.promises.specs.Three.{Bound, T, Loses}
use Rattle.promises.specs.Errors.{Read, Told, WrongBits}
use Rattle.promises.proofs.Two.{verdict}
use Rattle.promises.proofs.Three.{least, whole}

-- a word without erasures has bits alone
pub all_known : (v r : List ℕ) {f : ℕ} → Read v r 0 f → (b : ℕ) → b < length r → get_or r b 0 < 2
all_known v r read b h =
    by_eq (get_or r b 0) 2
    (λ e. absurd (omega (arith, read.lost, erasures_count r, count_mem (erased r) b (below (length r)) (below_mem b (length r) h) (eq-eqb (get_or r b 0) 2 e))))
    (λ d. omega (arith, read.bytes b))

-- without errors it has lost bits alone, as promise 3 says it
pub without_errors : (v r : List ℕ) (e : ℕ) → Read v r e 0 → Loses v r e
unfolding errors
without_errors v r e read = record { same_length = read.same_length; kept = kept; few = omega (arith, read.lost) }
  where
    kept : (b : ℕ) → erased r b ≡ false → get_or v b 0 ≡ get_or r b 0
    kept b known =
        by_le (length r) b
        (λ h. let far : length v ≤ b = omega (arith, read.same_length) in omega (arith, get_or-eq_default v 0 far, get_or-eq_default r 0 h))
        (λ h.
        by_eq (get_or v b 0) (get_or r b 0)
        (λ e. e)
        (λ d.
        let error = and_both (not (erased r b)) (differs v r b) (ap not known) (ap not (ne_eqb _ _ d)) in
        absurd (omega (arith, read.few_wrong, count_mem (wrong v r) b (below (length r)) (below_mem b (length r) h) error))))

-- a valid word of bits that is no codeword has an odd check
odd_check_law : (plan : List ℤ) (rows cols lift : ℕ) (w : List ℕ) → lowest (check_rules plan rows cols lift w) ≡ None → (syndrome_of plan rows cols lift w ≡ Ok None → ⊥)
    → (c : ℕ) × (syndrome_of plan rows cols lift w ≡ Ok (Some c))
unfolding syndrome_of
odd_check_law plan rows cols lift w valid odd =
    let low : ℕ = lowest_odd (tanner plan rows cols lift) w in
    let told = ap (λ (o : Option Refusal). outcome o (found (rows * lift) low)) valid in
    by_bool (ltb low (rows * lift))
    (λ e. (low, told ∙ ap (λ (t : Bool). outcome {E = Refusal} None (cond t (Some low) None)) e))
    (λ e. absurd (odd (told ∙ ap (λ (t : Bool). outcome {E = Refusal} None (cond t (Some low) None)) e)))

module _ (plan : List ℤ) (rows cols lift target bound : ℕ) (at : Bound target bound) (well : WellFormed plan rows cols lift)
    (no-cycle : Passes (tanner plan rows cols lift) target) (three : ThreeBlocks plan rows cols lift) where
  abbrev G : Bipartite
  G = tanner plan rows cols lift

  checks : ThreeChecks G
  checks = three_checks plan rows cols lift well.some_lift three

  as_long : (v r : List ℕ) {e f : ℕ} → Codeword G v → Read v r e f → length r ≡ cols * lift
  as_long v r code read = read.same_length ∙ whole plan rows cols lift v code

  -- that few enough bits are lost and wrong is shown where the statement's own numbers are at hand
  told : Told plan rows cols lift (T bound)
  told =
      record {
        at_most_one = λ u v r e f few code-u code-v read-u read-v.
            at_most_one G (least at) no-cycle checks u v r code-u code-v read-v.same_length (omega (arith, read-u.lost, read-u.few_wrong, read-v.few_wrong));
        -- were it even, it would be a codeword itself, which fits without an error
        never_even = λ v r code read some.
            odd_check_law plan rows cols lift r ((check_accepted plan rows cols lift r).1 (well, as_long v r code read, all_known v r read)) λ even.
            let own = ((even_exactly plan rows cols lift r).0 even).1 in
            let none-wrong = no_error G (least at) no-cycle checks r v r own code read.same_length (errors_self r) (omega (arith, read.lost, read.few_wrong)) in
            omega arith;
        never_filled = λ v r e f few code read some.
            let valid = (word_accepted plan rows cols lift r).1 (well, as_long v r code read, read.bytes) in
            let clash = errors_clash G (least at) no-cycle checks v r code read.same_length read.bytes some (omega (arith, read.lost, read.few_wrong)) in
            (NoSolution, (clash_refused plan rows cols lift r valid clash).0, refl, refl);
      }

pub wrong_bits : WrongBits
wrong_bits plan rows cols lift target bound at r answer pass three =
    let (accept, no-cycle) = (verdict plan rows cols lift target answer).passed.0 pass in
    told plan rows cols lift target bound at (formed plan rows cols lift target accept) no-cycle three
