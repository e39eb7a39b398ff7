-- The Fano plane's code reaches T at 6: no triple, and the four triples without point 0, which have each other point twice. Assumes nothing.
use Rattle.std.specs.Prelude.{None, Ok}
use Prim.Native.Nat.{ℕ, zero, suc, ◌+◌, ◌*◌, ◌≤◌}
use mathlib.Core.Path.{◌≡◌, refl}
use mathlib.Core.Bool.{true}
use mathlib.Core.List.{List, [], ◌∷◌}
use native.Mathlib.Omega.{arith}
use borrow.Author.Tests.{leb-true}
use lib.Dec.{leb}
use lib.IntN.{pos}
use lib.ListN.{length, get_or, replicate, get_or-eq_default}
use Rattle.refusal.specs.Lowest.{lowest}
use Rattle.refusal.specs.Place.{first_place}
use Rattle.graph.specs.Count.{range, select, count, member}
use Rattle.graph.specs.Graph.{bits_of}
use Rattle.graph.specs.Erasure.{total, parity}
use Rattle.graph.specs.Filling.{erasures}
use Rattle.graph.specs.Errors.{errors}
use Rattle.graph.proofs.Decide.{by_le}
use Rattle.graph.proofs.Cases.{all, all_at}
use Rattle.exponent.specs.Plan.{entry_at, block_at}
use Rattle.exponent.specs.Limits.{plan_rules}
use Rattle.exponent.specs.Tanner.{tanner}
use Rattle.syndrome.specs.Word.{byte_rules, word_rules}
use Rattle.syndrome.specs.Check.{check_rules, lowest_odd, syndrome_of}
use Rattle.syndrome.proofs.Rules.{even_exactly}
use Rattle.steiner.specs.Points.{points}
use Rattle.steiner.specs.System.{is_order, cols, start_among, start, triple_at}
use Rattle.steiner.specs.Build.{build_rules, entry, steiner_plan}
use Rattle.promises.specs.Three.{at_6}
use Rattle.promises.specs.Steiner.{SteinerPlan}
use Rattle.promises.specs.Errors.{Read, fano, FanoReaches}
use Rattle.promises.proofs.Steiner.{steiner_plan_law}
use Rattle.promises.proofs.Errors.{without_errors}

-- a word has a bit for each triple
abbrev nothing : List ℕ
nothing = replicate 7 0

abbrev four : List ℕ
four = 0 ∷ 0 ∷ 0 ∷ 1 ∷ 1 ∷ 1 ∷ 1 ∷ []

both_even : (syndrome_of fano 7 7 1 nothing ≡ Ok None) × (syndrome_of fano 7 7 1 four ≡ Ok None)
unfolding syndrome_of check_rules word_rules byte_rules plan_rules lowest first_place lowest_odd parity total bits_of tanner select range block_at entry_at
    steiner_plan entry cols start_among start triple_at points
both_even = (refl, refl)

-- what was read of a word, by computed tests
computed_read : (v r : List ℕ) (e f : ℕ) → length r ≡ length v → all (length r) (λ b. leb (get_or r b 0) 2) ≡ true → erasures r ≡ e → errors v r ≤ f → Read v r e f
computed_read v r e f len low lost few =
    let bytes : (b : ℕ) → get_or r b 0 ≤ 2 = λ b.
    by_le (length r) b (λ h. omega (arith, get_or-eq_default r 0 h)) (λ h. leb-true (get_or r b 0) 2 (all_at (length r) (λ b. leb (get_or r b 0) 2) low b h)) in
    record { same_length = len; bytes = bytes; lost = lost; few_wrong = few }

fits_both : (r : List ℕ) (e f : ℕ) → length r ≡ 7 → all (length r) (λ b. leb (get_or r b 0) 2) ≡ true → erasures r ≡ e → errors nothing r ≤ f → errors four r ≤ f
    → (r : List ℕ) × Read nothing r e f × Read four r e f
fits_both r e f len low lost p q = (r, computed_read nothing r e f len low lost p, computed_read four r e f len low lost q)

-- four lost; two lost, one wrong for each; two wrong for each
two_fit : (e f : ℕ) → e + 2 * f ≡ 4 → (r : List ℕ) × Read nothing r e f × Read four r e f
unfolding erasures errors count range
two_fit e zero h = fits_both (0 ∷ 0 ∷ 0 ∷ 2 ∷ 2 ∷ 2 ∷ 2 ∷ []) e 0 refl refl (omega arith) (omega arith) (omega arith)
two_fit e (suc zero) h = fits_both (0 ∷ 0 ∷ 0 ∷ 2 ∷ 2 ∷ 0 ∷ 1 ∷ []) e 1 refl refl (omega arith) (omega arith) (omega arith)
two_fit e (suc (suc zero)) h = fits_both (0 ∷ 0 ∷ 0 ∷ 0 ∷ 0 ∷ 1 ∷ 1 ∷ []) e 2 refl refl (omega arith) (omega arith) (omega arith)
two_fit e (suc (suc (suc f))) h = absurd (omega arith)

-- three lost, and the fourth wrong for one and right for the other
abbrev one_wrong : List ℕ
one_wrong = 0 ∷ 0 ∷ 0 ∷ 2 ∷ 2 ∷ 2 ∷ 1 ∷ []

one_read : Read nothing one_wrong 3 1 × Read four one_wrong 3 0
unfolding erasures errors count range
one_read = (computed_read nothing one_wrong 3 1 refl refl refl (omega arith), computed_read four one_wrong 3 0 refl refl refl (omega arith))

-- as the builder has it, and the place for it
fano_built : SteinerPlan 7 1 (replicate 21 (pos 0)) fano 7 7
unfolding lowest build_rules first_place is_order member cols
fano_built = steiner_plan_law 7 1 (replicate 21 (pos 0)) (record { plan = 49; rows = 7; cols = 7 }) refl

four_apart : errors nothing four ≡ 4
unfolding errors count range
four_apart = refl

pub fano_reaches : FanoReaches
unfolding cols
fano_reaches bound at_6 =
    record {
      passing = fano_built.passing;
      three = fano_built.holds.three_blocks;
      u = nothing;
      v = four;
      even_u = both_even.0;
      even_v = both_even.1;
      apart = four_apart;
      two_fit = two_fit;
      other_given = (
        one_wrong,
        one_read.0,
        fano_built.three_lost four one_wrong ((even_exactly fano 7 7 1 four).0 both_even.1).1 (without_errors four one_wrong 3 one_read.1),
      );
    }
