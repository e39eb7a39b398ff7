-- The time of the search. From one root: a call for each vertex at most, and one more, for the bit that is met again. In a whole
-- search: each root of each round once, and the root with the answer twice. Assumes nothing.
use Rattle.std.specs.Prelude.{Option}
use Prim.Native.Nat.{ℕ, zero, suc, ◌+◌, ◌*◌, ◌/◌, ◌≤◌, ◌<◌}
use mathlib.Core.Path.{◌≡◌, refl, sym, subst, ◌∙◌}
use mathlib.Core.Logic.{inl, inr}
use mathlib.Core.Bool.{Bool, true, false, cond}
use mathlib.Core.List.{List, [], ◌∷◌}
use Rattle.std.specs.Prelude.{None, Some}
use Rattle.std.proofs.lemmas.Option.{none-some}
use native.Mathlib.Omega.{arith}
use native.Mathlib.Nat.{suc-mul, add-mul, mul_assoc, mul-le-mul_right}
use lib.IntN.{ℤ}
use lib.ListN.{length}
use Rattle.graph.specs.Count.{Mem, Nodup}
use Rattle.graph.specs.Girth.{Passes}
use Rattle.graph.proofs.Ends.{Reached}
use Rattle.exponent.specs.declared.Shape.{Shape}
use Rattle.exponent.specs.Tanner.{graph_of}
use Rattle.walks.specs.Steps.{Blocks, blocks_of}
use Rattle.walks.specs.Ways.{Way, odd, roots, ways}
use Rattle.walks.specs.Meeting.{repeat, join, meeting, or_else, first_of, short_cycle}
use Rattle.walks.specs.Calls.{run, second_calls, root_calls, unless_met, calls_until, round_calls, search_calls, root_bound, search_bound}
use Rattle.walks.proofs.Link.{at_0}
use Rattle.walks.proofs.Growth.{run_calls}
use Rattle.walks.proofs.Inner.{inner_by}
use Rattle.walks.proofs.Near.{few_inner}
use Rattle.walks.proofs.Repeats.{some_mem}
use Rattle.walks.proofs.Answers.{missed}
use Rattle.walks.proofs.Missed.{passes_on}
use Rattle.walks.proofs.Roots.{root_of, walked}
use Rattle.walks.proofs.Tallies.{few_stamps}

-- UNTIL AN ANSWER: k turns of Y calls at most, and X more where there is an answer

abbrev extra : ℕ → Option Way → ℕ
extra X None = 0
extra X (Some w) = X

extra_le : (X : ℕ) (r : Option Way) → extra X r ≤ X
extra_le X None = omega arith
extra_le X (Some w) = omega arith

turn_few : (X Y k c later : ℕ) (r rest : Option Way) → c ≤ Y + extra X r → (r ≡ None → later ≤ k * Y + extra X rest) → c + unless_met r later ≤ suc k * Y + extra X (or_else r rest)
turn_few X Y k c later None rest h on = omega (arith, suc-mul k Y, on refl)
turn_few X Y k c later (Some w) rest h on = omega (arith, suc-mul k Y)

-- where I holds of the first turn, and of each turn after one without an answer
module _ (I : ℕ → Type 0) (answer : ℕ → Option Way) (calls : ℕ → ℕ) (X Y top : ℕ) (on : (j : ℕ) → I j → answer j ≡ None → I (suc j)) (few : (j : ℕ) → j < top → I j → calls j ≤ Y + extra X (answer j)) where
  until_few : (k i : ℕ) → i + k ≤ top → I i → calls_until answer calls k i ≤ k * Y + extra X (first_of answer k i)
  unfolding calls_until first_of
  until_few zero i h at = omega arith
  until_few (suc k) i h at =
      turn_few X Y k (calls i) (calls_until answer calls k (suc i)) (answer i) (first_of answer k (suc i)) (few i (omega arith) at)
      (λ e. until_few k (suc i) (omega arith) (on i at e))

module _ (plan : List ℤ) (s : Shape) (some_lift : 0 < s.lift) where
  abbrev B : Blocks
  B = blocks_of plan s

  -- ONE ROOT

  module _ (n k : ℕ) (passes : Passes (graph_of plan s) (2 * n)) (root : k < roots (blocks_of plan s) n) where
    -- n edges lead from the root to bit b
    abbrev End : ℕ → Type 0
    End b = Reached (graph_of plan s) n (root_of (odd n) (at_0 s k)) b

    way_end : (w : Way) → Mem w (ways B n k) → End w.end
    way_end w m = let o = walked plan s some_lift n k root w m in record { along = o.after; walk = o.walk; long = o.long; ends = o.ends }

    -- the calls before the last depth and the bits that a run stamps, with those stamped beforehand
    stamped_few : (S : List ℕ) → Nodup S → ((b : ℕ) → Mem b S → End b) → length (inner_by (odd n) B (n / 2) k) + length (run B n k S).stamped ≤ suc (s.rows * s.lift + s.cols * s.lift)
    stamped_few = few_stamps End (length (inner_by (odd n) B (n / 2) k)) (s.rows * s.lift + s.cols * s.lift) (few_inner plan s some_lift n k passes root) B n k way_end

    few_run_calls : (S : List ℕ) → Nodup S → ((b : ℕ) → Mem b S → End b) → (run B n k S).calls ≤ root_bound s
    unfolding root_bound
    few_run_calls S apart ends = omega (arith, run_calls B n k S, stamped_few S apart ends)

    -- a root without an answer is run over once, one with an answer twice
    root_few : root_calls B n k ≤ root_bound s + extra (root_bound s) (meeting B n k)
    unfolding root_calls meeting
    root_few = go (meeting B n k) refl (repeat [] (ways B n k)) refl
      where
        first : (run B n k []).calls ≤ root_bound s
        first = few_run_calls [] tt (λ b m. absurd m)

        again : (w : Way) → repeat [] (ways B n k) ≡ Some w → (run B n k (w.end ∷ [])).calls ≤ root_bound s
        again w e = few_run_calls (w.end ∷ []) (λ m. m, tt) (λ b m. elim m [ inl q ↦ subst End (sym q) (way_end w (some_mem [] (ways B n k) w e)) | inr x ↦ absurd x ])

        go : (m : Option Way) → meeting B n k ≡ m → (r : Option Way) → repeat [] (ways B n k) ≡ r → (run B n k []).calls + second_calls B n k r ≤ root_bound s + extra (root_bound s) m
        go m e None h = omega (arith, first)
        go None e (Some w) h = absurd (none-some w (sym (missed (ways B n k) (join B n k) e) ∙ h))
        go (Some v) e (Some w) h = omega (arith, first, again w h)

  -- ROUNDS

  round_few : (n : ℕ) → Passes (graph_of plan s) (2 * n) → round_calls B n ≤ (s.rows + s.cols) * root_bound s + extra (root_bound s) (short_cycle B n)
  unfolding round_calls short_cycle
  round_few n passes =
      omega (arith, mul-le-mul_right (root_bound s) few_roots, until_few (λ j. Unit {0}) (meeting B n) (root_calls B n) (root_bound s) (root_bound s) (roots B n) (λ j i e. tt) (λ j h i. root_few n j passes h) (roots B n) 0 (omega arith) tt)
    where
      few_roots : roots B n ≤ s.rows + s.cols
      few_roots = go (odd n)
        where
          go : (t : Bool) → cond t s.rows s.cols ≤ s.rows + s.cols
          go true = omega arith
          go false = omega arith

  pub few_calls : (k n : ℕ) → 2 ≤ n → Passes (graph_of plan s) (2 * n) → search_calls (blocks_of plan s) k n ≤ search_bound s k
  unfolding search_calls search_bound
  few_calls k n two passes =
      let few = until_few (λ j. (2 ≤ j) × Passes (graph_of plan s) (2 * j)) (short_cycle B) (round_calls B) (root_bound s) ((s.rows + s.cols) * root_bound s) (n + k)
      (λ j i e. (omega arith, passes_on plan s some_lift j i.0 e i.1)) (λ j h i. round_few j i.1) k n (omega arith) (two, passes) in
      omega (arith, few, extra_le (root_bound s) (first_of (short_cycle B) k n), mul_assoc k (s.rows + s.cols) (root_bound s), add-mul (k * (s.rows + s.cols)) 1 (root_bound s))
