-- The count of calls goes over the ways that the search goes over, and stops where it stops: at the first repeat. So it stamps each
-- end of a way at most once, and one of them again. Assumes nothing.
use Rattle.std.specs.Prelude.{Option}
use Prim.Native.Nat.{ℕ, zero, suc, ◌+◌, ◌-◌, ◌*◌, ◌/◌, ◌≤◌}
use mathlib.Core.Path.{◌≡◌, refl, sym, ap, subst, ◌∙◌}
use mathlib.Core.Logic.{inl, inr}
use mathlib.Core.Bool.{Bool, true, false, cond}
use mathlib.Core.List.{List, [], ◌∷◌, ◌++◌, map}
use Rattle.std.specs.Prelude.{None, Some}
use native.Mathlib.Omega.{arith}
use lib.ListN.{length}
use Rattle.graph.specs.Count.{Mem, member, Nodup}
use Rattle.graph.proofs.Count.{mem_member}
use Rattle.graph.proofs.Decide.{by_bool, both_ways}
use Rattle.exponent.specs.declared.position.Position.{Position}
use Rattle.walks.specs.declared.Corner.{Corner}
use Rattle.walks.specs.Steps.{Blocks, to_column, to_row}
use Rattle.walks.specs.Ways.{Joint, Way, more, and_then, each, joint, from_check, from_bit, corner, odd, root_bit, root_check, ways_by, ways}
use Rattle.walks.specs.Meeting.{repeat}
use Rattle.walks.specs.Calls.{Tally, on_step, turns, check_calls, bit_calls, run_by, run}

-- a tally without its calls
record State : Type 0 where
  stamped : List ℕ
  met : Bool

abbrev state : Tally → State
state t = record { stamped = t.stamped; met = t.met }

abbrev stamp : ℕ → State → State
stamp b m = record { stamped = b ∷ m.stamped; met = member b m.stamped }

-- the state after a list of ways, up to the first that meets
unfoldable follow : List Way → State → State
follow [] m = m
follow (w ∷ W) m = let later = follow W (stamp w.end m) in cond m.met m later

follow_met : (W : List Way) (m : State) → m.met ≡ true → follow W m ≡ m
unfolding follow
follow_met [] m e = refl
follow_met (w ∷ W) m e = ap (λ (t : Bool). cond t m (follow W (stamp w.end m))) e

follow_append : (U W : List Way) (m : State) → follow (U ++ W) m ≡ follow W (follow U m)
unfolding follow
follow_append [] W m = refl
follow_append (v ∷ U) W m = go m.met refl (follow_append U W (stamp v.end m))
  where
    go : (t : Bool) → m.met ≡ t → follow (U ++ W) (stamp v.end m) ≡ follow W (follow U (stamp v.end m))
        → cond t m (follow (U ++ W) (stamp v.end m)) ≡ follow W (cond t m (follow U (stamp v.end m)))
    go true e later = sym (follow_met W m e)
    go false e later = later

follow_more : (e : Joint) (W : List Way) (m : State) → follow (map (more e) W) m ≡ follow W m
unfolding follow
follow_more e [] m = refl
follow_more e (w ∷ W) m = ap (λ (r : State). cond m.met m r) (follow_more e W (stamp w.end m))

-- THE COUNT FOLLOWS THE WAYS

-- f goes on from a tally as the ways W say
abbrev Follows : (Tally → Tally) → List Way → Type 0
Follows f W = (t : Tally) → t.met ≡ false → state (f t) ≡ follow W (state t)

turns_follow : (f : ℕ → Tally → Tally) (F : ℕ → List Way) → ((j : ℕ) → Follows (f j) (F j)) → (k i : ℕ) (t : Tally) → state (turns f k i t) ≡ follow (each F k i) (state t)
unfolding turns each follow
turns_follow f F h zero i t = refl
turns_follow f F h (suc k) i t =
    by_bool t.met
    (λ e. ap (λ (b : Bool). state (cond b t (turns f k (suc i) (f i t)))) e ∙ sym (follow_met (F i ++ each F k (suc i)) (state t) e))
    (λ e. ap (λ (b : Bool). state (cond b t (turns f k (suc i) (f i t)))) e
    ∙ turns_follow f F h k (suc i) (f i t)
    ∙ ap (follow (each F k (suc i))) (h i t e)
    ∙ sym (follow_append (F i) (each F k (suc i)) (state t)))

step_follows : (s : Option Position) (f : Position → Tally → Tally) (F : Position → List Way) → ((q : Position) → Follows (f q) (F q)) → Follows (on_step s f) (and_then s F)
unfolding follow
step_follows None f F h t e = refl
step_follows (Some q) f F h t e = h q t e

module _ (B : Blocks) (κ : Corner) where
  check_follows : (next : Position → Tally → Tally) (W : Position → List Way) → ((q : Position) → Follows (next q) (W q)) → (p : Position) → Follows (check_calls B κ next p) (from_check B κ W p)
  check_follows next W h p t e =
      turns_follow (λ j. on_step (to_column B p j) next) (λ j. and_then (to_column B p j) (λ q. map (more (joint B p q)) (W q)))
      (λ j. step_follows (to_column B p j) next (λ q. map (more (joint B p q)) (W q)) (λ q u k. h q u k ∙ sym (follow_more (joint B p q) (W q) (state u))))
      (B.cols - κ.col) κ.col _

  bit_follows : (d : ℕ) (p : Position) → Follows (bit_calls B κ d p) (from_bit B κ d p)
  unfolding bit_calls from_bit follow
  bit_follows zero p t e = sym (ap (λ (b : Bool). cond b (state t) (stamp (p.col * B.lift + p.voltage) (state t))) e)
  bit_follows (suc d) p t e =
      turns_follow (λ i. on_step (to_row B p i) (check_calls B κ (bit_calls B κ d))) (λ i. and_then (to_row B p i) (from_check B κ (from_bit B κ d)))
      (λ i. step_follows (to_row B p i) (check_calls B κ (bit_calls B κ d)) (from_check B κ (from_bit B κ d)) (check_follows (bit_calls B κ d) (from_bit B κ d) (bit_follows d)))
      (B.rows - κ.row) κ.row _

run_follows_by : (t : Bool) (B : Blocks) (d k : ℕ) → Follows (run_by t B d k) (ways_by t B d k)
run_follows_by true B d k = check_follows B (corner k 0) (bit_calls B (corner k 0) d) (from_bit B (corner k 0) d) (bit_follows B (corner k 0) d) (root_check B k)
run_follows_by false B d k = bit_follows B (corner 0 k) d (root_bit B k)

run_follows : (B : Blocks) (n k : ℕ) (S : List ℕ) → state (run B n k S) ≡ follow (ways B n k) (record { stamped = S; met = false })
unfolding run ways
run_follows B n k S = run_follows_by (odd n) B (n / 2) k (record { calls = 0; stamped = S; met = false }) refl

-- THE COUNT STOPS WHERE THE SEARCH DOES

abbrev pub is_some : Option Way → Bool
is_some None = false
is_some (Some w) = true

follow_stops : (W : List Way) (S : List ℕ) → (follow W (record { stamped = S; met = false })).met ≡ is_some (repeat S W)
unfolding follow repeat
follow_stops [] S = refl
follow_stops (w ∷ W) S = go (member w.end S) (follow_stops W (w.end ∷ S))
  where
    go : (t : Bool) → (follow W (record { stamped = w.end ∷ S; met = false })).met ≡ is_some (repeat (w.end ∷ S) W)
        → (follow W (record { stamped = w.end ∷ S; met = t })).met ≡ is_some (cond t (Some w) (repeat (w.end ∷ S) W))
    go true later = ap (λ (m : State). m.met) (follow_met W (record { stamped = w.end ∷ S; met = true }) refl)
    go false later = later

pub run_stops : (B : Blocks) (n k : ℕ) (S : List ℕ) → (run B n k S).met ≡ is_some (repeat S (ways B n k))
run_stops B n k S = ap (λ (m : State). m.met) (run_follows B n k S) ∙ follow_stops (ways B n k) S

-- FEW STAMPS: each number with P once, and one of them again; different ones with P are, with i others, c at most

module _ (P : ℕ → Type 0) (i c : ℕ) (limit : (E : List ℕ) → Nodup E → ((b : ℕ) → Mem b E → P b) → i + length E ≤ c) where
  record Fresh (m : State) : Type 0 where
    every : (b : ℕ) → Mem b m.stamped → P b
    apart : m.met ≡ false → Nodup m.stamped
    few : i + length m.stamped ≤ suc c

  stamps : (b : ℕ) (m : State) → P b → m.met ≡ false → Fresh m → Fresh (stamp b m)
  stamps b m h e f =
      record {
        every = λ x j. elim j [ inl q ↦ subst P (sym q) h | inr k ↦ f.every x k ];
        apart = λ t. (λ j. both_ways (mem_member b m.stamped j) t, f.apart e);
        few = omega (arith, limit m.stamped (f.apart e) f.every);
      }

  follow_fresh : (W : List Way) → ((w : Way) → Mem w W → P w.end) → (m : State) → Fresh m → Fresh (follow W m)
  unfolding follow
  follow_fresh [] h m f = f
  follow_fresh (w ∷ W) h m f = go m.met refl (follow_fresh W (λ v j. h v (inr j)) (stamp w.end m))
    where
      go : (t : Bool) → m.met ≡ t → (Fresh (stamp w.end m) → Fresh (follow W (stamp w.end m))) → Fresh (cond t m (follow W (stamp w.end m)))
      go true e later = f
      go false e later = later (stamps w.end m (h w (inl refl)) e f)

  pub few_stamps : (B : Blocks) (n k : ℕ) → ((w : Way) → Mem w (ways B n k) → P w.end) → (S : List ℕ) → Nodup S → ((b : ℕ) → Mem b S → P b) → i + length (run B n k S).stamped ≤ suc c
  few_stamps B n k h S apart every =
      let start : Fresh (record { stamped = S; met = false }) = record { every = every; apart = λ e. apart; few = omega (arith, limit S apart every) } in
      (subst Fresh (sym (run_follows B n k S)) (follow_fresh (ways B n k) h _ start)).few
