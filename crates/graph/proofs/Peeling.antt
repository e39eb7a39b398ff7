-- Laws of peeling sets of bits: the union of stopping sets is one; U is a stopping set among the erasures and contains every other one.
-- Assumes nothing.
use Prim.Native.Nat.{ℕ, zero, suc, ◌+◌, ◌≤◌, ◌<◌}
use mathlib.Core.Path.{◌≡◌, refl, sym, ap, ap₂, subst, ◌∙◌, fun_ext}
use mathlib.Core.Logic.{◌⊎◌, inl, inr}
use mathlib.Core.Bool.{Bool, true, false, not, ◌||◌}
use mathlib.Core.List.{List}
use native.Mathlib.Omega.{arith}
use native.Mathlib.Numerals.{add-one}
use borrow.Author.Tests.{eqb-true, eq-eqb}
use lib.Dec.{eqb}
use lib.ListN.{length, get_or, get_or-eq_default}
use Rattle.graph.specs.Count.{below, count, member, Mem}
use Rattle.graph.specs.Graph.{Bipartite, bits_of}
use Rattle.graph.specs.Stopping.{Stopping}
use Rattle.graph.specs.Erasure.{erased, StoppingIn, Union, any, only, peel, peels, largest}
use Rattle.graph.specs.Filling.{erasures, filled_count, left_count}
use Rattle.graph.proofs.Decide.{both_ways, by_bool, by_eq, by_le, and_left, and_right, and_both, same_bool}
use Rattle.graph.proofs.Count.{member_mem, mem_member, length_range, count_mono, count_le, count_mem, count_some, count_full, count_split, count_positions}
use Rattle.graph.proofs.Neighbours.{below_mem}

-- Tests of the numbers below a bound

pub any_zero : (test : ℕ → Bool) → any 0 test ≡ false
unfolding any
any_zero test = refl

pub any_more : (test : ℕ → Bool) (k : ℕ) → any k test ≡ false → test k ≡ false → any (k + 1) test ≡ false
unfolding any
any_more test k e q = ap (λ (n : ℕ). any n test) (add-one k) ∙ ap₂ (λ (x y : Bool). x || y) q e

pub any_true : (n : ℕ) (test : ℕ → Bool) → any n test ≡ true → (c : ℕ) × (c < n) × (test c ≡ true)
unfolding any
any_true zero test e = both_ways {t = false} e refl
any_true (suc n) test e = by_bool (test n) (λ q. (n, omega arith, q)) (λ q. let r = any_true n test (rw q at e) in (r.0, omega arith, r.2))

pub any_some : (n : ℕ) (test : ℕ → Bool) (c : ℕ) → c < n → test c ≡ true → any n test ≡ true
unfolding any
any_some zero test c h e = absurd (omega arith)
any_some (suc n) test c h e =
    by_bool (test n)
    (λ q. rw q)
    (λ q. rw q (by_eq c n (λ s. both_ways (sym (ap test s) ∙ e) q) (λ d. any_some n test c (omega arith) e)))

pub any_false : (n : ℕ) (test : ℕ → Bool) → any n test ≡ false → (c : ℕ) → c < n → test c ≡ false
any_false n test e c h = by_bool (test c) (λ q. both_ways (any_some n test c h q) e) (λ q. q)

pub any_none : (n : ℕ) (test : ℕ → Bool) → ((c : ℕ) → c < n → test c ≡ true → ⊥) → any n test ≡ false
any_none n test h = by_bool (any n test) (λ e. let r = any_true n test e in absurd (h r.0 r.1 r.2)) (λ e. e)

-- Erasures

-- an erased bit is one of the word's
pub erased_low : (w : List ℕ) (b : ℕ) → erased w b ≡ true → b < length w
erased_low w b e = by_le (length w) b (λ h. absurd (omega (arith, eqb-true (get_or w b 0) 2 e, get_or-eq_default w 0 h))) (λ h. h)

pub erasures_count : (w : List ℕ) → erasures w ≡ count (erased w) (below (length w))
unfolding erasures
erasures_count w = count_positions (λ x. eqb x 2) w

-- The union of stopping sets is one: a check that touched it once would touch the set of that bit once

union_stops : (G : Bipartite) (Collected : (ℕ → Bool) → Type 0) (U : ℕ → Bool) → ((S : ℕ → Bool) → Collected S → Stopping G S) → Union Collected U → Stopping G U
unfolding Stopping
union_stops G Collected U each union c low h =
    let (b, b-in, b-U) = count_some U (bits_of G c) (omega arith) in
    let (S, collected, b-S) = union.nothing_else b b-U in
    each S collected c low (omega (
      arith,
      count_mem S b (bits_of G c) b-in b-S,
      count_mono S U (bits_of G c) (λ x _. union.contains S collected x),
    ))

pub union_stopping : (G : Bipartite) (w : List ℕ) (Collected : (ℕ → Bool) → Type 0) (U : ℕ → Bool)
    → ((S : ℕ → Bool) → Collected S → StoppingIn G w S) → Union Collected U → StoppingIn G w U
union_stopping G w Collected U each union =
    record {
      within = λ b e. let (S, collected, b-S) = union.nothing_else b e in (each S collected).within b b-S;
      stops = union_stops G Collected U (λ S collected. (each S collected).stops) union;
    }

-- One round

module _ (G : Bipartite) (S : ℕ → Bool) where
  pub only_mem : (c b : ℕ) → only G S c b ≡ true → Mem b (bits_of G c)
  unfolding only
  only_mem c b e = member_mem b (bits_of G c) (and_left _ (eqb (count S (bits_of G c)) 1) e)

  pub only_once : (c b : ℕ) → only G S c b ≡ true → count S (bits_of G c) ≡ 1
  unfolding only
  only_once c b e = eqb-true _ 1 (and_right (member b (bits_of G c)) _ e)

  pub only_intro : (c b : ℕ) → Mem b (bits_of G c) → count S (bits_of G c) ≡ 1 → only G S c b ≡ true
  unfolding only
  only_intro c b m h = and_both _ _ (mem_member b (bits_of G c) m) (eq-eqb _ 1 h)

  pub peel_within : (b : ℕ) → peel G S b ≡ true → S b ≡ true
  unfolding peel
  peel_within b e = and_left _ (not (any G.checks (λ c. only G S c b))) e

  -- a stopping set within S is within what a round leaves
  pub peel_keeps : (A : ℕ → Bool) → Stopping G A → ((b : ℕ) → A b ≡ true → S b ≡ true) → (b : ℕ) → A b ≡ true → peel G S b ≡ true
  unfolding peel Stopping
  peel_keeps A stop sub b a =
      let none : any G.checks (λ c. only G S c b) ≡ false = any_none _ _ λ c h e.
      stop c h (omega (
        arith,
        only_once c b e,
        count_mem A b (bits_of G c) (only_mem c b e) a,
        count_mono A S (bits_of G c) (λ x _. sub x),
      )) in
      and_both _ _ (sub b a) (ap not none)

  -- a set that a round does not change is a stopping set
  stable_stops : peel G S ≡ S → Stopping G S
  unfolding peel Stopping
  stable_stops st c h e =
      let r = count_some S (bits_of G c) (omega arith) in
      let found : any G.checks (λ c. only G S c r.0) ≡ true = any_some _ _ c h (only_intro c r.0 r.1 e) in
      let stays : peel G S r.0 ≡ true = ap (λ (f : ℕ → Bool). f r.0) st ∙ r.2 in
      both_ways {t = false} (rw (r.2, found) at stays) refl

  -- a round changes nothing, or a bit goes: j gone before, j + 1 after it
  stable_or_less : (n m j : ℕ) → ((b : ℕ) → S b ≡ true → b < n) → count S (below n) + j ≤ m
      → (peel G S ≡ S) ⊎ (count (peel G S) (below n) + suc j ≤ m)
  stable_or_less n m j low h =
      by_le (count S (below n)) (count (peel G S) (below n))
      (λ q.
      inl (fun_ext λ b.
      same_bool _ _ (peel_within b) (λ e. count_full (peel G S) S (below n) peel_within q b (below_mem b n (low b e)) e)))
      (λ q. inr (omega arith))

-- All rounds

module _ (G : Bipartite) where
  peels_within : (S : ℕ → Bool) (k b : ℕ) → peels G k S b ≡ true → S b ≡ true
  unfolding peels
  peels_within S zero b e = e
  peels_within S (suc k) b e = peels_within S k b (peel_within G (peels G k S) b e)

  peels_keeps : (A S : ℕ → Bool) → Stopping G A → ((b : ℕ) → A b ≡ true → S b ≡ true) → (k b : ℕ) → A b ≡ true → peels G k S b ≡ true
  unfolding peels
  peels_keeps A S stop sub zero b a = sub b a
  peels_keeps A S stop sub (suc k) b a = peel_keeps G (peels G k S) A stop (peels_keeps A S stop sub k) b a

  -- round k + 1 changes nothing, or after it k + 1 bits are gone
  peels_size : (S : ℕ → Bool) (n : ℕ) → ((b : ℕ) → S b ≡ true → b < n)
      → (k : ℕ) → (peel G (peels G k S) ≡ peels G k S) ⊎ (count (peel G (peels G k S)) (below n) + suc k ≤ count S (below n))
  unfolding peels
  peels_size S n low zero = stable_or_less G S n _ 0 low (omega arith)
  peels_size S n low (suc k) =
      elim (peels_size S n low k) [
        | inl stable ↦ inl (ap (peel G) stable)
        | inr small ↦ stable_or_less G (peels G (suc k) S) n _ (suc k) (λ b e. low b (peels_within S (suc k) b e)) small
      ]

  module _ (w : List ℕ) where
    largest_stable : peel G (largest G w) ≡ largest G w
    unfolding largest
    largest_stable =
        elim (peels_size (erased w) (length w) (erased_low w) (length w)) [
          | inl stable ↦ stable
          | inr small ↦ absurd (omega (arith, count_le (erased w) (below (length w)), length_range 0 (length w)))
        ]

    -- U is a stopping set among the erasures,
    pub largest_stopping : StoppingIn G w (largest G w)
    unfolding largest
    largest_stopping = record { within = peels_within (erased w) (length w); stops = stable_stops G (largest G w) largest_stable }

    -- and contains every other one
    pub largest_contains : (S : ℕ → Bool) → StoppingIn G w S → (b : ℕ) → S b ≡ true → largest G w b ≡ true
    unfolding largest
    largest_contains S stop b s = peels_keeps S (erased w) stop.stops stop.within (length w) b s

    -- an erasure in no check is in U
    pub lonely : (a : ℕ) → erased w a ≡ true → ((c : ℕ) → c < G.checks → Mem a (bits_of G c) → ⊥) → largest G w a ≡ true
    unfolding Stopping
    lonely a l n =
        largest_contains (λ b. eqb b a)
        (record {
          within = λ b e. ap (erased w) (eqb-true b a e) ∙ l;
          stops = λ c low h.
              let r = count_some (λ b. eqb b a) (bits_of G c) (omega arith) in
              n c low (subst (λ (x : ℕ). Mem x (bits_of G c)) (eqb-true r.0 a r.2) r.1);
        })
        a (eq-eqb a a refl)

    -- where every stopping set that has a bit has more than k, and there are at most k erasures, U is empty
    pub none_left : (k : ℕ) → ((S : ℕ → Bool) → StoppingIn G w S → (b : ℕ) → S b ≡ true → k < count S (below (length w)))
        → erasures w ≤ k → (b : ℕ) → largest G w b ≡ false
    none_left k large few b =
        by_bool (largest G w b)
        (λ s.
        absurd
        (omega (
          arith,
          large (largest G w) largest_stopping b s,
          count_mono (largest G w) (erased w) (below (length w)) (λ x _. largest_stopping.within x),
          erasures_count w,
        )))
        (λ s. s)

    pub filled_and_left : filled_count G w + left_count G w ≡ erasures w
    unfolding filled_count left_count
    filled_and_left = count_split (erased w) (largest G w) (below (length w)) largest_stopping.within ∙ sym (erasures_count w)
