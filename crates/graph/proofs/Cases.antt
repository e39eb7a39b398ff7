-- Worked cases: computed tests of simple cycles, a graph that fails, and one at which the tree bound is reached.
-- Assumes nothing.
use Prim.Native.Nat.{ℕ, zero, suc, ◌+◌, ◌-◌, ◌%◌, ◌≤◌, ◌<◌}
use mathlib.Core.Path.{◌≡◌, refl}
use mathlib.Core.Logic.{◌≢◌}
use mathlib.Core.Bool.{Bool, true, false, ◌&&◌, ◌||◌, not}
use mathlib.Core.List.{List, [], ◌∷◌}
use native.Mathlib.Omega.{arith}
use borrow.Author.Tests.{leb-true, ltb-true, eqb-true, eq-eqb, not-true}
use lib.Dec.{eqb, leb, ltb}
use lib.ListN.{get_or, length}
use Rattle.graph.specs.Count.{range, below, select, count}
use Rattle.graph.specs.Graph.{Bipartite, Joined, bits_of, checks_of}
use Rattle.graph.specs.Girth.{SimpleCycle, Passes, IsGirth}
use Rattle.graph.specs.Stopping.{Stopping, ThreeChecks, girth_6}
use Rattle.graph.proofs.Decide.{by_eq, both_ways, and_left, and_right, and_both}
use Rattle.graph.proofs.Cycles.{passes_6}
use Rattle.graph.proofs.Tree.{stopping_least}

-- every number below n passes the test
abbrev pub all : ℕ → (ℕ → Bool) → Bool
all zero f = true
all (suc n) f = f n && all n f

pub all_at : (n : ℕ) (f : ℕ → Bool) → all n f ≡ true → (k : ℕ) → k < n → f k ≡ true
all_at zero f t k h = absurd (omega arith)
all_at (suc n) f t k h = by_eq n k (λ e. rw (← e) (and_left (f n) (all n f) t)) (λ d. all_at n f (and_right (f n) (all n f) t) k (omega arith))

-- a computed test of a simple cycle
abbrev joined? : Bipartite → ℕ → ℕ → Bool
joined? G c b = ltb c G.checks && (ltb b G.bits && G.joins c b)

joined_if : (G : Bipartite) (c b : ℕ) → joined? G c b ≡ true → Joined G c b
joined_if G c b t =
    let p = and_right (ltb c G.checks) (ltb b G.bits && G.joins c b) t in
    record {
      check_in = ltb-true c G.checks (and_left (ltb c G.checks) (ltb b G.bits && G.joins c b) t);
      bit_in = ltb-true b G.bits (and_left (ltb b G.bits) (G.joins c b) p);
      edge = and_right (ltb b G.bits) (G.joins c b) p;
    }

abbrev differ? : List ℕ → ℕ → Bool
differ? l n = all n (λ j. all j (λ i. not (eqb (get_or l i 0) (get_or l j 0))))

differ_if : (l : List ℕ) (n : ℕ) → differ? l n ≡ true → (i j : ℕ) → i < j → j < n → get_or l i 0 ≢ get_or l j 0
differ_if l n t i j h k e =
    let s = all_at j (λ i. not (eqb (get_or l i 0) (get_or l j 0))) (all_at n (λ j. all j (λ i. not (eqb (get_or l i 0) (get_or l j 0)))) t j k) i h in
    both_ways (eq-eqb (get_or l i 0) (get_or l j 0) e) (not-true (eqb (get_or l i 0) (get_or l j 0)) s)

-- the checks and bits are those of a simple cycle: each clause is a computed test
pub cycle_if : (G : Bipartite) (m : ℕ) (cs bs : List ℕ)
    → (let n = suc (suc m) in
    length cs ≡ n
    → length bs ≡ n
    → all n (λ k. joined? G (get_or cs k 0) (get_or bs k 0)) ≡ true
    → all (suc m) (λ k. joined? G (get_or cs (suc k) 0) (get_or bs k 0)) ≡ true
    → joined? G (get_or cs 0 0) (get_or bs (suc m) 0) ≡ true
    → differ? cs n ≡ true
    → differ? bs n ≡ true
    → SimpleCycle G n cs bs)
cycle_if G m cs bs a b f g h p q =
    record {
      least = omega arith;
      n_checks = a;
      n_bits = b;
      forth = λ k i. joined_if G (get_or cs k 0) (get_or bs k 0) (all_at (suc (suc m)) (λ k. joined? G (get_or cs k 0) (get_or bs k 0)) f k i);
      back = λ k i. joined_if G (get_or cs (suc k) 0) (get_or bs k 0) (all_at (suc m) (λ k. joined? G (get_or cs (suc k) 0) (get_or bs k 0)) g k (omega arith));
      closes = joined_if G (get_or cs 0 0) (get_or bs (suc m) 0) h;
      checks_differ = differ_if cs (suc (suc m)) p;
      bits_differ = differ_if bs (suc (suc m)) q;
    }

-- two checks that both join two bits: a cycle of 4 edges, so the girth is 4, and it fails at 6
abbrev square : Bipartite
square = record { checks = 2; bits = 2; joins = λ c b. true }

square_cycle : SimpleCycle square 2 (0 ∷ 1 ∷ []) (0 ∷ 1 ∷ [])
square_cycle = cycle_if square 0 (0 ∷ 1 ∷ []) (0 ∷ 1 ∷ []) refl refl refl refl refl refl refl

pub square_girth : IsGirth square 4
unfolding Passes
square_girth =
    record { n = 2; checks = 0 ∷ 1 ∷ []; bits = 0 ∷ 1 ∷ []; cycle = square_cycle; edges = refl; none_shorter = λ n cs bs y. omega (arith, y.least) }

pub square_fails : ¬ Passes square 6
unfolding Passes
square_fails p = let h : 6 ≤ 4 = p 2 (0 ∷ 1 ∷ []) (0 ∷ 1 ∷ []) square_cycle in omega arith

-- The Fano plane: check c joins the bits c, c + 1 and c + 3 modulo 7.
abbrev pub fano : Bipartite
fano = record { checks = 7; bits = 7; joins = λ c b. let d = (b + 7 - c) % 7 in eqb d 0 || (eqb d 1 || eqb d 3) }

pub fano_three : ThreeChecks fano
unfolding ThreeChecks checks_of select range
fano_three b h = leb-true 3 (length (checks_of fano b)) (all_at 7 (λ b. leb 3 (length (checks_of fano b))) refl b h)

-- the four edges of a square are not all there, unless its checks or its bits are the same
abbrev no_square? : ℕ → ℕ → ℕ → ℕ → Bool
no_square? c d a b = eqb c d || (eqb a b || not (fano.joins c a && (fano.joins d a && (fano.joins d b && fano.joins c b))))

or_else : (s t : Bool) → (s || t) ≡ true → ¬ (s ≡ true) → t ≡ true
or_else true t e h = absurd (h refl)
or_else false t e h = e

pub fano_passes : Passes fano 6
fano_passes =
    passes_6 fano λ c d a b p q r s cd ab.
    let square : Bool = fano.joins c a && (fano.joins d a && (fano.joins d b && fano.joins c b)) in
    let t : no_square? c d a b ≡ true = at c d a b p.check_in q.check_in p.bit_in r.bit_in in
    let u = or_else (eqb c d) (eqb a b || not square) t (λ e. cd (eqb-true c d e)) in
    let v = or_else (eqb a b) (not square) u (λ e. ab (eqb-true a b e)) in
    both_ways (and_both _ _ p.edge (and_both _ _ q.edge (and_both _ _ r.edge s.edge))) (not-true square v)
  where
    at : (c d a b : ℕ) → c < 7 → d < 7 → a < 7 → b < 7 → no_square? c d a b ≡ true
    at c d a b i j k l =
        all_at 7 (λ b. no_square? c d a b) (all_at 7 (λ a. all 7 (λ b. no_square? c d a b)) (all_at 7 (λ d. all 7 (λ a. all 7 (λ b. no_square? c d a b))) (all_at 7 (λ c. all 7 (λ d. all 7 (λ a. all 7 (λ b. no_square? c d a b)))) refl c i) d j) a k) b l

-- three lines that meet in the points 1, 2 and 3: the girth is 6
pub fano_girth : IsGirth fano 6
fano_girth =
    record {
      n = 3;
      checks = 0 ∷ 1 ∷ 2 ∷ [];
      bits = 1 ∷ 2 ∷ 3 ∷ [];
      cycle = cycle_if fano 1 (0 ∷ 1 ∷ 2 ∷ []) (1 ∷ 2 ∷ 3 ∷ []) refl refl refl refl refl refl refl;
      edges = refl;
      none_shorter = fano_passes;
    }

-- the bits off the line 0, 1, 3 are a stopping set, of 4 bits: the bound at 6 is reached
abbrev pub off : ℕ → Bool
off b = not (fano.joins 0 b)

pub fano_stops : Stopping fano off
unfolding Stopping bits_of select range count
fano_stops c h e =
    both_ways (eq-eqb (count off (bits_of fano c)) 1 e) (not-true (eqb (count off (bits_of fano c)) 1) (all_at 7 (λ c. not (eqb (count off (bits_of fano c)) 1)) refl c h))

pub fano_four : count off (below 7) ≡ 4
unfolding count range
fano_four = refl

pub fano_bound : 4 ≤ count off (below 7)
fano_bound = stopping_least fano off girth_6 fano_passes fano_three fano_stops 2 (omega arith) refl
