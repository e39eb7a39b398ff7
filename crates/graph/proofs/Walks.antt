-- Walks that never step back in the graph of checks and bits, and the cycle in a walk that meets itself: the core lemma and divergence.
-- Assumes nothing.
use Prim.Native.Nat.{ℕ, suc, ◌+◌, ◌≤◌}
use mathlib.Core.Path.{◌≡◌, refl, sym, subst, ap, ap₂}
use mathlib.Core.Logic.{inr, ◌≢◌}
use mathlib.Core.List.{List, [], ◌∷◌, ◌++◌, reverse_aux, append_assoc}
use native.Mathlib.Omega.{arith}
use native.Mathlib.Decide.{ℕ_discrete}
use lib.ListN.{length, length-append, length-reverse_aux}
use Rattle.graph.specs.Count.{Mem, Nodup}
use Rattle.graph.specs.Graph.{Bipartite}
use Rattle.graph.specs.Walks.{Node, check, bit, Node-discrete, Adj, Apart, Walk, Next}
use Rattle.graph.proofs.Lists.{last, nodup_left, last_mem, Place, place, dec_mem, dec_nodup}

pub check_inj : (a b : ℕ) → check a ≡ check b → a ≡ b
check_inj a b e = cc

pub bit_inj : (a b : ℕ) → bit a ≡ bit b → a ≡ b
bit_inj a b e = cc

pub check_not_bit : (a b : ℕ) → check a ≡ bit b → ⊥
check_not_bit a b e = let z : ◌≡◌ {A = ℕ} 0 1 = cc in omega arith

pub same? : Discrete Node
same? = Node-discrete ℕ_discrete

pub adj_sym : (G : Bipartite) (u v : Node) → Adj G u v → Adj G v u
unfolding Adj
adj_sym G (check c) (check d) e = e
adj_sym G (check c) (bit b) e = e
adj_sym G (bit b) (check c) e = e
adj_sym G (bit a) (bit b) e = e

pub adj_irr : (G : Bipartite) (u : Node) → ¬ Adj G u u
unfolding Adj
adj_irr G (check c) e = e
adj_irr G (bit b) e = e

-- A closed part of a list: it comes back to its first vertex, and has at least three vertices, all distinct.
pub record Part (w : List Node) : Type 0 where
  pub before : List Node
  pub start : Node
  pub rest : List Node
  pub after : List Node
  pub whole : w ≡ before ++ (start ∷ rest ++ start ∷ after)
  pub distinct : Nodup (start ∷ rest)
  pub long : 3 ≤ length (start ∷ rest)

-- A simple cycle of at most n edges, written as the closed walk start ∷ rest ++ [start].
pub record Cycle (G : Bipartite) (n : ℕ) : Type 0 where
  pub start : Node
  pub rest : List Node
  pub closed : Walk G (start ∷ rest ++ start ∷ [])
  pub distinct : Nodup (start ∷ rest)
  pub long : 3 ≤ length (start ∷ rest)
  pub short : length (start ∷ rest) ≤ n

module _ (G : Bipartite) where
  next_left : (u : Node) (p q : List Node) → Next G u (p ++ q) → Next G u p
  next_left u [] q w = tt
  next_left u (v ∷ []) q w = (w.0, tt)
  next_left u (v ∷ x ∷ p) q w = w

  pub walk_left : (p q : List Node) → Walk G (p ++ q) → Walk G p
  walk_left [] q w = tt
  walk_left (u ∷ p) q w = (next_left u p q w.0, walk_left p q w.1)

  pub walk_right : (p q : List Node) → Walk G (p ++ q) → Walk G q
  walk_right [] q w = w
  walk_right (u ∷ p) q w = walk_right p q w.1

  long_part : (u : Node) (p q : List Node) → Walk G (u ∷ p ++ u ∷ q) → 3 ≤ length (u ∷ p)
  long_part u [] q w = absurd (adj_irr G u w.0.0)
  long_part u (v ∷ []) q w = absurd (w.0.1 refl)
  long_part u (v ∷ x ∷ p) q w = omega arith

  -- THE CORE LEMMA: a non-backtracking walk in which some vertex occurs twice has a closed part
  pub core : (w : List Node) → Walk G w → ¬ Nodup w → Part w
  core [] w d = absurd (d tt)
  core (u ∷ l) w d = step (dec_nodup same? l) (dec_mem same? u l) (λ h. core l w.1 h)
    where
      shift : Part l → Part (u ∷ l)
      shift p = record { before = u ∷ p.before; start = p.start; rest = p.rest; after = p.after; whole = ap (λ (z : List Node). u ∷ z) p.whole; distinct = p.distinct; long = p.long }

      here : Nodup l → Place u l → Part (u ∷ l)
      here n p =
          record {
            before = [];
            start = u;
            rest = p.before;
            after = p.after;
            whole = ap (λ (z : List Node). u ∷ z) p.whole;
            distinct = (p.fresh, nodup_left p.before (u ∷ p.after) (rw p.whole at n));
            long = long_part u p.before p.after (rw p.whole at w);
          }

      step : Dec (Nodup l) → Dec (Mem u l) → (¬ Nodup l → Part l) → Part (u ∷ l)
      step (no h) _ rec = shift (rec h)
      step (yes n) (yes m) rec = here n (place u l n m)
      step (yes n) (no h) rec = absurd (d (h, n))

  -- the same as a cycle of the graph, no longer than the walk
  pub core_cycle : (w : List Node) (n : ℕ) → Walk G w → ¬ Nodup w → length w ≤ suc n → Cycle G n
  core_cycle l n w d h = go (core l w d)
    where
      go : Part l → Cycle G n
      go p =
          let round : List Node = p.start ∷ p.rest in
          let w₁ : Walk G (p.before ++ (round ++ p.start ∷ p.after)) = rw p.whole at w in
          record {
            start = p.start;
            rest = p.rest;
            closed = walk_left (round ++ p.start ∷ []) p.after (rw (append_assoc p.rest (p.start ∷ []) p.after) (walk_right p.before (round ++ p.start ∷ p.after) w₁));
            distinct = p.distinct;
            long = p.long;
            short = omega (arith, simp length-append at (ap length p.whole));
          }

  -- the last vertex before v on a walk is joined to v
  pub last_adj : (u : Node) (p : List Node) (v : Node) (q : List Node) → Walk G (u ∷ p ++ v ∷ q) → Adj G (last u p) v
  last_adj u [] v q w = w.0.0
  last_adj u (x ∷ p) v q w = last_adj x p v q w.1

  -- the first vertices of l and r differ, if both have one
  abbrev pub Fork : List Node → List Node → Type 0
  Fork [] r = Unit {0}
  Fork (x ∷ l) r = Apart x r

  -- back along one walk, and on along the other
  pub turn : (u : Node) (l r : List Node) → Walk G (u ∷ l) → Walk G (u ∷ r) → Fork l r → Walk G (reverse_aux l (u ∷ r))
  turn u [] r wl wr f = wr
  turn u (x ∷ l) r wl wr f = turn x l (u ∷ r) wl.1 ((adj_sym G u x wl.0.0, f), wr) (flip l wl.0.1)
    where
      flip : (l : List Node) → Apart u l → Fork l (u ∷ r)
      flip [] h = tt
      flip (y ∷ l) h = λ e. h (sym e)

  -- and the other way: a walk through u is one back to its first vertex and one on to its last
  pub unturn : (u : Node) (l r : List Node) → Walk G (reverse_aux l (u ∷ r)) → Walk G (u ∷ l) × Walk G (u ∷ r) × Fork l r
  unturn u [] r w = ((tt, tt), w, tt)
  unturn u (x ∷ l) r w = let (a, b, f) = unturn x l (u ∷ r) w in (((adj_sym G x u b.0.0, flip l f), a), b.1, b.0.1)
    where
      flip : (l : List Node) → Fork l (u ∷ r) → Apart u l
      flip [] h = tt
      flip (y ∷ l) h = λ e. h (sym e)

  twice : (u : Node) (l r : List Node) → Mem (last u l) r → ¬ Nodup (reverse_aux l (u ∷ r))
  twice u [] r m d = d.0 m
  twice u (x ∷ l) r m d = twice x l (u ∷ r) (inr m) d

  -- two walks that part at s and end at the same vertex
  pub fork : (s : Node) (l : List Node) (y : Node) (m : List Node) (n : ℕ) → Walk G (s ∷ l) → Walk G (s ∷ y ∷ m) → Fork l (y ∷ m) → last s l ≡ last y m → length l + length (y ∷ m) ≤ n → Cycle G n
  fork s l y m n wl wm f e h = core_cycle (reverse_aux l (s ∷ y ∷ m)) n (turn s l (y ∷ m) wl wm f) (twice s l (y ∷ m) (subst (λ (x : Node). Mem x (y ∷ m)) (sym e) (last_mem y m))) (rw length-reverse_aux (omega arith))

  -- THE DIVERGENCE LEMMA: two different non-backtracking walks with the same ends
  pub diverge : (s : Node) (l m : List Node) → Walk G (s ∷ l) → Walk G (s ∷ m) → last s l ≡ last s m → l ≢ m → Cycle G (length l + length m)
  diverge s [] [] wl wm e d = absurd (d refl)
  diverge s [] (y ∷ m) wl wm e d = fork s [] y m _ wl wm tt e (omega arith)
  diverge s (x ∷ l) [] wl wm e d = fork s [] x l _ wm wl tt (sym e) (omega arith)
  diverge s (x ∷ l) (y ∷ m) wl wm e d = step (same? x y) (λ (w : Walk G (x ∷ m)) (k : last x l ≡ last x m) (h : l ≢ m). diverge x l m wl.1 w k h)
    where
      wider : {a b : ℕ} → a ≤ b → Cycle G a → Cycle G b
      wider h c = record { start = c.start; rest = c.rest; closed = c.closed; distinct = c.distinct; long = c.long; short = omega arith }

      step : Dec (x ≡ y) → (Walk G (x ∷ m) → last x l ≡ last x m → l ≢ m → Cycle G (length l + length m)) → Cycle G (length (x ∷ l) + length (y ∷ m))
      step (no h) rec = fork s (x ∷ l) y m _ wl wm h e (omega arith)
      step (yes h) rec = wider (omega arith) (rec (rw h wm.1) (rw (← h) at e) (λ k. d (ap₂ ◌∷◌ h k)))
