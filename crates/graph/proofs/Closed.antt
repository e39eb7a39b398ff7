-- The other way: a simple cycle of lists is a closed non-backtracking walk, and a closed walk may start at any of its vertices.
-- Assumes nothing.
use Prim.Native.Nat.{ℕ, suc, ◌*◌, ◌≤◌, ◌<◌, pred}
use mathlib.Core.Path.{◌≡◌, refl, sym, ap, subst, ◌∙◌}
use mathlib.Core.Logic.{◌⊎◌, inl, inr, ◌≢◌, ◌↔◌}
use mathlib.Core.List.{List, [], ◌∷◌, ◌++◌, append_assoc}
use native.Mathlib.Omega.{arith}
use native.Mathlib.Decide.{dec_le}
use lib.ListN.{length, get_or, length-append}
use Rattle.graph.specs.Count.{Mem, Nodup}
use Rattle.graph.specs.Graph.{Bipartite, Joined}
use Rattle.graph.specs.Girth.{SimpleCycle, Passes}
use Rattle.graph.proofs.Lists.{get_or_nodup, nodup_turn, mem_append, place, last, last_mem, last_append}
use Rattle.graph.specs.Walks.{Node, check, bit, Adj, Walk, Apart}
use Rattle.graph.proofs.Walks.{check_inj, bit_inj, check_not_bit, Cycle, fork}
use Rattle.graph.proofs.Cycles.{passes_none, Ring, front}

ring_from : (G : Bipartite) (z : ℕ) (cs bs : List ℕ) → length cs ≡ length bs → ((k : ℕ) → k < length cs → Joined G (get_or cs k 0) (get_or bs k 0)) → ((k : ℕ) → suc k < length cs → Joined G (get_or cs (suc k) 0) (get_or bs k 0)) → (0 < length cs → Joined G z (get_or bs (pred (length cs)) 0)) → Ring G z cs bs
unfolding Ring
ring_from G z [] [] e f g h = tt
ring_from G z [] (b ∷ bs) e f g h = absurd (omega arith)
ring_from G z (c ∷ cs) [] e f g h = absurd (omega arith)
ring_from G z (c ∷ []) (b ∷ []) e f g h = (f 0 (omega arith), h (omega arith), tt)
ring_from G z (c ∷ []) (b ∷ a ∷ bs) e f g h = absurd (omega arith)
ring_from G z (c ∷ d ∷ cs) (b ∷ bs) e f g h = (f 0 (omega arith), g 0 (omega arith), ring_from G z (d ∷ cs) bs (omega arith) (λ k i. f (suc k) (omega arith)) (λ k i. g (suc k) (omega arith)) (λ i. h (omega arith)))

-- the vertices of a ring in order
unfoldable pub weave : List ℕ → List ℕ → List Node
weave [] bs = []
weave (c ∷ cs) [] = []
weave (c ∷ cs) (b ∷ bs) = check c ∷ bit b ∷ weave cs bs

pub weave_check : (c : ℕ) (cs bs : List ℕ) → Mem (check c) (weave cs bs) → Mem c cs
unfolding weave
weave_check c [] bs m = m
weave_check c (d ∷ cs) [] m = absurd m
weave_check c (d ∷ cs) (b ∷ bs) (inl e) = inl (check_inj c d e)
weave_check c (d ∷ cs) (b ∷ bs) (inr (inl e)) = absurd (check_not_bit c b e)
weave_check c (d ∷ cs) (b ∷ bs) (inr (inr m)) = inr (weave_check c cs bs m)

pub weave_bit : (b : ℕ) (cs bs : List ℕ) → Mem (bit b) (weave cs bs) → Mem b bs
unfolding weave
weave_bit b [] bs m = absurd m
weave_bit b (d ∷ cs) [] m = m
weave_bit b (d ∷ cs) (a ∷ bs) (inl e) = absurd (check_not_bit d b (sym e))
weave_bit b (d ∷ cs) (a ∷ bs) (inr (inl e)) = inl (bit_inj b a e)
weave_bit b (d ∷ cs) (a ∷ bs) (inr (inr m)) = inr (weave_bit b cs bs m)

pub bit_weave : (b : ℕ) (cs bs : List ℕ) → length cs ≡ length bs → Mem b bs → Mem (bit b) (weave cs bs)
unfolding weave
bit_weave b [] [] e m = m
bit_weave b [] (a ∷ bs) e m = absurd (omega arith)
bit_weave b (d ∷ cs) [] e m = absurd m
bit_weave b (d ∷ cs) (a ∷ bs) e (inl h) = inr (inl (ap bit h))
bit_weave b (d ∷ cs) (a ∷ bs) e (inr m) = inr (inr (bit_weave b cs bs (omega arith) m))

pub check_weave : (c : ℕ) (cs bs : List ℕ) → length cs ≡ length bs → Mem c cs → Mem (check c) (weave cs bs)
unfolding weave
check_weave c [] bs e m = m
check_weave c (d ∷ cs) [] e m = absurd (omega arith)
check_weave c (d ∷ cs) (b ∷ bs) e (inl h) = inl (ap check h)
check_weave c (d ∷ cs) (b ∷ bs) e (inr m) = inr (inr (check_weave c cs bs (omega arith) m))

weave_nodup : (cs bs : List ℕ) → Nodup cs → Nodup bs → Nodup (weave cs bs)
unfolding weave
weave_nodup [] bs p q = tt
weave_nodup (c ∷ cs) [] p q = tt
weave_nodup (c ∷ cs) (b ∷ bs) p q = (fresh, (λ m. q.0 (weave_bit b cs bs m), weave_nodup cs bs p.1 q.1))
  where
    fresh : ¬ Mem (check c) (bit b ∷ weave cs bs)
    fresh (inl e) = check_not_bit c b e
    fresh (inr m) = p.0 (weave_check c cs bs m)

weave_length : (cs bs : List ℕ) → length cs ≡ length bs → length (weave cs bs) ≡ 2 * length cs
unfolding weave
weave_length [] bs e = refl
weave_length (c ∷ cs) [] e = absurd (omega arith)
weave_length (c ∷ cs) (b ∷ bs) e = omega (arith, weave_length cs bs (omega arith))

-- the walk along a ring to the check z
weave_walk : (G : Bipartite) (z c b : ℕ) (cs bs : List ℕ) → Ring G z (c ∷ cs) (b ∷ bs) → c ≢ front cs z → Nodup cs → ¬ Mem z cs → Nodup (b ∷ bs) → Walk G (check c ∷ bit b ∷ weave cs bs ++ check z ∷ [])
unfolding weave Ring Adj
weave_walk G z c b [] bs r n p q d = ((r.0, λ e. n (check_inj c z e)), ((r.1, tt), (tt, tt)))
weave_walk G z c b (c' ∷ cs) [] r n p q d = absurd r.2
weave_walk G z c b (c' ∷ cs) (b' ∷ bs) r n p q d = ((r.0, λ e. n (check_inj c c' e)), ((r.1, λ e. d.0 (inl (bit_inj b b' e))), weave_walk G z c' b' cs bs r.2 (other cs p.0) p.1 (λ m. q (inr m)) d.1))
  where
    other : (l : List ℕ) → ¬ Mem c' l → c' ≢ front l z
    other [] h = λ e. q (inl (sym e))
    other (x ∷ l) h = λ e. h (inl e)

-- a simple cycle of lists is one of the graph
pub cycle_of : (G : Bipartite) (n : ℕ) (cs bs : List ℕ) → SimpleCycle G n cs bs → Cycle G (2 * n)
unfolding weave
cycle_of G n [] bs y = absurd (omega (arith, y.least, y.n_checks))
cycle_of G n (c ∷ []) bs y = absurd (omega (arith, y.least, y.n_checks))
cycle_of G n (c ∷ d ∷ cs) [] y = absurd (omega (arith, y.least, y.n_bits))
cycle_of G n (c ∷ d ∷ cs) (b ∷ bs) y =
    let e : length (c ∷ d ∷ cs) ≡ n = y.n_checks in
    let f : length (b ∷ bs) ≡ n = y.n_bits in
    let p : Nodup (c ∷ d ∷ cs) = get_or_nodup (c ∷ d ∷ cs) 0 (λ i j h k. y.checks_differ i j h (omega arith)) in
    let q : Nodup (b ∷ bs) = get_or_nodup (b ∷ bs) 0 (λ i j h k. y.bits_differ i j h (omega arith)) in
    let r : Ring G c (c ∷ d ∷ cs) (b ∷ bs) = ring_from G c (c ∷ d ∷ cs) (b ∷ bs) (omega arith) (λ k h. y.forth k (omega arith)) (λ k h. y.back k (omega arith)) (λ h. rw (← e) at y.closes) in
    record {
      start = check c;
      rest = bit b ∷ weave (d ∷ cs) bs;
      closed = weave_walk G c c b (d ∷ cs) bs r (λ k. p.0 (inl k)) p.1 p.0 q;
      distinct = weave_nodup (c ∷ d ∷ cs) (b ∷ bs) p q;
      long = omega (arith, weave_length (d ∷ cs) bs (omega arith));
      short = omega (arith, weave_length (d ∷ cs) bs (omega arith));
    }

pub cycle_weave : (G : Bipartite) (n : ℕ) (cs bs : List ℕ) (y : SimpleCycle G n cs bs) → (cycle_of G n cs bs y).start ∷ (cycle_of G n cs bs y).rest ≡ weave cs bs
unfolding cycle_of weave
cycle_weave G n [] bs y = absurd (omega (arith, y.least, y.n_checks))
cycle_weave G n (c ∷ []) bs y = absurd (omega (arith, y.least, y.n_checks))
cycle_weave G n (c ∷ d ∷ cs) [] y = absurd (omega (arith, y.least, y.n_bits))
cycle_weave G n (c ∷ d ∷ cs) (b ∷ bs) y = refl

-- the verdict, in both forms
pub passes_iff : (G : Bipartite) (t : ℕ) → Passes G t ↔ ((m : ℕ) → m < t → Cycle G m → ⊥)
unfolding Passes
passes_iff G t = (λ p m h y. passes_none G t m p h y, λ h n cs bs y. elim (dec_le t (2 * n)) [ yes k ↦ k | no k ↦ absurd (h (2 * n) (omega arith) (cycle_of G n cs bs y)) ])

module _ (G : Bipartite) where
  -- one vertex more at the end of a walk
  walk_more : (u : Node) (l : List Node) (s x : Node) → Walk G (u ∷ l ++ s ∷ []) → Adj G s x → last u l ≢ x → Walk G (u ∷ l ++ s ∷ x ∷ [])
  walk_more u [] s x w a d = ((w.0.0, d), ((a, tt), (tt, tt)))
  walk_more u (v ∷ l) s x w a d = ((w.0.0, same l w.0.1), walk_more v l s x w.1 a d)
    where
      same : (l : List Node) → Apart u (l ++ s ∷ []) → Apart u (l ++ s ∷ x ∷ [])
      same [] h = h
      same (y ∷ l) h = h

  -- the same cycle from its next vertex on
  turned : {n : ℕ} (y : Cycle G n) → (z : Cycle G n) × (z.start ∷ z.rest ≡ y.rest ++ y.start ∷ [])
  turned {n} y = go y.start y.rest y.closed y.distinct y.long y.short
    where
      end : (x : Node) (l : List Node) → 2 ≤ length (x ∷ l) → Mem (last x l) l
      end x [] h = absurd (omega arith)
      end x (v ∷ l) h = last_mem v l

      go : (s : Node) (r : List Node) → Walk G (s ∷ r ++ s ∷ []) → Nodup (s ∷ r) → 3 ≤ length (s ∷ r) → length (s ∷ r) ≤ n → (z : Cycle G n) × (z.start ∷ z.rest ≡ r ++ s ∷ [])
      go s [] w d h k = absurd (omega arith)
      go s (x ∷ l) w d h k = (
        record {
          start = x;
          rest = l ++ s ∷ [];
          closed = rw append_assoc (walk_more x l s x w.1 w.0.0 (λ e. d.1.0 (rw e at (end x l (omega arith)))));
          distinct = nodup_turn s (x ∷ l) d;
          long = rw length-append (omega arith);
          short = rw length-append (omega arith);
        },
        refl,
      )

  turn_past : {n : ℕ} (p : List Node) (y : Cycle G n) (u : Node) (q : List Node) → y.start ∷ y.rest ≡ p ++ u ∷ q
      → (z : Cycle G n) × (z.start ≡ u) × ((v : Node) → Mem v (z.start ∷ z.rest) → Mem v (y.start ∷ y.rest))
  turn_past [] y u q e = (y, (cc), λ v m. m)
  turn_past (x ∷ p) y u q e =
      let (z, h) = turned y in
      let r : y.rest ≡ p ++ u ∷ q = cc in
      let (t, s, f) = turn_past p z u (q ++ y.start ∷ []) (h ∙ ap (λ (l : List Node). l ++ y.start ∷ []) r ∙ append_assoc p (u ∷ q) (y.start ∷ [])) in
      (t, s, λ v m. back v (mem_append v y.rest (y.start ∷ []) (subst (Mem v) h (f v m))))
    where
      back : (v : Node) → Mem v y.rest ⊎ Mem v (y.start ∷ []) → Mem v (y.start ∷ y.rest)
      back v (inl m) = inr m
      back v (inr (inl h)) = inl h
      back v (inr (inr h)) = absurd h

  -- a cycle may start at any of its vertices, and passes the same ones
  pub turn_to : {n : ℕ} (y : Cycle G n) (u : Node) → Mem u (y.start ∷ y.rest)
      → (z : Cycle G n) × (z.start ≡ u) × ((v : Node) → Mem v (z.start ∷ z.rest) → Mem v (y.start ∷ y.rest))
  turn_to y u m = let p = place u (y.start ∷ y.rest) y.distinct m in turn_past p.before y u p.after p.whole

-- A closed non-backtracking walk from bit b: what a search from the bits looks for.
pub record ClosedAt (G : Bipartite) (b : ℕ) (l : List Node) : Type 0 where
  pub walk : Walk G (bit b ∷ l)
  pub back : last (bit b) l ≡ bit b
  pub moves : 0 < length l

module _ (G : Bipartite) where
  closed_cycle : (b : ℕ) (l : List Node) → ClosedAt G b l → Cycle G (length l)
  closed_cycle b [] y = absurd (omega (arith, y.moves))
  closed_cycle b (v ∷ l) y = fork G (bit b) [] v l _ (tt, tt) y.walk tt (sym y.back) (omega arith)

  -- a simple cycle is a closed walk from any of its bits
  cycle_at : (n : ℕ) (cs bs : List ℕ) → SimpleCycle G n cs bs → (b : ℕ) → Mem b bs → (l : List Node) × ClosedAt G b l × (length l ≤ 2 * n)
  cycle_at n cs bs y b m =
      let (z, s, f) = turn_to G (cycle_of G n cs bs y) (bit b) (subst (Mem (bit b)) (sym (cycle_weave G n cs bs y)) (bit_weave b cs bs (y.n_checks ∙ sym y.n_bits) m)) in (
        z.rest ++ bit b ∷ [],
        record { walk = rw s at z.closed; back = last_append (bit b) z.rest (bit b) []; moves = rw length-append (omega arith) },
        rw length-append (omega (arith, z.short)),
      )

  -- the verdict by closed walks from the bits
  pub passes_walks : (t : ℕ) → Passes G t ↔ ((b : ℕ) (l : List Node) → ClosedAt G b l → t ≤ length l)
  unfolding Passes
  passes_walks t = (
    λ p b l y. elim (dec_le t (length l)) [ yes k ↦ k | no k ↦ absurd (passes_none G t (length l) p (omega arith) (closed_cycle b l y)) ],
    λ h n cs bs y. walks h n cs bs y,
  )
    where
      walks : ((b : ℕ) (l : List Node) → ClosedAt G b l → t ≤ length l) → (n : ℕ) (cs bs : List ℕ) → SimpleCycle G n cs bs → t ≤ 2 * n
      walks h n cs [] y = absurd (omega (arith, y.least, y.n_bits))
      walks h n cs (b ∷ bs) y = let (l, z, k) = cycle_at n cs (b ∷ bs) y b (inl refl) in omega (arith, h b l z)
