-- MEETING HALFWAY: where no simple cycle has fewer than 2n edges, one of 2n edges is two different walks of n edges from one
-- vertex to the same bit, and two such walks are one. Assumes nothing.
use Prim.Native.Nat.{ℕ, zero, suc, ◌+◌, ◌*◌, ◌-◌, ◌≤◌, ◌<◌}
use mathlib.Core.Path.{◌≡◌, refl, sym, ap, ap₂, subst, ◌∙◌}
use mathlib.Core.Logic.{◌⊎◌, inl, inr, ◌≢◌}
use mathlib.Core.List.{List, [], ◌∷◌, ◌++◌, reverse_aux}
use native.Mathlib.Omega.{arith}
use lib.ListN.{length, length-append, length-reverse_aux}
use Rattle.graph.specs.Count.{Mem, Nodup}
use Rattle.graph.specs.Graph.{Bipartite}
use Rattle.graph.specs.Girth.{SimpleCycle, Passes}
use Rattle.graph.proofs.Lists.{last, last_append, mem_append, dec_nodup}
use Rattle.graph.proofs.Decide.{by_le}
use Rattle.graph.specs.Walks.{Node, check, bit, Adj, Walk}
use Rattle.graph.proofs.Walks.{same?, Cycle, Fork, turn, unturn, core_cycle, diverge}
use Rattle.graph.proofs.Cycles.{both, checks_among, bits_of, walk_cycle, passes_none}
use Rattle.graph.proofs.Closed.{weave, cycle_of, cycle_weave, turn_to}

-- two different walks of n edges from s to one vertex
pub record Meeting (G : Bipartite) (n : ℕ) (s : Node) : Type 0 where
  pub one : List Node
  pub two : List Node
  pub walk_one : Walk G (s ∷ one)
  pub walk_two : Walk G (s ∷ two)
  pub long_one : length one ≡ n
  pub long_two : length two ≡ n
  pub end : Node
  pub ends_one : last s one ≡ end
  pub ends_two : last s two ≡ end
  pub differ : one ≢ two

-- back along l to s, and on along m: the first vertex and the last
first_of : (s : Node) (l m : List Node) (e : Node) (k : List Node) → reverse_aux l (s ∷ m) ≡ e ∷ k → last s l ≡ e
first_of s [] m e k h = cc
first_of s (x ∷ l) m e k h = first_of x l (s ∷ m) e k h

last_of : (s : Node) (l m : List Node) (e : Node) (k : List Node) → reverse_aux l (s ∷ m) ≡ e ∷ k → last e k ≡ last s m
last_of s [] m e k h = let p : s ≡ e = cc in let q : m ≡ k = cc in ap₂ last (sym p) (sym q)
last_of s (x ∷ l) m e k h = last_of x l (s ∷ m) e k h

-- any list, as seen from a vertex n places on
middle : (n : ℕ) (x : Node) (l r : List Node) → n ≤ length r
    → (s : Node) × (m : List Node) × (k : List Node) × (reverse_aux l (x ∷ r) ≡ reverse_aux m (s ∷ k)) × (length m ≡ length l + n) × (length k + n ≡ length r)
middle zero x l r h = (x, l, r, refl, omega arith, omega arith)
middle (suc n) x l [] h = absurd (omega arith)
middle (suc n) x l (y ∷ r) h = let (s, m, k, e, p, q) = middle n y (x ∷ l) r (omega arith) in (s, m, k, e, omega arith, omega arith)

-- what a reversed list has
reverse_same : (l m a b : List Node) → length l ≡ length m → reverse_aux l a ≡ reverse_aux m b → (l ≡ m) × (a ≡ b)
reverse_same [] [] a b h e = (refl, e)
reverse_same [] (y ∷ m) a b h e = absurd (omega arith)
reverse_same (x ∷ l) [] a b h e = absurd (omega arith)
reverse_same (x ∷ l) (y ∷ m) a b h e =
    let (p, q) = reverse_same l m (x ∷ a) (y ∷ b) (omega arith) e in
    let r : x ≡ y = cc in let t : a ≡ b = cc in (ap₂ ◌∷◌ r p, t)

reverse_wider : (v : Node) (m a b : List Node) → (Mem v a → Mem v b) → Mem v (reverse_aux m a) → Mem v (reverse_aux m b)
reverse_wider v [] a b f h = f h
reverse_wider v (x ∷ m) a b f h = reverse_wider v m (x ∷ a) (x ∷ b) (λ i. elim i [ inl q ↦ inl q | inr q ↦ inr (f q) ]) h

reverse_mem : (v : Node) (m a : List Node) → Mem v a → Mem v (reverse_aux m a)
reverse_mem v [] a h = h
reverse_mem v (x ∷ m) a h = reverse_mem v m (x ∷ a) (inr h)

mem_reverse : (v : Node) (m a : List Node) → Mem v (reverse_aux m a) → Mem v m ⊎ Mem v a
mem_reverse v [] a h = inr h
mem_reverse v (x ∷ m) a h =
    elim (mem_reverse v m (x ∷ a) h) [ inl q ↦ inl (inr q) | inr q ↦ elim q [ inl r ↦ inl (inl r) | inr r ↦ inr r ] ]

module _ (G : Bipartite) where
  fork_differ : (l m : List Node) → 0 < length l → 0 < length m → Fork G l m → l ≢ m
  fork_differ [] m h k f = absurd (omega arith)
  fork_differ (x ∷ l) [] h k f = absurd (omega arith)
  fork_differ (x ∷ l) (y ∷ m) h k f = λ e. f (let q : x ≡ y = cc in q)

  -- a walk, from its end
  reversed : (e : Node) (m : List Node) → Walk G (e ∷ m) → (l : List Node) × Walk G (last e m ∷ l) × (reverse_aux m (e ∷ []) ≡ last e m ∷ l) × (length l ≡ length m) × (last (last e m) l ≡ e)
  reversed e m w = go (reverse_aux m (e ∷ [])) refl
    where
      flat : (l : List Node) → Fork G l []
      flat [] = tt
      flat (x ∷ l) = tt

      go : (r : List Node) → reverse_aux m (e ∷ []) ≡ r → (l : List Node) × Walk G (last e m ∷ l) × (reverse_aux m (e ∷ []) ≡ last e m ∷ l) × (length l ≡ length m) × (last (last e m) l ≡ e)
      go [] h = absurd (let z = ap length h in omega (arith, length-reverse_aux m (e ∷ [])))
      go (x ∷ l) h =
          let s = first_of e m [] x l h in
          let k : reverse_aux m (e ∷ []) ≡ last e m ∷ l = h ∙ ap (λ (y : Node). y ∷ l) (sym s) in
          (l, subst (Walk G) k (turn G e m [] w (tt, tt) (flat m)), k, omega (arith, length-reverse_aux m (e ∷ []), ap length h), last_of e m [] (last e m) l k)

  -- a simple cycle is two walks that meet, from any of its vertices, over no others
  pub cycle_meets : (n : ℕ) (cs bs : List ℕ) → SimpleCycle G n cs bs → Passes G (2 * n) → (u : Node) → Mem u (weave cs bs)
      → (m : Meeting G n u) × ((v : Node) → Mem v m.one → Mem v (weave cs bs)) × ((v : Node) → Mem v m.two → Mem v (weave cs bs))
  cycle_meets n cs bs y p u h =
      let (z, s, within) = turn_to G (cycle_of G n cs bs y) u (subst (Mem u) (sym (cycle_weave G n cs bs y)) h) in
      let L = z.rest ++ z.start ∷ [] in
      let size : length L ≡ suc (length z.rest) = length-append z.rest (z.start ∷ []) ∙ omega arith in
      let long : 2 * n ≤ length L = by_le (2 * n) (length L) (λ k. k) (λ k. absurd (passes_none G (2 * n) (length L) p k (shorter z (omega arith)))) in
      let short = z.short in
      let (e, m, k, q, lm, lk) = middle n z.start [] L (omega arith) in
      let (wm, wk, f) = unturn G e m k (subst (Walk G) q z.closed) in
      let em : last e m ≡ z.start = first_of e m k z.start L (sym q) in
      let ek : last e k ≡ z.start = sym (last_of e m k z.start L (sym q)) ∙ last_append z.start z.rest z.start [] in
      let (l₁, w₁, r₁, n₁, t₁) = reversed e m wm in
      let (l₂, w₂, r₂, n₂, t₂) = reversed e k wk in
      let least = y.least in
      let all : (v : Node) → Mem v (reverse_aux m (e ∷ k)) → Mem v (weave cs bs) = λ v i. subst (Mem v) (cycle_weave G n cs bs y) (within v (around v z.start z.rest (subst (Mem v) (sym q) i))) in (
        record {
          one = l₁;
          two = l₂;
          walk_one = subst (λ (x : Node). Walk G (x ∷ l₁)) (em ∙ s) w₁;
          walk_two = subst (λ (x : Node). Walk G (x ∷ l₂)) (ek ∙ s) w₂;
          long_one = omega arith;
          long_two = omega arith;
          end = e;
          ends_one = subst (λ (x : Node). last x l₁ ≡ e) (em ∙ s) t₁;
          ends_two = subst (λ (x : Node). last x l₂ ≡ e) (ek ∙ s) t₂;
          differ = λ i. fork_differ m k (omega arith) (omega arith) f (reverse_same m k (e ∷ []) (e ∷ []) (omega arith) (r₁ ∙ ap₂ ◌∷◌ (em ∙ sym ek) i ∙ sym r₂)).0;
        },
        λ v i. all v (reverse_wider v m (e ∷ []) (e ∷ k) (λ j. elim j [ inl x ↦ inl x | inr x ↦ absurd x ]) (subst (Mem v) (sym r₁) (inr i))),
        λ v i. all v (reverse_mem v m (e ∷ k) (swap v e k (mem_reverse v k (e ∷ []) (subst (Mem v) (sym r₂) (inr i))))),
      )
    where
      shorter : (z : Cycle G (2 * n)) {j : ℕ} → length (z.start ∷ z.rest) ≤ j → Cycle G j
      shorter z h = record { start = z.start; rest = z.rest; closed = z.closed; distinct = z.distinct; long = z.long; short = h }

      around : (v x : Node) (l : List Node) → Mem v (x ∷ l ++ x ∷ []) → Mem v (x ∷ l)
      around v x l (inl q) = inl q
      around v x l (inr m) = elim (mem_append v l (x ∷ []) m) [ inl q ↦ inr q | inr q ↦ elim q [ inl r ↦ inl r | inr r ↦ absurd r ] ]

      swap : (v e : Node) (k : List Node) → Mem v k ⊎ Mem v (e ∷ []) → Mem v (e ∷ k)
      swap v e k (inl m) = inr m
      swap v e k (inr (inl q)) = inl q
      swap v e k (inr (inr q)) = absurd q

  module _ (n : ℕ) (least : 2 ≤ n) (passes : Passes G (2 * n)) where
    -- walks that meet part at once: else they would meet sooner
    parts : (s : Node) (l m : List Node) → Walk G (s ∷ l) → Walk G (s ∷ m) → length l ≡ n → length m ≡ n → last s l ≡ last s m → l ≢ m → Fork G l m
    parts s [] m wl wm h k e d = absurd (omega arith)
    parts s (x ∷ l) [] wl wm h k e d = absurd (omega arith)
    parts s (x ∷ l) (y ∷ m) wl wm h k e d = λ q.
        passes_none G (2 * n) (length l + length m) passes (omega arith)
        (diverge G x l m wl.1 (rw q wm.1) (e ∙ ap (λ (u : Node). last u m) (sym q)) (λ r. d (ap₂ ◌∷◌ q r)))

    -- a closed walk of 2n edges is a simple cycle
    closes : (b : ℕ) (k : List Node) → Walk G (bit b ∷ k) → last (bit b) k ≡ bit b → length k ≡ 2 * n → SimpleCycle G n (checks_among k) (bits_of k)
    unfolding Adj
    closes b [] w e h = absurd (omega arith)
    closes b (bit a ∷ k) w e h = absurd w.0.0
    closes b (check c ∷ k) w e h = go (dec_nodup same? (check c ∷ k))
      where
        go : Dec (Nodup (check c ∷ k)) → SimpleCycle G n (checks_among (check c ∷ k)) (bits_of (check c ∷ k))
        go (yes d) =
            let y = walk_cycle G c k w.1 (rw e w.0.0) d (omega arith) in
            let size : length (checks_among (check c ∷ k)) ≡ n = omega (arith, both (check c ∷ k), y.n_bits) in
            rw size at y
        go (no d) = absurd (passes_none G (2 * n) (2 * n - 1) passes (omega arith) (core_cycle G (check c ∷ k) (2 * n - 1) w.1 d (omega arith)))

    -- back along one of two walks that meet, and on along the other
    pub meeting_cycle : (s : Node) (m : Meeting G n s) (b : ℕ) → m.end ≡ bit b → (k : List Node) → reverse_aux m.one (s ∷ m.two) ≡ bit b ∷ k → SimpleCycle G n (checks_among k) (bits_of k)
    meeting_cycle s m b h k e =
        let f = parts s m.one m.two m.walk_one m.walk_two m.long_one m.long_two (m.ends_one ∙ sym m.ends_two) m.differ in
        closes b k (subst (Walk G) e (turn G s m.one m.two m.walk_one m.walk_two f))
        (last_of s m.one m.two (bit b) k e ∙ m.ends_two ∙ h)
        (omega (arith, length-reverse_aux m.one (s ∷ m.two), ap length e, m.long_one, m.long_two))
