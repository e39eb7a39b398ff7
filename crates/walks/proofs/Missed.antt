-- Where a round finds nothing there is no cycle of that size: a cycle, turned so that its lowest bit or its lowest check is a root,
-- would have been met. Assumes nothing.
use Prim.Native.Nat.{ℕ, suc, ◌-◌, ◌*◌, ◌/◌, ◌≤◌, ◌<◌, ◌%◌}
use mathlib.Core.Path.{◌≡◌, sym, ap, subst, ◌∙◌}
use mathlib.Core.Logic.{inl, inr}
use mathlib.Core.List.{List, [], ◌∷◌, map}
use Rattle.std.specs.Prelude.{None}
use native.Mathlib.Omega.{arith}
use lib.IntN.{ℤ}
use lib.ListN.{length}
use Rattle.graph.specs.Count.{Mem}
use Rattle.graph.specs.Graph.{Bipartite}
use Rattle.graph.proofs.Decide.{by_eq}
use Rattle.graph.proofs.Lists.{last, least_of, mem_image, each_image}
use Rattle.graph.specs.Walks.{Node, check, bit, Adj, Walk}
use Rattle.graph.specs.Girth.{SimpleCycle, Passes}
use Rattle.graph.proofs.Closed.{weave, weave_check, weave_bit, bit_weave, check_weave}
use Rattle.graph.proofs.Meeting.{Meeting, cycle_meets}
use Rattle.exponent.specs.declared.Shape.{Shape}
use Rattle.exponent.specs.Tanner.{graph_of, turn}
use Rattle.exponent.proofs.Numbers.{block_of_law}
use Rattle.exponent.proofs.Turning.{turn_block, turn_cycle, turn_home}
use Rattle.walks.specs.Steps.{Blocks, blocks_of}
use Rattle.walks.specs.Ways.{Way, corner, roots, ways}
use Rattle.walks.specs.Meeting.{repeat, join, meeting, short_cycle}
use Rattle.walks.proofs.Link.{at_0, edge_over}
use Rattle.walks.proofs.Ways.{From, OffRow, OffColumn, listed_bit, listed_check}
use Rattle.walks.proofs.Repeats.{none_twice}
use Rattle.walks.proofs.Nodes.{nodes}
use Rattle.walks.proofs.Answers.{none_at, missed}
use Rattle.walks.proofs.Roots.{even_round, odd_round, halves, even_end, odd_end, even_ways, odd_ways}

module _ (plan : List ℤ) (s : Shape) (some_lift : 0 < s.lift) where
  abbrev P : ℕ
  P = s.lift

  abbrev G : Bipartite
  G = graph_of plan s

  abbrev B : Blocks
  B = blocks_of plan s

  -- MET: where a round finds nothing, there is no cycle of that size

  nothing_at : (n : ℕ) → short_cycle B n ≡ None → (k : ℕ) → k < roots B n → repeat [] (ways B n k) ≡ None
  unfolding short_cycle meeting
  nothing_at n e k low = missed (ways B n k) (join B n k) (none_at (meeting B n) (roots B n) 0 e k (omega arith) (omega arith))

  no_two : (n : ℕ) → short_cycle B n ≡ None → (k : ℕ) → k < roots B n → (l m : List Node) (e : ℕ) → (w v : Way) → Mem w (ways B n k) → Mem v (ways B n k)
      → nodes w.joints ≡ l → nodes v.joints ≡ m → w.end ≡ e → v.end ≡ e → l ≡ m
  no_two n None-found k low l m e w v a b p q f g =
      sym p ∙ ap (λ (x : Way). nodes x.joints) (none_twice [] (ways B n k) (nothing_at n None-found k low) w v a b (f ∙ sym g)) ∙ q

  off_row : (z : ℕ) (l : List Node) → Walk G (bit z ∷ l) → OffRow P (at_0 s s.rows) l
  unfolding Adj
  off_row z [] w = tt
  off_row z (bit a ∷ l) w = tt
  off_row z (check f ∷ l) w = λ e. omega (arith, (edge_over plan s some_lift f z w.0.0).row, block_of_law P some_lift s.rows 0 some_lift)

  off_column : (c : ℕ) (l : List Node) → Walk G (check c ∷ l) → OffColumn P (at_0 s s.cols) l
  unfolding Adj
  off_column c [] w = tt
  off_column c (check f ∷ l) w = tt
  off_column c (bit a ∷ l) w = λ e. omega (arith, (edge_over plan s some_lift c a w.0.0).col, block_of_law P some_lift s.cols 0 some_lift)

  low_bit : (k : ℕ) (l : List Node) → 0 < length l → Walk G (bit (at_0 s k) ∷ l) → k < s.cols
  unfolding Adj
  low_bit k [] h w = absurd (omega arith)
  low_bit k (bit a ∷ l) h w = absurd w.0.0
  low_bit k (check f ∷ l) h w = omega (arith, (edge_over plan s some_lift f (at_0 s k) w.0.0).col, block_of_law P some_lift k 0 some_lift)

  low_check : (k : ℕ) (l : List Node) → 0 < length l → Walk G (check (at_0 s k) ∷ l) → k < s.rows
  unfolding Adj
  low_check k [] h w = absurd (omega arith)
  low_check k (check f ∷ l) h w = absurd w.0.0
  low_check k (bit a ∷ l) h w = omega (arith, (edge_over plan s some_lift (at_0 s k) a w.0.0).row, block_of_law P some_lift k 0 some_lift)

  none_bit : (n d : ℕ) → n ≡ 2 * d → 2 ≤ n → short_cycle B n ≡ None → (k : ℕ) (m : Meeting G n (bit (at_0 s k)))
      → ((v : Node) → Mem v m.one → From P (corner 0 k) v) → ((v : Node) → Mem v m.two → From P (corner 0 k) v) → ⊥
  none_bit n d even two None-found k m over-one over-two =
      let z = at_0 s k in
      let t = (even_round n d even).0 in
      let low = low_bit k m.one (omega (arith, m.long_one)) m.walk_one in
      let long : length m.one ≡ 2 * d = m.long_one ∙ even in
      let (e, h) = even_end G z m.one d m.walk_one long in
      let same : last (bit z) m.two ≡ bit e = m.ends_two ∙ sym m.ends_one ∙ h in
      let (w, a, p, f) = listed_bit plan s some_lift (corner 0 k) d (at_0 s s.rows) z m.one e m.walk_one over-one (off_row z m.one m.walk_one) long h in
      let (v, b, q, g) = listed_bit plan s some_lift (corner 0 k) d (at_0 s s.rows) z m.two e m.walk_two over-two (off_row z m.two m.walk_two) (m.long_two ∙ even) same in
      m.differ (no_two n None-found k (rw t low) m.one m.two e w v (subst (Mem w) (sym (even_ways plan s some_lift n d k even)) a) (subst (Mem v) (sym (even_ways plan s some_lift n d k even)) b) p q f g)

  none_check : (n d : ℕ) → n ≡ suc (2 * d) → 2 ≤ n → short_cycle B n ≡ None → (k : ℕ) (m : Meeting G n (check (at_0 s k)))
      → ((v : Node) → Mem v m.one → From P (corner k 0) v) → ((v : Node) → Mem v m.two → From P (corner k 0) v) → ⊥
  none_check n d uneven two None-found k m over-one over-two =
      let c = at_0 s k in
      let t = (odd_round n d uneven).0 in
      let low = low_check k m.one (omega (arith, m.long_one)) m.walk_one in
      let long : length m.one ≡ suc (2 * d) = m.long_one ∙ uneven in
      let (e, h) = odd_end G c m.one d m.walk_one long in
      let same : last (check c) m.two ≡ bit e = m.ends_two ∙ sym m.ends_one ∙ h in
      let (w, a, p, f) = listed_check plan s some_lift (corner k 0) d (at_0 s s.cols) c m.one e m.walk_one over-one (off_column c m.one m.walk_one) long h in
      let (v, b, q, g) = listed_check plan s some_lift (corner k 0) d (at_0 s s.cols) c m.two e m.walk_two over-two (off_column c m.two m.walk_two) (m.long_two ∙ uneven) same in
      let all = no_two n None-found k (rw t low) (check c ∷ m.one) (check c ∷ m.two) e w v (subst (Mem w) (sym (odd_ways plan s some_lift n d k uneven)) a) (subst (Mem v) (sym (odd_ways plan s some_lift n d k uneven)) b) p q f g in
      m.differ (let z : m.one ≡ m.two = cc in z)

  -- a cycle, turned so that its lowest bit, or its lowest check, has voltage 0, would have been met

  no_even : (n d : ℕ) → n ≡ 2 * d → short_cycle B n ≡ None → Passes G (2 * n) → (cs bs : List ℕ) → SimpleCycle G n cs bs → ⊥
  no_even n d even e passes cs [] y = omega (arith, y.least, y.n_bits)
  no_even n d even e passes cs (x ∷ bs) y =
      let (b, in-cycle, least) = least_of (λ a. a / P) x bs in
      let i = P - b % P in
      let z = turn_cycle P some_lift i plan s.rows s.cols n cs (x ∷ bs) y in
      let home : turn P i b ≡ at_0 s (b / P) = turn_home P some_lift b ∙ omega arith in
      let inside = bit_weave (turn P i b) (map (turn P i) cs) (map (turn P i) (x ∷ bs)) (z.n_checks ∙ sym z.n_bits) (mem_image (turn P i) b (x ∷ bs) in-cycle) in
      let (m, one, two) = cycle_meets G n (map (turn P i) cs) (map (turn P i) (x ∷ bs)) z passes (bit (at_0 s (b / P))) (subst (λ (a : ℕ). Mem (bit a) (weave (map (turn P i) cs) (map (turn P i) (x ∷ bs)))) home inside) in
      none_bit n d even y.least e (b / P) m (λ v h. high b i least v (one v h)) (λ v h. high b i least v (two v h))
    where
      high : (b i : ℕ) → ((a : ℕ) → Mem a (x ∷ bs) → b / P ≤ a / P) → (v : Node) → Mem v (weave (map (turn P i) cs) (map (turn P i) (x ∷ bs))) → From P (corner 0 (b / P)) v
      high b i least (check c) h = omega arith
      high b i least (bit a) h =
          each_image (turn P i) (λ a. b / P ≤ a / P) (x ∷ bs) (λ a m. omega (arith, turn_block P some_lift i a, least a m)) a (weave_bit a (map (turn P i) cs) (map (turn P i) (x ∷ bs)) h)

  no_odd : (n d : ℕ) → n ≡ suc (2 * d) → short_cycle B n ≡ None → Passes G (2 * n) → (cs bs : List ℕ) → SimpleCycle G n cs bs → ⊥
  no_odd n d uneven e passes [] bs y = omega (arith, y.least, y.n_checks)
  no_odd n d uneven e passes (x ∷ cs) bs y =
      let (c, in-cycle, least) = least_of (λ a. a / P) x cs in
      let i = P - c % P in
      let z = turn_cycle P some_lift i plan s.rows s.cols n (x ∷ cs) bs y in
      let home : turn P i c ≡ at_0 s (c / P) = turn_home P some_lift c ∙ omega arith in
      let inside = check_weave (turn P i c) (map (turn P i) (x ∷ cs)) (map (turn P i) bs) (z.n_checks ∙ sym z.n_bits) (mem_image (turn P i) c (x ∷ cs) in-cycle) in
      let (m, one, two) = cycle_meets G n (map (turn P i) (x ∷ cs)) (map (turn P i) bs) z passes (check (at_0 s (c / P))) (subst (λ (a : ℕ). Mem (check a) (weave (map (turn P i) (x ∷ cs)) (map (turn P i) bs))) home inside) in
      none_check n d uneven y.least e (c / P) m (λ v h. high c i least v (one v h)) (λ v h. high c i least v (two v h))
    where
      high : (c i : ℕ) → ((a : ℕ) → Mem a (x ∷ cs) → c / P ≤ a / P) → (v : Node) → Mem v (weave (map (turn P i) (x ∷ cs)) (map (turn P i) bs)) → From P (corner (c / P) 0) v
      high c i least (bit b) h = omega arith
      high c i least (check a) h =
          each_image (turn P i) (λ a. c / P ≤ a / P) (x ∷ cs) (λ a m. omega (arith, turn_block P some_lift i a, least a m)) a (weave_check a (map (turn P i) (x ∷ cs)) (map (turn P i) bs) h)

  pub passes_on : (n : ℕ) → 2 ≤ n → short_cycle (blocks_of plan s) n ≡ None → Passes (graph_of plan s) (2 * n) → Passes (graph_of plan s) (2 * suc n)
  unfolding Passes
  passes_on n two e passes m cs bs y =
      let h = passes m cs bs y in
      by_eq m n
      (λ q. absurd (elim (halves n) [ inl t ↦ no_even n t.0 t.1 e passes cs bs (rw q at y) | inr t ↦ no_odd n t.0 t.1 e passes cs bs (rw q at y) ]))
      (λ q. omega arith)
