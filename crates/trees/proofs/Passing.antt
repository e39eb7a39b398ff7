-- THE VERDICT BY PAIRS: a plan passes exactly where no column's tree has a pair. Assumes nothing.
use Prim.Native.Nat.{ℕ, zero, suc, ◌-◌, ◌*◌, ◌/◌, ◌%◌, ◌≤◌, ◌<◌}
use mathlib.Core.Path.{◌≡◌, refl, sym, ap, ap₂, subst, ◌∙◌}
use mathlib.Core.Logic.{◌≢◌, inl}
use mathlib.Core.Bool.{true}
use mathlib.Core.List.{List, [], ◌∷◌, ◌++◌, map}
use native.Mathlib.Omega.{arith}
use lib.IntN.{ℤ}
use lib.ListN.{length, length-append}
use Rattle.graph.specs.Count.{Mem}
use Rattle.graph.specs.Graph.{Bipartite}
use Rattle.graph.specs.Walks.{Node, check, bit, Walk}
use Rattle.graph.specs.Girth.{SimpleCycle, Passes}
use Rattle.graph.proofs.Decide.{by_eq}
use Rattle.graph.proofs.Lists.{last, last_append, mem_image, each_image}
use Rattle.graph.proofs.Walks.{same?, adj_sym, Cycle, walk_left, last_adj, diverge}
use Rattle.graph.proofs.Cycles.{passes_none}
use Rattle.graph.proofs.Closed.{weave, bit_weave}
use Rattle.graph.proofs.Meeting.{cycle_meets}
use Rattle.exponent.specs.declared.position.Position.{Position}
use Rattle.exponent.specs.declared.Shape.{Shape}
use Rattle.exponent.specs.Limits.{WellFormed}
use Rattle.exponent.specs.Tanner.{tanner, turn, graph_of}
use Rattle.exponent.proofs.Numbers.{block_of_law, block_low, number_low}
use Rattle.exponent.proofs.Turning.{turn_cycle, turn_home}
use Rattle.walks.specs.Steps.{Blocks, blocks_of}
use Rattle.walks.proofs.Link.{at_0, root_bit_law}
use Rattle.trees.specs.Tree.{tree, column_tree, depth_of}
use Rattle.trees.specs.Pairs.{Pair}
use Rattle.trees.proofs.Nodes.{block_of, position, node, same_vertex, Inside, inside_low, adj_inside, blocks_differ}
use Rattle.trees.proofs.Walks.{before, ending, walks_from, tree_walks, sound, complete, fresh_root}

-- a walk of no edges, and one by its last edge
empty : (l : List Node) → length l ≡ 0 → l ≡ []
empty [] h = refl
empty (x ∷ l) h = absurd (omega arith)

snoc : (n : ℕ) (l : List Node) → length l ≡ suc n → (k : List Node) × (y : Node) × (l ≡ k ++ y ∷ []) × (length k ≡ n)
snoc n [] h = absurd (omega arith)
snoc zero (x ∷ l) h = ([], x, ap (λ (m : List Node). x ∷ m) (empty l (omega arith)), refl)
snoc (suc n) (x ∷ l) h = let (k, y, e, i) = snoc n l (omega arith) in (x ∷ k, y, ap (λ (m : List Node). x ∷ m) e, ap suc i)

before_last : (u v : Node) (k : List Node) (y : Node) → before u v (k ++ y ∷ []) ≡ last v k
before_last u v [] y = refl
before_last u v (w ∷ k) y = before_last v w k y

module _ (plan : List ℤ) (s : Shape) (formed : WellFormed plan s.rows s.cols s.lift) where
  abbrev G : Bipartite
  G = graph_of plan s

  abbrev B : Blocks
  B = blocks_of plan s

  abbrev P : ℕ
  P = s.lift

  some_lift : 0 < s.lift
  some_lift = formed.some_lift

  -- what a root comes from: a check behind the last row
  abbrev outer : Node
  outer = check (at_0 s s.rows)

  outer_row : block_of P outer ≡ s.rows
  outer_row = block_of_law P some_lift s.rows 0 some_lift

  abbrev tree_at : ℕ → ℕ → List ℕ
  tree_at d z = tree B true d (position P outer (bit z))

  -- THE NODES of bit z's tree are the walks from it

  in_tree : (d z : ℕ) → z < G.bits → (l : List Node) → Walk G (bit z ∷ l) → length l ≤ d → Mem (ending P d outer (bit z) l) (tree_at d z)
  in_tree d z low l w h =
      subst (Mem (ending P d outer (bit z) l)) (sym (tree_walks plan s some_lift d outer (bit z) low))
      (mem_image (ending P d outer (bit z)) l (walks_from B d outer (bit z)) (complete plan s some_lift d outer (bit z) l (fresh_root plan s some_lift z l w) w h))

  -- a node by its walk
  record Reached (d z x : ℕ) : Type 0 where
    rest : List Node
    walk : Walk G (bit z ∷ rest)
    short : length rest ≤ d
    same : x ≡ ending P d outer (bit z) rest

  of_tree : (d z : ℕ) → z < G.bits → (x : ℕ) → Mem x (tree_at d z) → Reached d z x
  of_tree d z low x m =
      each_image (ending P d outer (bit z)) (Reached d z) (walks_from B d outer (bit z))
      (λ l h. let (w, _, k) = sound plan s some_lift d outer (bit z) low l h in record { rest = l; walk = w; short = k; same = refl }) x
      (subst (Mem x) (tree_walks plan s some_lift d outer (bit z) low) m)

  small : (u v : Node) (l : List Node) → block_of P u < 1024 → Inside G v → Walk G (v ∷ l) → block_of P (before u v l) < 1024
  small u v [] h low w = h
  small u v (x ∷ l) h low w = small v x l (inside_low plan s some_lift formed.few_rows formed.few_cols v low) (adj_inside plan s some_lift v x w.0.0) w.1

  small_root : (z : ℕ) → z < G.bits → (l : List Node) → Walk G (bit z ∷ l) → block_of P (before outer (bit z) l) < 1024
  small_root z low l w = small outer (bit z) l (omega (arith, outer_row, formed.few_rows)) low w

  -- A PAIR IS A CYCLE: two walks to one vertex
  pair_cycle : (d z : ℕ) → d < 16 → z < G.bits → Pair (tree_at d z) → Cycle G (2 * d)
  pair_cycle d z low in-z p =
      let f = of_tree d z in-z p.one p.one_in in
      let g = of_tree d z in-z p.other p.other_in in
      let same = ap (λ (x : ℕ). x / 1024) (sym f.same) ∙ p.same ∙ ap (λ (x : ℕ). x / 1024) g.same in
      let meet =
      same_vertex P (d - length f.rest) (d - length g.rest) (before outer (bit z) f.rest) (before outer (bit z) g.rest)
      (last (bit z) f.rest) (last (bit z) g.rest) (omega arith) (omega arith) (small_root z in-z f.rest f.walk) (small_root z in-z g.rest g.walk) same in
      let y = diverge G (bit z) f.rest g.rest f.walk g.walk meet (λ e. p.differ (f.same ∙ ap (ending P d outer (bit z)) e ∙ sym g.same)) in
      record { start = y.start; rest = y.rest; closed = y.closed; distinct = y.distinct; long = y.long; short = omega (arith, y.short, f.short, g.short) }

  -- A CYCLE IS A PAIR: of two walks to one vertex, the last vertex that they enter by different edges

  entered : (d z : ℕ) → z < G.bits → (k m : List Node) (y : Node) → Walk G (bit z ∷ k ++ y ∷ []) → Walk G (bit z ∷ m ++ y ∷ []) → length k ≡ length m → suc (length k) ≤ d
      → last (bit z) k ≢ last (bit z) m → Pair (tree_at d z)
  entered d z low k m y w v e h differ =
      let long : length (k ++ y ∷ []) ≡ suc (length k) = length-append k (y ∷ []) ∙ omega arith in
      let long' : length (m ++ y ∷ []) ≡ suc (length k) = length-append m (y ∷ []) ∙ omega arith in
      let in-k = in_tree d z low (k ++ y ∷ []) w (omega arith) in
      let in-m = in_tree d z low (m ++ y ∷ []) v (omega arith) in
      let ends-k : ending P d outer (bit z) (k ++ y ∷ []) ≡ node P (d - suc (length k)) (last (bit z) k) y = λ i. node P (d - long i) (before_last outer (bit z) k y i) (last_append (bit z) k y [] i) in
      let ends-m : ending P d outer (bit z) (m ++ y ∷ []) ≡ node P (d - suc (length k)) (last (bit z) m) y = λ i. node P (d - long' i) (before_last outer (bit z) m y i) (last_append (bit z) m y [] i) in
      let a = last_adj G (bit z) k y [] w in
      let b = last_adj G (bit z) m y [] v in
      let low-k = inside_low plan s some_lift formed.few_rows formed.few_cols (last (bit z) k) (adj_inside plan s some_lift y (last (bit z) k) (adj_sym G (last (bit z) k) y a)) in
      let low-m = inside_low plan s some_lift formed.few_rows formed.few_cols (last (bit z) m) (adj_inside plan s some_lift y (last (bit z) m) (adj_sym G (last (bit z) m) y b)) in
      record {
        one = node P (d - suc (length k)) (last (bit z) k) y;
        other = node P (d - suc (length k)) (last (bit z) m) y;
        one_in = subst (λ (x : ℕ). Mem x (tree_at d z)) ends-k in-k;
        other_in = subst (λ (x : ℕ). Mem x (tree_at d z)) ends-m in-m;
        same = omega arith;
        differ = λ e. blocks_differ plan s some_lift (last (bit z) k) y (last (bit z) m) a (adj_sym G (last (bit z) m) y b) differ (omega arith);
      }

  two_walks : (n d z : ℕ) → z < G.bits → (l m : List Node) → Walk G (bit z ∷ l) → Walk G (bit z ∷ m) → length l ≡ n → length m ≡ n → n ≤ d
      → last (bit z) l ≡ last (bit z) m → l ≢ m → Pair (tree_at d z)
  two_walks zero d z low l m w v p q h e differ = absurd (differ (empty l p ∙ sym (empty m q)))
  two_walks (suc n) d z low l m w v p q h e differ =
      let (k, a, f, i) = snoc n l p in
      let (r, b, g, j) = snoc n m q in
      let wk : Walk G (bit z ∷ k ++ a ∷ []) = subst (λ (t : List Node). Walk G (bit z ∷ t)) f w in
      let vr : Walk G (bit z ∷ r ++ b ∷ []) = subst (λ (t : List Node). Walk G (bit z ∷ t)) g v in
      let same : a ≡ b = sym (last_append (bit z) k a []) ∙ ap (last (bit z)) (sym f) ∙ e ∙ ap (last (bit z)) g ∙ last_append (bit z) r b [] in
      elim (same? (last (bit z) k) (last (bit z) r)) [
        | yes t ↦ two_walks n d z low k r (walk_left G (bit z ∷ k) (a ∷ []) wk) (walk_left G (bit z ∷ r) (b ∷ []) vr) i j (omega arith) t
            (λ c. differ (f ∙ ap₂ (λ (t : List Node) (y : Node). t ++ y ∷ []) c same ∙ sym g))
        | no t ↦ entered d z low k r a wk (subst (λ (y : Node). Walk G (bit z ∷ r ++ y ∷ [])) (sym same) vr) (omega arith) (omega arith) t
      ]

  cycle_pair : (d n : ℕ) → n ≤ d → Passes G (2 * n) → (cs bs : List ℕ) → SimpleCycle G n cs bs → (j : ℕ) × (j < s.cols) × Pair (column_tree B d j)
  unfolding tanner
  cycle_pair d n h passes cs [] y = absurd (let z : ⊥ = omega (arith, y.least, y.n_bits) in z)
  cycle_pair d n h passes cs (b ∷ bs) y =
      let f : ℕ → ℕ = turn P (P - b % P) in
      let c = turn_cycle P some_lift (P - b % P) plan s.rows s.cols n cs (b ∷ bs) y in
      let j : ℕ = b / P in
      let home : f b ≡ at_0 s j = turn_home P some_lift b ∙ omega arith in
      let col = block_low P some_lift b s.cols (y.forth 0 (omega (arith, y.least))).bit_in in
      let inside = bit_weave (f b) (map f cs) (map f (b ∷ bs)) (c.n_checks ∙ sym c.n_bits) (inl refl) in
      let (m, _, _) = cycle_meets G n (map f cs) (map f (b ∷ bs)) c passes (bit (at_0 s j)) (subst (λ (a : ℕ). Mem (bit a) (weave (map f cs) (map f (b ∷ bs)))) home inside) in (
        j,
        col,
        subst (λ (q : Position). Pair (tree B true d q)) (sym (root_bit_law plan s some_lift j))
            (two_walks n d (at_0 s j) (number_low j 0 s.cols P col some_lift) m.one m.two m.walk_one m.walk_two m.long_one m.long_two h (m.ends_one ∙ sym m.ends_two) m.differ),
      )

  -- THE THEOREM, in two halves
  pub pair_fails : (target j : ℕ) → depth_of target < 16 → 2 * depth_of target < target → j < s.cols → Pair (column_tree (blocks_of plan s) (depth_of target) j)
      → Passes (graph_of plan s) target → ⊥
  unfolding tanner
  pair_fails target j low even h p passes =
      passes_none G target (2 * depth_of target) passes even
      (pair_cycle (depth_of target) (at_0 s j) low (number_low j 0 s.cols P h some_lift) (subst (λ (q : Position). Pair (tree B true (depth_of target) q)) (root_bit_law plan s some_lift j) p))

  -- no cycle of k checks, nor of fewer
  passes_to : (d k : ℕ) → k ≤ suc d → ((j : ℕ) → j < s.cols → Pair (column_tree B d j) → ⊥) → Passes G (2 * k)
  unfolding Passes
  passes_to d zero h none n cs bs y = omega arith
  passes_to d (suc k) h none n cs bs y =
      let p = passes_to d k (omega arith) none in
      by_eq n k (λ e. let (j, low, t) = cycle_pair d n (omega arith) (rw e p) cs bs y in absurd (none j low t)) (λ c. omega (arith, p n cs bs y))

  pub none_passes : (target : ℕ) → target ≤ 2 * suc (depth_of target) → ((j : ℕ) → j < s.cols → Pair (column_tree (blocks_of plan s) (depth_of target) j) → ⊥)
      → Passes (graph_of plan s) target
  unfolding Passes
  none_passes target even none n cs bs y = omega (arith, passes_to (depth_of target) (suc (depth_of target)) (omega arith) none n cs bs y)
