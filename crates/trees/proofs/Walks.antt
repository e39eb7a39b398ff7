-- The nodes of a tree are the walks that never step back: each stands in it once, as the number of its end. Assumes nothing.
use Rattle.std.specs.Prelude.{Option, Some, None}
use Prim.Native.Nat.{ℕ, zero, suc, ◌-◌, ◌≤◌, ◌<◌}
use mathlib.Core.Path.{◌≡◌, refl, sym, ap, ap₂, subst, ◌∙◌}
use mathlib.Core.Logic.{◌≢◌, inl, inr}
use mathlib.Core.Bool.{Bool, not}
use mathlib.Core.List.{List, [], ◌∷◌, map}
use native.Mathlib.Omega.{arith}
use native.Mathlib.Nat.{sub-zero}
use lib.IntN.{ℤ}
use lib.ListN.{length}
use Rattle.graph.specs.Count.{Mem, Nodup}
use Rattle.graph.specs.Graph.{Bipartite}
use Rattle.graph.specs.Walks.{Node, check, bit, Adj, Apart, Walk}
use Rattle.graph.proofs.Lists.{last, mem_image, each_image, nodup_image}
use Rattle.exponent.specs.declared.position.Position.{Position}
use Rattle.exponent.specs.declared.Shape.{Shape}
use Rattle.exponent.specs.Tanner.{graph_of}
use Rattle.exponent.proofs.Numbers.{block_of_law}
use Rattle.walks.specs.Steps.{Blocks, blocks_of}
use Rattle.walks.specs.Ways.{and_then, each}
use Rattle.walks.proofs.Each.{mem_each, each_mem, nodup_each, mem_then, then_mem, nodup_then, each_map}
use Rattle.walks.proofs.Link.{at_0}
use Rattle.trees.specs.Tree.{step_to, width, tree}
use Rattle.trees.proofs.Nodes.{is_bit, block_of, position, node, node_same, vertex, vertex_same, Inside, moved, moves, block_inside, blocks_differ, step_block}

-- the vertex before the last one of u ∷ v ∷ l
abbrev pub before : Node → Node → List Node → Node
before u v [] = u
before u v (w ∷ l) = before v w l

-- the node at the end of a walk from v, come to from u, where `left` edges may follow at v
abbrev pub ending : ℕ → ℕ → Node → Node → List Node → ℕ
ending P left u v l = node P (left - length l) (before u v l) (last v l)

-- the walk goes on to another row, or column, than u's
abbrev pub Fresh : ℕ → Node → List Node → Type 0
Fresh P u [] = Unit {0}
Fresh P u (w ∷ l) = block_of P u ≢ block_of P w

-- walks over a step from v to a position
abbrev leading : ℕ → Node → (Node → List (List Node)) → Position → List (List Node)
leading P v next q = let w = vertex P (not (is_bit v)) q in map (λ l. w ∷ l) (next w)

-- the walks from v on, come to from u, each by its vertices after v
unfoldable pub walks_from : Blocks → ℕ → Node → Node → List (List Node)
walks_from B zero u v = [] ∷ []
walks_from B (suc left) u v = [] ∷ each (λ i. and_then (step_to B (is_bit v) (position B.lift u v) i) (leading B.lift v (walks_from B left v))) (width B (is_bit v)) 0

-- a step in front of each walk
lead_map : (f g : List Node → ℕ) (w : Node) → ((l : List Node) → f (w ∷ l) ≡ g l) → (W : List (List Node)) → map g W ≡ map f (map (λ l. w ∷ l) W)
lead_map f g w h [] = refl
lead_map f g w h (l ∷ W) = ap₂ ◌∷◌ (sym (h l)) (lead_map f g w h W)

same_tail : (w : Node) (l m : List Node) → w ∷ l ≡ w ∷ m → l ≡ m
same_tail w l m e = cc

module _ (plan : List ℤ) (s : Shape) (some_lift : 0 < s.lift) where
  abbrev G : Bipartite
  G = graph_of plan s

  abbrev B : Blocks
  B = blocks_of plan s

  abbrev P : ℕ
  P = s.lift

  abbrev step_at : Node → Node → ℕ → Option Position
  step_at u v i = step_to B (is_bit v) (position P u v) i

  abbrev behind : ℕ → Node → Node → ℕ → List (List Node)
  behind d u v i = and_then (step_at u v i) (leading P v (walks_from B d v))

  -- THE NUMBERS of a tree are those of its walks
  pub tree_walks : (left : ℕ) (u v : Node) → Inside (graph_of plan s) v
      → tree (blocks_of plan s) (is_bit v) left (position s.lift u v) ≡ map (ending s.lift left u v) (walks_from (blocks_of plan s) left u v)
  unfolding tree walks_from
  tree_walks zero u v low = ap (λ (x : ℕ). x ∷ []) (node_same P 0 u v ∙ ap (λ (n : ℕ). node P n u v) (sym (sub-zero 0)))
  tree_walks (suc d) u v low =
      ap₂ ◌∷◌ (node_same P (suc d) u v ∙ ap (λ (n : ℕ). node P n u v) (sym (sub-zero (suc d))))
      (each_map (ending P (suc d) u v) (λ i. and_then (step_at u v i) (tree B (not (is_bit v)) d)) (behind d u v) (width B (is_bit v)) 0
      (λ i _ h. over (λ w k. tree_walks d v w k) i (omega arith) (step_at u v i) refl))
    where
      over : ((w : Node) → Inside G w → tree B (is_bit w) d (position P v w) ≡ map (ending P d v w) (walks_from B d v w)) → (i : ℕ) → i < width B (is_bit v) → (t : Option Position) → step_at u v i ≡ t
          → and_then t (tree B (not (is_bit v)) d) ≡ map (ending P (suc d) u v) (and_then t (leading P v (walks_from B d v)))
      over rest i h None e = refl
      over rest i h (Some q) e =
          let k = moved plan s some_lift u v i q low h e in
          ap₂ (λ (t : Bool) (x : Position). tree B t d x) (sym k.turns) (sym k.arrives)
          ∙ rest k.w k.inside
          ∙ lead_map (ending P (suc d) u v) (ending P d v k.w) k.w
          (λ l. ap (λ (n : ℕ). node P n (before v k.w l) (last k.w l)) (let z : suc d - suc (length l) ≡ d - length l = omega arith in z)) (walks_from B d v k.w)
          ∙ ap (λ (w : Node). map (ending P (suc d) u v) (map (λ l. w ∷ l) (walks_from B d v w))) (sym k.is)

  -- NO WALK TWICE
  abbrev first_block : List Node → ℕ
  first_block [] = 0
  first_block (w ∷ l) = block_of P w

  led : (d : ℕ) (u v : Node) (i : ℕ) (l : List Node) → Mem l (behind d u v i) → (q : Position) × (step_at u v i ≡ Some q) × ((m : List Node) × (l ≡ vertex P (not (is_bit v)) q ∷ m))
  led d u v i l m =
      let (q, e, k) = mem_then (step_at u v i) (leading P v (walks_from B d v)) l m in
      (q, e, each_image (λ l. vertex P (not (is_bit v)) q ∷ l) (λ l. (m : List Node) × (l ≡ vertex P (not (is_bit v)) q ∷ m)) (walks_from B d v (vertex P (not (is_bit v)) q)) (λ m h. (m, refl)) l k)

  pub walks_distinct : (left : ℕ) (u v : Node) → Nodup (walks_from (blocks_of plan s) left u v)
  unfolding walks_from
  walks_distinct zero u v = (λ m. m, tt)
  walks_distinct (suc d) u v = (
    λ m. let (i, _, _, h) = mem_each (behind d u v) (width B (is_bit v)) 0 [] m in let (q, e, (l, z)) = led d u v i [] h in let n = ap length z in omega arith,
    nodup_each (behind d u v) first_block (λ i. nodup_then (step_at u v i) (leading P v (walks_from B d v)) (λ q e. let w = vertex P (not (is_bit v)) q in nodup_image (λ l. w ∷ l) (walks_from B d v w) (walks_distinct d v w) (λ l m i j e differ. differ (same_tail w l m e)))) keyed (width B (is_bit v)) 0,
  )
    where
      keyed : (i : ℕ) (l : List Node) → Mem l (behind d u v i) → first_block l ≡ i
      keyed i l m =
          let (q, e, (k, z)) = led d u v i l m in
          ap first_block z ∙ step_block plan s some_lift (is_bit v) (position P u v) i q e

  -- SOUND: each is a walk
  pub sound : (left : ℕ) (u v : Node) → Inside (graph_of plan s) v → (l : List Node) → Mem l (walks_from (blocks_of plan s) left u v)
      → Walk (graph_of plan s) (v ∷ l) × Apart u l × (length l ≤ left)
  unfolding walks_from
  sound zero u v low l (inl e) = rw e ((tt, tt), tt, omega arith)
  sound zero u v low l (inr m) = absurd m
  sound (suc d) u v low l (inl e) = rw e ((tt, tt), tt, omega arith)
  sound (suc d) u v low l (inr m) =
      let (i, _, h, n) = mem_each (behind d u v) (width B (is_bit v)) 0 l m in
      let (q, e, k) = mem_then (step_at u v i) (leading P v (walks_from B d v)) l n in
      let o = moved plan s some_lift u v i q low (omega arith) e in
      each_image (λ l. o.w ∷ l) (λ l. Walk G (v ∷ l) × Apart u l × (length l ≤ suc d)) (walks_from B d v o.w)
      (λ r j. let (w, a, short) = sound d v o.w o.inside r j in (((o.adj, a), w), o.on, omega arith)) l
      (subst (λ (w : Node). Mem l (map (λ l. w ∷ l) (walks_from B d v w))) o.is k)

  -- COMPLETE: every walk is there
  fresh_next : (v w : Node) (l : List Node) → Adj G v w → Apart v l → Walk G (w ∷ l) → Fresh P v l
  fresh_next v w [] a n k = tt
  fresh_next v w (x ∷ l) a n k = blocks_differ plan s some_lift v w x a k.0.0 n

  pub complete : (left : ℕ) (u v : Node) (l : List Node) → Fresh s.lift u l → Walk (graph_of plan s) (v ∷ l) → length l ≤ left
      → Mem l (walks_from (blocks_of plan s) left u v)
  unfolding walks_from
  complete zero u v [] f k h = inl refl
  complete (suc d) u v [] f k h = inl refl
  complete zero u v (w ∷ l) f k h = absurd (let z : ⊥ = omega arith in z)
  complete (suc d) u v (w ∷ l) f k h =
      let (low, turns) = block_inside plan s some_lift v w k.0.0 in
      let m = complete d v w l (fresh_next v w l k.0.0 k.0.1 k.1) k.1 (omega arith) in
      let is : vertex P (not (is_bit v)) (position P v w) ≡ w = ap (λ (t : Bool). vertex P t (position P v w)) (sym turns) ∙ vertex_same P v w in
      inr (each_mem (behind d u v) (width B (is_bit v)) 0 (block_of P w) (w ∷ l) (omega arith) (omega arith)
      (then_mem (step_at u v (block_of P w)) (leading P v (walks_from B d v)) (position P v w) (w ∷ l) (moves plan s some_lift u v w k.0.0 f)
      (subst (λ (x : Node). Mem (w ∷ l) (map (λ l. x ∷ l) (walks_from B d v x))) (sym is) (mem_image (λ l. w ∷ l) l (walks_from B d v w) m))))

  -- from a root, which comes from behind the last row, every walk is fresh
  pub fresh_root : (z : ℕ) (l : List Node) → Walk (graph_of plan s) (bit z ∷ l) → Fresh s.lift (check (at_0 s s.rows)) l
  fresh_root z [] w = tt
  fresh_root z (v ∷ l) w = λ e. omega (arith, block_of_law P some_lift s.rows 0 some_lift, (block_inside plan s some_lift (bit z) v w.0.0).0)
