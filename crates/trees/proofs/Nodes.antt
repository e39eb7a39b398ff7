-- The vertices of the Tanner graph as a tree meets them: positions, numbers of nodes, steps as edges. Assumes nothing.
use Rattle.std.specs.Prelude.{Some}
use Prim.Native.Nat.{ℕ, ◌+◌, ◌-◌, ◌*◌, ◌/◌, ◌%◌, ◌≤◌, ◌<◌}
use mathlib.Core.Path.{◌≡◌, refl, sym, ap, ◌∙◌}
use mathlib.Core.Logic.{◌≢◌}
use mathlib.Core.Bool.{Bool, true, false, not}
use mathlib.Core.List.{List}
use native.Mathlib.Omega.{arith}
use native.Mathlib.Nat.{div-add-mod', mod-lt}
use lib.Dec.{eqb}
use lib.IntN.{ℤ}
use Rattle.graph.specs.Count.{one}
use Rattle.graph.specs.Graph.{Bipartite}
use Rattle.graph.specs.Walks.{Node, check, bit, Adj}
use Rattle.exponent.specs.declared.position.Position.{Position}
use Rattle.exponent.specs.declared.Shape.{Shape}
use Rattle.exponent.specs.Plan.{block_at}
use Rattle.exponent.specs.Position.{forward, back}
use Rattle.exponent.specs.Tanner.{tanner, graph_of}
use Rattle.exponent.proofs.Numbers.{block_low, block_of_law}
use Rattle.walks.specs.Steps.{blocks_of}
use Rattle.walks.proofs.Link.{check_from, bit_from, edge_over, same_bit, same_check, step_bit, step_check, bit_step, check_step}
use Rattle.walks.proofs.Steps.{lands}
use Rattle.trees.specs.Tree.{step_to, width, pack, packed}

abbrev pub number : Node → ℕ
number (check c) = c
number (bit b) = b

abbrev pub is_bit : Node → Bool
is_bit (check c) = false
is_bit (bit b) = true

-- the row, or column, of a vertex
abbrev pub block_of : ℕ → Node → ℕ
block_of P v = number v / P

-- at v, come from u
abbrev pub position : ℕ → Node → Node → Position
position P u (check c) = check_from P (number u) c
position P u (bit b) = bit_from P (number u) b

-- the node at v, come to from u, with `left` edges that may follow
abbrev pub node : ℕ → ℕ → Node → Node → ℕ
node P left u v = pack (number v) left (one (is_bit v)) (block_of P u)

pub node_same : (P left : ℕ) (u v : Node) → packed P (is_bit v) left (position P u v) ≡ node P left u v
node_same P left u (check c) = ap (λ (n : ℕ). pack n left 0 (number u / P)) (div-add-mod' c P)
node_same P left u (bit b) = ap (λ (n : ℕ). pack n left 1 (number u / P)) (div-add-mod' b P)

-- the vertex at a position
abbrev pub vertex : ℕ → Bool → Position → Node
vertex P true q = bit (q.col * P + q.voltage)
vertex P false q = check (q.row * P + q.voltage)

pub vertex_same : (P : ℕ) (v w : Node) → vertex P (is_bit w) (position P v w) ≡ w
vertex_same P v (check c) = ap check (div-add-mod' c P)
vertex_same P v (bit b) = ap bit (div-add-mod' b P)

-- nodes that differ at most in their parents are at the same vertex
pub same_vertex : (P l m : ℕ) (s t u v : Node) → l < 16 → m < 16 → block_of P s < 1024 → block_of P t < 1024
    → node P l s u / 1024 ≡ node P m t v / 1024 → u ≡ v
same_vertex P l m s t (check a) (check b) h k p q e = ap check (let z : a ≡ b = omega arith in z)
same_vertex P l m s t (check a) (bit b) h k p q e = absurd (let z : ⊥ = omega arith in z)
same_vertex P l m s t (bit a) (check b) h k p q e = absurd (let z : ⊥ = omega arith in z)
same_vertex P l m s t (bit a) (bit b) h k p q e = ap bit (let z : a ≡ b = omega arith in z)

-- the vertex is one of the graph
abbrev pub Inside : Bipartite → Node → Type 0
Inside G (check c) = c < G.checks
Inside G (bit b) = b < G.bits

-- a step from v, come to from u, to w
pub record Move (G : Bipartite) (P : ℕ) (u v : Node) (i : ℕ) (q : Position) : Type 0 where
  pub w : Node
  pub adj : Adj G v w
  pub on : u ≢ w
  pub inside : Inside G w
  pub turns : is_bit w ≡ not (is_bit v)
  pub arrives : position P v w ≡ q
  pub is : vertex P (not (is_bit v)) q ≡ w

module _ (plan : List ℤ) (s : Shape) (some_lift : 0 < s.lift) where
  abbrev G : Bipartite
  G = graph_of plan s

  abbrev P : ℕ
  P = s.lift

  pub inside_low : s.rows ≤ 192 → s.cols ≤ 512 → (v : Node) → Inside (graph_of plan s) v → block_of s.lift v < 1024
  unfolding tanner
  inside_low h k (check c) i = omega (arith, block_low P some_lift c s.rows i)
  inside_low h k (bit b) i = omega (arith, block_low P some_lift b s.cols i)

  pub adj_inside : (v w : Node) → Adj (graph_of plan s) v w → Inside (graph_of plan s) w
  unfolding Adj
  adj_inside (check c) (check d) a = absurd a
  adj_inside (check c) (bit b) a = a.bit_in
  adj_inside (bit b) (check c) a = a.check_in
  adj_inside (bit b) (bit d) a = absurd a

  other : (u w : Node) → number u ≢ number w → u ≢ w
  other u w d e = d (ap number e)

  -- a step of the tree is an edge, to another vertex than the walk came from
  pub moved : (u v : Node) (i : ℕ) (q : Position) → Inside (graph_of plan s) v → i < width (blocks_of plan s) (is_bit v)
      → step_to (blocks_of plan s) (is_bit v) (position s.lift u v) i ≡ Some q → Move (graph_of plan s) s.lift u v i q
  unfolding Adj
  moved u (check c) i q low h e =
      let (a, _, j, d, r) = step_bit plan s some_lift (number u) c i q low h e in
      record { w = bit a; adj = j; on = other u (bit a) d; inside = j.bit_in; turns = refl; arrives = r; is = ap (vertex P true) (sym r) ∙ vertex_same P (check c) (bit a) }
  moved u (bit b) i q low h e =
      let (a, _, j, d, r) = step_check plan s some_lift (number u) b i q low h e in
      record { w = check a; adj = j; on = other u (check a) d; inside = j.check_in; turns = refl; arrives = r; is = ap (vertex P false) (sym r) ∙ vertex_same P (bit b) (check a) }

  -- and an edge to another row, or column, is such a step
  pub moves : (u v w : Node) → Adj (graph_of plan s) v w → block_of s.lift u ≢ block_of s.lift w
      → step_to (blocks_of plan s) (is_bit v) (position s.lift u v) (block_of s.lift w) ≡ Some (position s.lift v w)
  unfolding Adj
  moves u (check c) (check d) a n = absurd a
  moves u (check c) (bit b) a n = bit_step plan s some_lift (number u) c b a n
  moves u (bit b) (check c) a n = check_step plan s some_lift (number u) b c a n
  moves u (bit b) (bit d) a n = absurd a

  pub block_inside : (v w : Node) → Adj (graph_of plan s) v w → (block_of s.lift w < width (blocks_of plan s) (is_bit v)) × (is_bit w ≡ not (is_bit v))
  unfolding Adj
  block_inside (check c) (check d) a = absurd a
  block_inside (check c) (bit b) a = ((edge_over plan s some_lift c b a).col, refl)
  block_inside (bit b) (check c) a = ((edge_over plan s some_lift c b a).row, refl)
  block_inside (bit b) (bit d) a = absurd a

  -- two neighbours of a vertex lie in different rows, or columns
  pub blocks_differ : (u v w : Node) → Adj (graph_of plan s) u v → Adj (graph_of plan s) v w → u ≢ w → block_of s.lift u ≢ block_of s.lift w
  unfolding Adj
  blocks_differ (check c) (check d) w a b n e = absurd a
  blocks_differ (check c) (bit b) (check d) j k n e = n (ap check (same_check plan s some_lift b c d j k e))
  blocks_differ (check c) (bit b) (bit d) j k n e = absurd k
  blocks_differ (bit b) (check c) (check d) j k n e = absurd k
  blocks_differ (bit b) (check c) (bit d) j k n e = n (ap bit (same_bit plan s some_lift c b d j k e))
  blocks_differ (bit b) (bit d) w a k n e = absurd a

  -- the vertex that a step to i leads to lies in row, or column, i
  pub step_block : (bit : Bool) (p : Position) (i : ℕ) (q : Position) → step_to (blocks_of plan s) bit p i ≡ Some q → block_of s.lift (vertex s.lift (not bit) q) ≡ i
  step_block true p i q e =
      lands (λ q. (q.row * P + q.voltage) / P ≡ i) (eqb i p.row) (block_at plan s.cols P i p.col) (back P p i)
      (λ x. block_of_law P some_lift i ((p.voltage + (P - x)) % P) (mod-lt (p.voltage + (P - x)) some_lift)) e
  step_block false p i q e =
      lands (λ q. (q.col * P + q.voltage) / P ≡ i) (eqb i p.col) (block_at plan s.cols P p.row i) (forward P p i)
      (λ x. block_of_law P some_lift i ((p.voltage + x) % P) (mod-lt (p.voltage + x) some_lift)) e
