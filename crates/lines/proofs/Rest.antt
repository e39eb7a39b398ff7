-- The numbers of a line from one on, and the lines in their order. Assumes nothing.
use Prim.Native.Nat.{ℕ, zero, suc, ◌+◌, ◌-◌, ◌/◌, ◌%◌, ◌≤◌, ◌<◌}
use mathlib.Core.Path.{◌≡◌, refl, sym, ap, ap₂, ◌∙◌}
use mathlib.Core.List.{List, [], ◌∷◌, ◌++◌, map}
use native.Mathlib.Omega.{arith}
use native.Mathlib.Nat.{sub-zero}
use native.Mathlib.Numerals.{add-one}
use lib.IntN.{ℤ}
use lib.ListN.{length, get_or, drop, drop_of_length-le, length-append, length-map, get_or-append, get_or-map}
use lib.Seq.{drop-cons, get_or-append-add}
use Rattle.graph.specs.Count.{below}
use Rattle.graph.specs.Graph.{Bipartite}
use Rattle.graph.proofs.Count.{length_range, get_or_range, get_or_map_below, length_map_below}
use Rattle.exponent.specs.declared.Shape.{Shape}
use Rattle.exponent.specs.Limits.{WellFormed}
use Rattle.exponent.specs.Tanner.{graph_of}
use Rattle.tokens.specs.declared.Form.{Form}
use Rattle.tokens.specs.declared.Form.TheVariants.{Padded, Unpadded}
use Rattle.weights.specs.declared.Side.{Side}
use Rattle.weights.specs.declared.Side.TheVariants.{Bits, Checks}
use Rattle.lines.specs.declared.Layout.{Layout}
use Rattle.lines.specs.declared.Line.{Line}
use Rattle.lines.specs.declared.Line.TheVariants.{Sizes, Greatest, Degrees, Node}
use Rattle.lines.specs.declared.generate.Number.{Number}
use Rattle.lines.specs.Alist.{nodes, neighbours, degrees, greatest, fill, lists, lines_in}
use Rattle.graph.proofs.Decide.{by_le}
use Rattle.weights.specs.Weights.{blocks, list_of, Weighed}
use Rattle.weights.proofs.Weights.{listed_weight}
use Rattle.lines.specs.Sides.{Ready, node_count, next_block, number_in, rest_of}
use Rattle.lines.specs.Lines.{line_in, line_of, order, side_at, most_of, Measured, list_width, width_of, InLine, line_rest, Fills}
use Rattle.lines.proofs.Lanes.{nodes_of_law, node_lane, neighbours_rest, degree_weight, rest_hit, rest_none}
use Rattle.lines.proofs.Weights.{degree_most}

pub first_side : (k : ℕ) → k ≡ 0 → Bits ≡ side_at k
first_side zero e = refl
first_side (suc k) e = absurd (omega arith)

pub other_side : (k : ℕ) → (k ≡ 0 → ⊥) → Checks ≡ side_at k
other_side zero h = absurd (h refl)
other_side (suc k) h = refl

-- The next number of a line that is filled up with 0.

pub fills_more : (rest : ℕ → List ℕ) (from y n k : ℕ) → n ≡ suc y → rest from ≡ y ∷ rest k → Fills rest from (record { value = n; next = k })
unfolding fill
fills_more rest from y n k e p = record { fills = λ w. rw (p, e) }

pub fills_zero : (rest : ℕ → List ℕ) (from k : ℕ) → rest from ≡ [] → rest k ≡ [] → Fills rest from (record { value = 0; next = k })
unfolding fill
fills_zero rest from k p q = record { fills = λ w. rw (p, q) }

-- what the block that the index leads to has: a neighbour, or nothing at the end of the lane
pub neighbour_next : (plan : List ℤ) (s : Shape) (down along : List ℕ) → Ready plan s down along → (side : Side) (x k m n : ℕ) → x < node_count s side → k < blocks s side
    → m ≡ next_block down along s side (x / s.lift) k → n ≡ number_in plan s side (x / s.lift) (x % s.lift) m
    → Fills (rest_of plan s side x) k (record { value = n; next = m + 1 })
neighbour_next plan s down along r side x k m n h i e q =
    by_le 1 n
    (λ more. let p : n ≡ suc (n - 1) = omega arith in fills_more _ k (n - 1) n (m + 1) p (rest_hit plan s down along r side x k m h i e (n - 1) (sym q ∙ p)))
    (λ none.
    let p : n ≡ 0 = omega arith in
    let (here, after) = rest_none plan s down along r side x k m h i e (sym q ∙ p) in rw p (fills_zero _ k (m + 1) here after))

-- Lists from their k-th element on.

pair_next : (f : Side → ℕ) (k : ℕ) → k < 2 → drop k (f Bits ∷ f Checks ∷ []) ≡ f (side_at k) ∷ drop (k + 1) (f Bits ∷ f Checks ∷ [])
pair_next f zero h = refl
pair_next f (suc zero) h = refl
pair_next f (suc (suc k)) h = absurd (omega arith)

length_degrees : (G : Bipartite) (side : Side) → length (degrees G side) ≡ nodes G side
unfolding degrees
length_degrees G side = length_map_below (λ x. length (neighbours G side x)) (nodes G side)

degrees_next : (G : Bipartite) (side : Side) (k : ℕ) → k < nodes G side → drop k (degrees G side) ≡ length (neighbours G side k) ∷ drop (k + 1) (degrees G side)
unfolding degrees
degrees_next G side k h =
    drop-cons (degrees G side) k 0 (omega (arith, length_degrees G side))
    ∙ ap (λ (n : ℕ). n ∷ drop (suc k) (degrees G side)) (get_or_map_below 0 (λ x. length (neighbours G side x)) (nodes G side) k h)
    ∙ ap (λ (n : ℕ). length (neighbours G side k) ∷ drop n (degrees G side)) (sym (add-one k))

fill_next : (rest : ℕ → List ℕ) (from : ℕ) (r : Number) (k w : ℕ) → k < w → Fills rest from r
    → fill (w - k) (map suc (rest from)) ≡ r.value ∷ fill (w - (k + 1)) (map suc (rest r.next))
fill_next rest from r k w h p =
    let e : w - k ≡ suc (w - (k + 1)) = omega arith in
    ap (λ (m : ℕ). fill m (map suc (rest from))) e ∙ p.fills (w - (k + 1))

-- a list filled up to its own length is the list
pub fill_own : (ns : List ℕ) → fill (length ns) ns ≡ ns
unfolding fill
fill_own [] = refl
fill_own (n ∷ ns) = ap (λ (l : List ℕ). n ∷ l) (fill_own ns)

-- The line of a node in the padded form: no list of weights is needed for it.

module _ (plan : List ℤ) (l : Layout) (side : Side) (x : ℕ) where
  pub node_start : WellFormed plan l.shape.rows l.shape.cols l.shape.lift → most_of l side ≡ greatest (degrees (graph_of plan l.shape) side)
      → line_rest plan l (Node side x) (most_of l side) 0 0 ≡ line_of (graph_of plan l.shape) (Node side x)
  unfolding line_rest line_in
  node_start well most = rw (sub-zero (most_of l side), most, neighbours_rest plan l.shape well side x)

  pub node_end : (w k from : ℕ) → w ≤ k → line_rest plan l (Node side x) w k from ≡ []
  unfolding line_rest fill
  node_end w k from h = let e : w - k ≡ 0 = omega arith in rw e

  pub node_goes : (k from : ℕ) (r : Number) → Fills (rest_of plan l.shape side x) from r
      → (w : ℕ) → k < w → line_rest plan l (Node side x) w k from ≡ r.value ∷ line_rest plan l (Node side x) w (k + 1) r.next
  unfolding line_rest
  node_goes k from r p w i = fill_next (rest_of plan l.shape side x) from r k w i p

pub most_is : (plan : List ℤ) (l : Layout) (down along : List ℕ) → Measured plan l down along → (side : Side) → most_of l side ≡ greatest (degrees (graph_of plan l.shape) side)
most_is plan l down along m Bits = m.most_bits
most_is plan l down along m Checks = m.most_checks

-- A line of a measured plan with its lists of weights.

module _ (plan : List ℤ) (l : Layout) (down along rows cols : List ℕ) (m : Measured plan l down along) (v : Weighed plan l.shape rows cols) where
  abbrev G : Bipartite
  G = graph_of plan l.shape

  most : (side : Side) → most_of l side ≡ greatest (degrees (graph_of plan l.shape) side)
  most = most_is plan l down along m

  -- the lists tell the degree of a node
  pub degree_listed : (side : Side) (x : ℕ) → x < node_count l.shape side → get_or (list_of side rows cols) (x / l.shape.lift) 0 ≡ length (neighbours (graph_of plan l.shape) side x)
  degree_listed side x h =
      listed_weight plan l.shape rows cols v side (x / l.shape.lift) (node_lane l.shape side x m.ready.well.some_lift h)
      ∙ sym (degree_weight plan l.shape m.ready.well side x)

  -- a node's list, filled up to its own length, is the list
  node_own : (side : Side) (x : ℕ) → x < node_count l.shape side
      → fill (get_or (list_of side rows cols) (x / l.shape.lift) 0) (map suc (neighbours (graph_of plan l.shape) side x)) ≡ map suc (neighbours (graph_of plan l.shape) side x)
  node_own side x h =
      ap (λ (w : ℕ). fill w (map suc (neighbours G side x))) (degree_listed side x h ∙ sym (length-map (neighbours G side x) suc))
      ∙ fill_own (map suc (neighbours G side x))

  pub line_start : (form : Form) (line : Line) → InLine l line → line_rest plan l line (width_of form l rows cols line) 0 0 ≡ line_in form (graph_of plan l.shape) line
  unfolding line_rest line_in
  line_start form Sizes i = refl
  line_start form Greatest i = refl
  line_start form (Degrees side) i = refl
  line_start Padded (Node side x) i = node_start plan l side x m.ready.well (most side)
  line_start Unpadded (Node side x) i =
      rw (sub-zero (get_or (list_of side rows cols) (x / l.shape.lift) 0), ← neighbours_rest plan l.shape m.ready.well side x) (node_own side x i)

  pub line_end : (form : Form) (line : Line) (k from : ℕ) → width_of form l rows cols line ≤ k → line_rest plan l line (width_of form l rows cols line) k from ≡ []
  unfolding line_rest line_in
  line_end form Sizes k from h = drop_of_length-le (line_of G Sizes) h
  line_end form Greatest k from h = drop_of_length-le (line_of G Greatest) h
  line_end form (Degrees side) k from h = drop_of_length-le (degrees G side) {i = k} (omega (arith, length_degrees G side, nodes_of_law plan l.shape side))
  line_end form (Node side x) k from h = node_end plan l side x (list_width form l rows cols side x) k from h

  -- no line is longer in the unpadded form
  list_le : (form : Form) (side : Side) (x : ℕ) → x < node_count l.shape side → list_width form l rows cols side x ≤ most_of l side
  list_le Padded side x i = omega arith
  list_le Unpadded side x i =
      omega (arith, most side, degree_listed side x i, degree_most G side x (omega (arith, nodes_of_law plan l.shape side)))

  pub width_le : (form : Form) (line : Line) → InLine l line → width_of form l rows cols line ≤ width_of Padded l rows cols line
  width_le form Sizes i = omega arith
  width_le form Greatest i = omega arith
  width_le form (Degrees side) i = omega arith
  width_le form (Node side x) i = list_le form side x i

  -- the line goes on with v and, after it, from block `next` on
  module _ (line : Line) (k from : ℕ) (h : k < width_of Padded l rows cols line) where
    abbrev pub GoesOn : ℕ → ℕ → Type 0
    GoesOn v next = (w : ℕ) → k < w → line_rest plan l line w k from ≡ v ∷ line_rest plan l line w (k + 1) next

    pub sizes_next : line ≡ Sizes → (v : ℕ) → v ≡ node_count l.shape (side_at k) → GoesOn v 0
    unfolding line_rest line_in
    sizes_next e v q w i =
        rw (e, q ∙ sym (nodes_of_law plan l.shape (side_at k))) (pair_next (nodes (graph_of plan l.shape)) k (rw e at h))

    pub greatest_next : line ≡ Greatest → (v : ℕ) → v ≡ most_of l (side_at k) → GoesOn v 0
    unfolding line_rest line_in
    greatest_next e v q w i = rw (e, q ∙ most (side_at k)) (pair_next (λ side. greatest (degrees (graph_of plan l.shape) side)) k (rw e at h))

    pub degree_next : (side : Side) → line ≡ Degrees side → (n : ℕ) → n ≡ get_or (list_of side rows cols) (k / l.shape.lift) 0 → GoesOn n 0
    unfolding line_rest line_in
    degree_next side e n q w j =
        let i : k < node_count l.shape side = rw e at h in
        rw (e, q ∙ degree_listed side k i) (degrees_next G side k (omega (arith, nodes_of_law plan l.shape side)))

    pub node_next : (side : Side) (x : ℕ) → line ≡ Node side x → (r : Number) → Fills (rest_of plan l.shape side x) from r → GoesOn r.value r.next
    node_next side x e r p w i = rw e (node_goes plan l side x k from r p w i)

-- THE ORDER. Line i of it, and all lines.

get_or_any {ℓ} : {A : Type ℓ} (l : List A) (i : ℕ) (a b : A) → i < length l → get_or l i a ≡ get_or l i b
get_or_any [] i a b h = absurd (omega arith)
get_or_any (x ∷ l) zero a b h = refl
get_or_any (x ∷ l) (suc i) a b h = get_or_any l i a b (omega arith)

module _ (s : Shape) where
  abbrev nodes_of : Side → List Line
  nodes_of side = map (λ x. Node side x) (below (node_count s side))

  length_nodes : (side : Side) → length (nodes_of side) ≡ node_count s side
  length_nodes side = length-map (below (node_count s side)) (λ x. Node side x) ∙ length_range 0 (node_count s side)

  node_at : (side : Side) (i : ℕ) → i < node_count s side → get_or (nodes_of side) i Sizes ≡ Node side i
  node_at side i h =
      get_or_any (nodes_of side) i Sizes (Node side 0) (omega (arith, length_nodes side))
      ∙ get_or-map (λ x. Node side x) (below (node_count s side)) i 0
      ∙ ap (λ x. Node side x) (get_or_range 0 (node_count s side) i h ∙ omega arith)

  pub length_order : length (order s) ≡ 4 + (node_count s Bits + node_count s Checks)
  unfolding order
  length_order = omega (arith, length-append (nodes_of Bits) (nodes_of Checks), length_nodes Bits, length_nodes Checks)

  -- the first four, by number
  pub order_first : (i k : ℕ) (line : Line) → i ≡ k → line ≡ get_or (order s) k Sizes → line ≡ get_or (order s) i Sizes
  order_first i k line e h = rw e h

  past_four : (i : ℕ) → 4 ≤ i → get_or (order s) i Sizes ≡ get_or (nodes_of Bits ++ nodes_of Checks) (i - 4) Sizes
  unfolding order
  past_four i h = let e : i ≡ suc (suc (suc (suc (i - 4)))) = omega arith in ap (λ (k : ℕ). get_or (order s) k Sizes) e

  pub order_bit : (i : ℕ) → 4 ≤ i → i < 4 + node_count s Bits → Node Bits (i - 4) ≡ get_or (order s) i Sizes
  order_bit i h g =
      sym
      (past_four i h
      ∙ get_or-append (nodes_of Bits) (nodes_of Checks) Sizes (i - 4) (omega (arith, length_nodes Bits))
      ∙ node_at Bits (i - 4) (omega arith))

  pub order_check : (i : ℕ) → 4 + node_count s Bits ≤ i → i < 4 + (node_count s Bits + node_count s Checks) → Node Checks (i - 4 - node_count s Bits) ≡ get_or (order s) i Sizes
  order_check i h g =
      let e : i - 4 ≡ length (nodes_of Bits) + (i - 4 - node_count s Bits) = omega (arith, length_nodes Bits) in
      sym
      (past_four i (omega arith)
      ∙ ap (λ (k : ℕ). get_or (nodes_of Bits ++ nodes_of Checks) k Sizes) e
      ∙ get_or-append-add (nodes_of Bits) (nodes_of Checks) (i - 4 - node_count s Bits) Sizes
      ∙ node_at Checks (i - 4 - node_count s Bits) (omega arith))

map-append : {A B : Type 0} (f : A → B) (xs ys : List A) → map f (xs ++ ys) ≡ map f xs ++ map f ys
map-append f [] ys = refl
map-append f (x ∷ xs) ys = ap (λ l. f x ∷ l) (map-append f xs ys)

map_map : {A B C : Type 0} (f : B → C) (g : A → B) (xs : List A) → map f (map g xs) ≡ map (λ x. f (g x)) xs
map_map f g [] = refl
map_map f g (x ∷ xs) = ap (λ l. f (g x) ∷ l) (map_map f g xs)

-- the lines of the graph are those of the order
pub lines_are : (form : Form) (plan : List ℤ) (s : Shape) → map (line_in form (graph_of plan s)) (order s) ≡ lines_in form (graph_of plan s)
unfolding order line_in lines_in lists
lines_are form plan s =
    ap (λ (ls : List (List ℕ)). line_in form (graph_of plan s) Sizes ∷ line_in form (graph_of plan s) Greatest ∷ degrees (graph_of plan s) Bits ∷ degrees (graph_of plan s) Checks ∷ ls)
    (map-append (line_in form (graph_of plan s)) (nodes_of s Bits) (nodes_of s Checks)
    ∙ ap₂ (λ (a b : List (List ℕ)). a ++ b) (each Bits) (each Checks))
  where
    each : (side : Side) → map (line_in form (graph_of plan s)) (nodes_of s side) ≡ lists form (graph_of plan s) side
    each side =
        map_map (line_in form (graph_of plan s)) (λ x. Node side x) (below (node_count s side))
        ∙ ap (λ (n : ℕ). map (λ x. line_in form (graph_of plan s) (Node side x)) (below n)) (sym (nodes_of_law plan s side))

-- The lines from line i on, as text and as numbers: `f` takes a line, `join` puts it before the others.

module _ (form : Form) (plan : List ℤ) (s : Shape) where
  pub lines_from : ℕ → List (List ℕ)
  lines_from i = map (line_in form (graph_of plan s)) (drop i (order s))

  pub lines_start : lines_from 0 ≡ lines_in form (graph_of plan s)
  unfolding lines_from
  lines_start = lines_are form plan s

  pub lines_next : (i : ℕ) (line : Line) → i < 4 + (node_count s Bits + node_count s Checks) → line ≡ get_or (order s) i Sizes
      → lines_from i ≡ line_in form (graph_of plan s) line ∷ lines_from (i + 1)
  unfolding lines_from
  lines_next i line h e = rw (add-one i, e) (ap (map (line_in form (graph_of plan s))) (drop-cons (order s) i Sizes (omega (arith, length_order s))))

  pub lines_end : (i : ℕ) → 4 + (node_count s Bits + node_count s Checks) ≤ i → lines_from i ≡ []
  unfolding lines_from
  lines_end i h = ap (map (line_in form (graph_of plan s))) (drop_of_length-le (order s) {i = i} (omega (arith, length_order s)))
