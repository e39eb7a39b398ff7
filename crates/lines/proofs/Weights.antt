-- The greatest degree is greatest, and the degrees are the weights of rows and columns. Assumes nothing.
use Rattle.std.specs.Prelude.{Option, None, Some, SomeIndex, unwrap_or}
use Prim.Native.Nat.{ℕ, zero, suc, ◌+◌, ◌-◌, ◌*◌, ◌/◌, ◌≤◌, ◌<◌, zero-le}
use mathlib.Core.Path.{◌≡◌, refl, sym, ap, ap₂, ◌∙◌}
use mathlib.Core.Logic.{inl, inr}
use mathlib.Core.List.{List, [], ◌∷◌, ◌++◌, map}
use native.Mathlib.Omega.{arith}
use native.Mathlib.Nat.{sub-zero}
use lib.IntN.{ℤ}
use lib.ListN.{length, get_or, length-map}
use Rattle.graph.specs.Count.{below, Mem}
use Rattle.graph.specs.Graph.{Bipartite}
use Rattle.graph.proofs.Lists.{mem_image, each_image}
use Rattle.graph.proofs.Neighbours.{mem_below, below_mem}
use Rattle.exponent.specs.declared.Shape.{Shape}
use Rattle.exponent.specs.Limits.{WellFormed}
use Rattle.exponent.specs.Tanner.{tanner, column_weight, row_weight, graph_of}
use Rattle.exponent.proofs.Numbers.{block_of_law, number_low}
use Rattle.weights.specs.declared.Side.{Side}
use Rattle.weights.specs.declared.Side.TheVariants.{Bits, Checks}
use Rattle.lines.specs.Alist.{nodes, neighbours, degrees, greatest, fill}
use Rattle.weights.specs.Weights.{lanes, blocks, weight_of, weights_of, Weighed}
use Rattle.weights.proofs.Weights.{weight_le, listed_length}
use Rattle.lines.specs.declared.Layout.{Layout}
use Rattle.index.specs.Index.{DownIndex, AlongIndex}
use Rattle.lines.specs.Lines.{Measured, layout_of, Listed}
use Rattle.lines.proofs.Lanes.{node_lane, nodes_of_law, small, degree_weight}

-- The greatest of a list: no member is greater, and nothing that no member exceeds is less.

pub greatest_mem : (x : ℕ) (l : List ℕ) → Mem x l → x ≤ greatest l
unfolding greatest
greatest_mem x [] m = absurd m
greatest_mem x (y ∷ l) (inl e) = omega arith
greatest_mem x (y ∷ l) (inr m) = omega (arith, greatest_mem x l m)

pub greatest_le : (n : ℕ) (l : List ℕ) → ((x : ℕ) → Mem x l → x ≤ n) → greatest l ≤ n
unfolding greatest
greatest_le n [] h = zero-le
greatest_le n (y ∷ l) h = omega (arith, h y (inl refl), greatest_le n l (λ x m. h x (inr m)))

-- the greatest by places: a number of the list that no other exceeds, or 0 of an empty list
abbrev pub IsTop : List ℕ → Option ℕ → Type 0
IsTop l None = length l ≡ 0
IsTop l (Some m) = ((k : ℕ) → k < length l → get_or l k 0 ≤ m) × SomeIndex l (λ k. get_or l k 0 ≡ m)

pub top_greatest : (l : List ℕ) (o : Option ℕ) → IsTop l o → unwrap_or o 0 ≡ greatest l
unfolding greatest
top_greatest [] None h = refl
top_greatest (x ∷ l) None h = absurd (omega arith)
top_greatest l (Some m) h = omega (arith, each l h.0, some l h.1)
  where
    each : (l : List ℕ) → ((k : ℕ) → k < length l → get_or l k 0 ≤ m) → greatest l ≤ m
    each [] h = zero-le
    each (x ∷ l) h = omega (arith, h 0 (omega arith), each l (λ k q. h (suc k) (omega arith)))

    at : (l : List ℕ) (k : ℕ) → k < length l → get_or l k 0 ≤ greatest l
    at [] k h = absurd (omega arith)
    at (x ∷ l) zero h = omega arith
    at (x ∷ l) (suc k) h = omega (arith, at l k (omega arith))

    some : (l : List ℕ) → SomeIndex l (λ k. get_or l k 0 ≡ m) → m ≤ greatest l
    some l h = omega (arith, at l h.0 h.1, h.2)

-- THE GREATEST DEGREE: no node has more neighbours, so filling up a node's list cuts nothing
pub degree_most : (G : Bipartite) (side : Side) (x : ℕ) → x < nodes G side → length (neighbours G side x) ≤ greatest (degrees G side)
unfolding degrees
degree_most G side x h =
    greatest_mem (length (neighbours G side x)) (degrees G side) (mem_image (λ x. length (neighbours G side x)) x (below (nodes G side)) (below_mem x (nodes G side) h))

-- zeros up to a width
unfoldable pub zeros : ℕ → List ℕ
zeros zero = []
zeros (suc n) = 0 ∷ zeros n

pub fill_keeps : (width : ℕ) (l : List ℕ) → length l ≤ width → fill width l ≡ l ++ zeros (width - length l)
unfolding fill zeros
fill_keeps zero [] h = refl
fill_keeps zero (x ∷ l) h = absurd (omega arith)
fill_keeps (suc w) [] h = ap (λ (l : List ℕ). 0 ∷ l) (fill_keeps w [] zero-le ∙ ap zeros (sub-zero w)) ∙ ap zeros (sym (sub-zero (suc w)))
fill_keeps (suc w) (x ∷ l) h =
    ap (λ (l : List ℕ). x ∷ l) (fill_keeps w l (omega arith)) ∙ ap (λ (n : ℕ). x ∷ l ++ zeros n) (let e : w - length l ≡ suc w - length (x ∷ l) = omega arith in e)

pub list_whole : (G : Bipartite) (side : Side) (x : ℕ) → x < nodes G side
    → fill (greatest (degrees G side)) (map suc (neighbours G side x)) ≡ map suc (neighbours G side x) ++ zeros (greatest (degrees G side) - length (neighbours G side x))
list_whole G side x h =
    let same = length-map (neighbours G side x) suc in
    fill_keeps (greatest (degrees G side)) (map suc (neighbours G side x)) (omega (arith, same, degree_most G side x h))
    ∙ ap (λ (n : ℕ). map suc (neighbours G side x) ++ zeros (greatest (degrees G side) - n)) same

-- A valid plan: every degree is the weight of a column, or of a row.

map_same : (f g : ℕ → ℕ) (l : List ℕ) → ((x : ℕ) → f x ≡ g x) → map f l ≡ map g l
map_same f g [] h = refl
map_same f g (x ∷ l) h = ap₂ (λ (n : ℕ) (m : List ℕ). n ∷ m) (h x) (map_same f g l h)

module _ (plan : List ℤ) (rows cols lift : ℕ) (w : WellFormed plan rows cols lift) where
  abbrev shape : Shape
  shape = record { rows = rows; cols = cols; lift = lift }

  pub bit_degrees : degrees (tanner plan rows cols lift) Bits ≡ map (λ b. column_weight plan rows cols lift (b / lift)) (below (cols * lift))
  unfolding degrees tanner
  bit_degrees = map_same _ _ (below (cols * lift)) (degree_weight plan shape w Bits)

  pub check_degrees : degrees (tanner plan rows cols lift) Checks ≡ map (λ c. row_weight plan cols lift (c / lift)) (below (rows * lift))
  unfolding degrees tanner
  check_degrees = map_same _ _ (below (rows * lift)) (degree_weight plan shape w Checks)

-- THE GREATEST WEIGHT of a side is its greatest degree
module _ (plan : List ℤ) (s : Shape) (w : WellFormed plan s.rows s.cols s.lift) (side : Side) where
  pub most_weight : greatest (weights_of plan s side) ≡ greatest (degrees (graph_of plan s) side)
  unfolding weights_of degrees
  most_weight = omega (arith, up, down)
    where
      down : greatest (map (weight_of plan s side) (below (lanes s side))) ≤ greatest (degrees (graph_of plan s) side)
      down =
          greatest_le (greatest (degrees (graph_of plan s) side)) (map (weight_of plan s side) (below (lanes s side)))
          (each_image (weight_of plan s side) (λ n. n ≤ greatest (degrees (graph_of plan s) side)) (below (lanes s side)) (λ lane m.
          let low = number_low lane 0 (lanes s side) s.lift (mem_below lane (lanes s side) m) w.some_lift in
          let same = degree_weight plan s w side (lane * s.lift + 0) ∙ ap (weight_of plan s side) (block_of_law s.lift w.some_lift lane 0 w.some_lift) in
          omega (arith, same, degree_most (graph_of plan s) side (lane * s.lift + 0) (omega (arith, low, nodes_of_law plan s side)))))

      up : greatest (degrees (graph_of plan s) side) ≤ greatest (map (weight_of plan s side) (below (lanes s side)))
      up =
          greatest_le (greatest (map (weight_of plan s side) (below (lanes s side)))) (degrees (graph_of plan s) side)
          (each_image (λ x. length (neighbours (graph_of plan s) side x)) (λ n. n ≤ greatest (map (weight_of plan s side) (below (lanes s side)))) (below (nodes (graph_of plan s) side))
          (λ x m.
          let low = node_lane s side x w.some_lift (omega (arith, mem_below x (nodes (graph_of plan s) side) m, nodes_of_law plan s side)) in
          let member = mem_image (weight_of plan s side) (x / s.lift) (below (lanes s side)) (below_mem (x / s.lift) (lanes s side) low) in
          omega (arith, degree_weight plan s w side x, greatest_mem (weight_of plan s side (x / s.lift)) (map (weight_of plan s side) (below (lanes s side))) member)))

  -- no greatest degree exceeds the blocks of a lane
  pub most_few : greatest (degrees (graph_of plan s) side) ≤ blocks s side
  unfolding degrees
  most_few =
      greatest_le (blocks s side) (degrees (graph_of plan s) side)
      (each_image (λ x. length (neighbours (graph_of plan s) side x)) (λ n. n ≤ blocks s side) (below (nodes (graph_of plan s) side))
      (λ x m. omega (arith, degree_weight plan s w side x, weight_le plan s side (x / s.lift))))

-- THE LAYOUT that is measured from a plan's weights is that of the plan, over its two index lists
module _ (plan : List ℤ) (s : Shape) (rows cols : List ℕ) (l : Layout) (e : l ≡ layout_of s rows cols) (v : Weighed plan s rows cols) where
  pub laid_weighed : Weighed plan l.shape rows cols
  laid_weighed = rw e v

  pub laid_measured : (down along : List ℕ) → WellFormed plan s.rows s.cols s.lift → DownIndex plan s down → AlongIndex plan s along → Measured plan l down along
  laid_measured down along well under right =
      rw e
      (record {
        ready = record { well = well; down_index = under; along_index = right };
        most_bits = ap greatest v.cols_right ∙ most_weight plan s well Bits;
        most_checks = ap greatest v.rows_right ∙ most_weight plan s well Checks;
      })

pub listed : (plan : List ℤ) (l : Layout) (down along rows cols : List ℕ) → Measured plan l down along → Weighed plan l.shape rows cols → Listed l rows cols
listed plan l down along rows cols m v =
    record { small = small plan l.shape m.ready.well; some_lift = m.ready.well.some_lift; whole = listed_length plan l.shape rows cols v }
