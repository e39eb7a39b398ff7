-- How long the alist's text is at most: no number of it is above 786432. Assumes nothing.
use Prim.Native.Nat.{ℕ, zero, suc, ◌+◌, ◌*◌, ◌/◌, ◌≤◌, ◌<◌, ◌^◌}
use mathlib.Core.Path.{◌≡◌, refl, sym, ap, ◌∙◌}
use mathlib.Core.Logic.{inl, inr}
use mathlib.Core.List.{List, [], ◌∷◌, ◌++◌, map}
use native.Mathlib.Omega.{arith}
use native.Mathlib.Nat.{mul-le-mul, suc-mul}
use lib.IntN.{ℤ}
use lib.ListN.{length, length-append, length-map}
use Rattle.graph.specs.Count.{below, Mem}
use Rattle.graph.specs.Graph.{Bipartite, bits_of, checks_of}
use Rattle.graph.proofs.Lists.{mem_either, each_image}
use Rattle.graph.proofs.Count.{mem_select, length_map_below, length_range}
use Rattle.graph.proofs.Neighbours.{mem_below}
use Rattle.exponent.specs.declared.Shape.{Shape}
use Rattle.exponent.specs.Limits.{WellFormed}
use Rattle.exponent.specs.Tanner.{graph_of}
use Rattle.decimal.specs.Decimal.{decimal}
use Rattle.decimal.proofs.Digits.{length_under}
use Rattle.lines.specs.declared.Layout.{Layout}
use Rattle.weights.specs.declared.Side.{Side}
use Rattle.weights.specs.declared.Side.TheVariants.{Bits, Checks}
use Rattle.tokens.specs.declared.Form.TheVariants.{Padded}
use Rattle.lines.specs.Alist.{nodes, neighbours, degrees, greatest, fill, lists, lines_in, lines_of}
use Rattle.lines.specs.Text.{item, line_from, text_of}
use Rattle.weights.specs.Weights.{blocks}
use Rattle.weights.proofs.Weights.{blocks_few, weight_le}
use Rattle.lines.specs.Sides.{node_count}
use Rattle.lines.specs.Lines.{Measured}
use Rattle.lines.proofs.Lanes.{nodes_of_law, degree_weight}
use Rattle.lines.proofs.Weights.{most_few}
use Rattle.alist.specs.Steps.{most_bytes}

-- the numbers of a line are small
abbrev Low : List ℕ → Type 0
Low line = (x : ℕ) → Mem x line → x ≤ 786432

-- the numbers of some lines
numbers_of : List (List ℕ) → List ℕ
numbers_of [] = []
numbers_of (line ∷ lines) = line ++ numbers_of lines

-- Its text: six digits and a space for each number at most, and a line feed for each line.

decimal_le : (n : ℕ) → n ≤ 786432 → length (decimal n) ≤ 6
decimal_le n h = length_under 5 n (omega arith)

item_le : (k n : ℕ) → n ≤ 786432 → length (item k n) ≤ 7
unfolding item
item_le zero n h = omega (arith, decimal_le n h)
item_le (suc k) n h = omega (arith, decimal_le n h)

line_from_le : (k : ℕ) (line : List ℕ) → Low line → length (line_from k line) ≤ 1 + 7 * length line
unfolding line_from
line_from_le k [] low = omega arith
line_from_le k (x ∷ line) low =
    omega (arith, length-append (item k x) (line_from (suc k) line), item_le k x (low x (inl refl)), line_from_le (suc k) line (λ y m. low y (inr m)))

text_of_le : (lines : List (List ℕ)) → ((line : List ℕ) → Mem line lines → Low line) → length (text_of lines) ≤ length lines + 7 * length (numbers_of lines)
unfolding text_of numbers_of
text_of_le [] h = omega arith
text_of_le (line ∷ lines) h =
    omega (arith, length-append (line_from 0 line) (text_of lines), length-append line (numbers_of lines), line_from_le 0 line (h line (inl refl)), text_of_le lines (λ l m. h l (inr m)))

-- How many numbers some lines have.

numbers_append : (a b : List (List ℕ)) → length (numbers_of (a ++ b)) ≡ length (numbers_of a) + length (numbers_of b)
unfolding numbers_of
numbers_append [] b = omega arith
numbers_append (line ∷ a) b = omega (arith, length-append line (numbers_of (a ++ b)), length-append line (numbers_of a), numbers_append a b)

numbers_map : (f : ℕ → List ℕ) (w : ℕ) → ((x : ℕ) → length (f x) ≡ w) → (xs : List ℕ) → length (numbers_of (map f xs)) ≡ length xs * w
unfolding numbers_of
numbers_map f w h [] = omega arith
numbers_map f w h (x ∷ xs) = omega (arith, length-append (f x) (numbers_of (map f xs)), h x, numbers_map f w h xs, suc-mul (length xs) w)

-- Every number of the alist is small.

length_fill : (w : ℕ) (l : List ℕ) → length (fill w l) ≡ w
unfolding fill
length_fill zero l = refl
length_fill (suc w) [] = ap suc (length_fill w [])
length_fill (suc w) (x ∷ l) = ap suc (length_fill w l)

fill_low : (n w : ℕ) (l : List ℕ) → ((x : ℕ) → Mem x l → x ≤ n) → (x : ℕ) → Mem x (fill w l) → x ≤ n
unfolding fill
fill_low n zero l h x m = absurd m
fill_low n (suc w) [] h x (inl e) = omega arith
fill_low n (suc w) [] h x (inr m) = fill_low n w [] h x m
fill_low n (suc w) (y ∷ l) h x (inl e) = omega (arith, h y (inl refl))
fill_low n (suc w) (y ∷ l) h x (inr m) = fill_low n w l (λ z k. h z (inr k)) x m

pair_low : (a b : ℕ) → a ≤ 786432 → b ≤ 786432 → Low (a ∷ b ∷ [])
pair_low a b p q x (inl e) = omega arith
pair_low a b p q x (inr (inl e)) = omega arith
pair_low a b p q x (inr (inr m)) = absurd m

module _ (plan : List ℤ) (s : Shape) (w : WellFormed plan s.rows s.cols s.lift) where
  abbrev G : Bipartite
  G = graph_of plan s

  nodes_small : (side : Side) → nodes (graph_of plan s) side ≤ 786432
  nodes_small side = omega (arith, nodes_of_law plan s side, by side)
    where
      by : (side : Side) → node_count s side ≤ 786432
      by Bits = omega (arith, w.few_bits)
      by Checks = mul-le-mul {n₂ = 192} {m₂ = 4096} w.few_rows w.small_lift

  few_blocks : (side : Side) → blocks s side ≤ 512
  few_blocks side = blocks_few s side w.few_rows w.few_cols

  neighbour_low : (side : Side) (x y : ℕ) → Mem y (neighbours (graph_of plan s) side x) → suc y ≤ 786432
  unfolding bits_of checks_of
  neighbour_low Bits x y m = omega (arith, mem_below y (nodes G Checks) (mem_select (λ c. G.joins c x) y (below (nodes G Checks)) m).0, nodes_small Checks)
  neighbour_low Checks x y m = omega (arith, mem_below y (nodes G Bits) (mem_select (G.joins x) y (below (nodes G Bits)) m).0, nodes_small Bits)

  degrees_low : (side : Side) → Low (degrees (graph_of plan s) side)
  unfolding degrees
  degrees_low side =
      each_image (λ x. length (neighbours G side x)) (λ n. n ≤ 786432) (below (nodes G side))
      (λ x m. omega (arith, degree_weight plan s w side x, weight_le plan s side (x / s.lift), few_blocks side))

  lists_low : (side : Side) (line : List ℕ) → Mem line (lists Padded (graph_of plan s) side) → Low line
  unfolding lists
  lists_low side =
      each_image (λ x. fill (greatest (degrees G side)) (map suc (neighbours G side x))) Low (below (nodes G side)) (λ x m.
      fill_low 786432 (greatest (degrees G side)) (map suc (neighbours G side x)) (each_image suc (λ n. n ≤ 786432) (neighbours G side x) (neighbour_low side x)))

  pub most_low : (side : Side) → greatest (degrees (graph_of plan s) side) ≤ 512
  most_low side = omega (arith, most_few plan s w side, few_blocks side)

  line_low : (line : List ℕ) → Mem line (lines_of (graph_of plan s)) → Low line
  unfolding lines_in
  line_low line (inl e) = rw e (pair_low (nodes G Bits) (nodes G Checks) (nodes_small Bits) (nodes_small Checks))
  line_low line (inr (inl e)) = rw e (pair_low (greatest (degrees G Bits)) (greatest (degrees G Checks)) (omega (arith, most_low Bits)) (omega (arith, most_low Checks)))
  line_low line (inr (inr (inl e))) = rw e (degrees_low Bits)
  line_low line (inr (inr (inr (inl e)))) = rw e (degrees_low Checks)
  line_low line (inr (inr (inr (inr m)))) = mem_either Low (lists Padded G Bits) (lists Padded G Checks) (lists_low Bits) (lists_low Checks) line m

  -- How long the text is at most.

  length_lists : (side : Side) → length (lists Padded (graph_of plan s) side) ≡ nodes (graph_of plan s) side
  unfolding lists
  length_lists side = length-map (below (nodes G side)) (λ x. fill (greatest (degrees G side)) (map suc (neighbours G side x))) ∙ length_range 0 (nodes G side)

  numbers_lists : (side : Side) → length (numbers_of (lists Padded (graph_of plan s) side)) ≡ nodes (graph_of plan s) side * greatest (degrees (graph_of plan s) side)
  unfolding lists
  numbers_lists side =
      numbers_map (λ x. fill (greatest (degrees G side)) (map suc (neighbours G side x))) (greatest (degrees G side))
      (λ x. length_fill (greatest (degrees G side)) (map suc (neighbours G side x))) (below (nodes G side))
      ∙ ap (λ (n : ℕ). n * greatest (degrees G side)) (length_range 0 (nodes G side))

  length_degrees : (side : Side) → length (degrees (graph_of plan s) side) ≡ nodes (graph_of plan s) side
  unfolding degrees
  length_degrees side = length_map_below (λ x. length (neighbours G side x)) (nodes G side)

  lines_all : length (lines_of (graph_of plan s)) ≡ 4 + (nodes (graph_of plan s) Bits + nodes (graph_of plan s) Checks)
  unfolding lines_in
  lines_all = omega (arith, length-append (lists Padded G Bits) (lists Padded G Checks), length_lists Bits, length_lists Checks)

  numbers_all : length (numbers_of (lines_of (graph_of plan s)))
      ≡ 4 + (nodes (graph_of plan s) Bits + nodes (graph_of plan s) Checks)
      + (nodes (graph_of plan s) Bits * greatest (degrees (graph_of plan s) Bits) + nodes (graph_of plan s) Checks * greatest (degrees (graph_of plan s) Checks))
  unfolding lines_in numbers_of
  numbers_all =
      let more = numbers_of (lists Padded G Bits ++ lists Padded G Checks) in
      omega (
        arith,
        length-append (degrees G Bits) (degrees G Checks ++ more),
        length-append (degrees G Checks) more,
        length_degrees Bits,
        length_degrees Checks,
        numbers_append (lists Padded G Bits) (lists Padded G Checks),
        numbers_lists Bits,
        numbers_lists Checks,
      )

  pub text_most : length (text_of (lines_of (graph_of plan s)))
      ≤ 8 * (4 + (nodes (graph_of plan s) Bits + nodes (graph_of plan s) Checks))
      + 7 * (nodes (graph_of plan s) Bits * greatest (degrees (graph_of plan s) Bits) + nodes (graph_of plan s) Checks * greatest (degrees (graph_of plan s) Checks))
  text_most = omega (arith, text_of_le (lines_of G) line_low, lines_all, numbers_all)

  pub text_fits : length (text_of (lines_of (graph_of plan s))) < 2 ^ 64
  text_fits =
      omega (
        arith,
        text_most,
        nodes_small Bits,
        nodes_small Checks,
        mul-le-mul {n₂ = 786432} {m₂ = 512} (nodes_small Bits) (most_low Bits),
        mul-le-mul {n₂ = 786432} {m₂ = 512} (nodes_small Checks) (most_low Checks),
      )

-- The same of a layout.

same_bound : (n b c x y b' c' x' y' : ℕ) → b ≡ b' → c ≡ c' → x ≡ x' → y ≡ y' → n ≤ 8 * (4 + (b + c)) + 7 * (b * x + c * y) → n ≤ 8 * (4 + (b' + c')) + 7 * (b' * x' + c' * y')
same_bound n b c x y b' c' x' y' p q r t h = rw (p, q, r, t) at h

module _ (plan : List ℤ) (l : Layout) (down along : List ℕ) (m : Measured plan l down along) where
  pub layout_few : (l.bits ≤ 512) × (l.checks ≤ 512)
  layout_few =
      (omega (arith, m.most_bits, most_low plan l.shape m.ready.well Bits), omega (arith, m.most_checks, most_low plan l.shape m.ready.well Checks))

  pub layout_most : length (text_of (lines_of (graph_of plan l.shape))) ≤ most_bytes l
  layout_most =
      same_bound _ _ _ _ _ _ _ _ _ (nodes_of_law plan l.shape Bits) (nodes_of_law plan l.shape Checks) (sym m.most_bits) (sym m.most_checks)
      (text_most plan l.shape m.ready.well)
