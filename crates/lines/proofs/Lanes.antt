-- The blocks of a lane: the filled ones, found by jumping from one to the next, and the neighbours that they give a node.
-- Assumes nothing.
use Prim.Native.Nat.{ℕ, zero, suc, ◌+◌, ◌-◌, ◌*◌, ◌/◌, ◌%◌, ◌≤◌, ◌<◌}
use mathlib.Core.Path.{◌≡◌, refl, sym, ap, ◌∙◌}
use mathlib.Core.Bool.{Bool, true, false}
use mathlib.Core.List.{List, [], ◌∷◌}
use Rattle.std.specs.Prelude.{Option, None, Some}
use native.Mathlib.Omega.{arith}
use native.Mathlib.Nat.{sub-zero, mod-lt, div-add-mod', div-lt_iff_lt-mul, mul-le-mul}
use native.Mathlib.Numerals.{add-one}
use lib.IntN.{ℤ}
use lib.ListN.{length}
use borrow.Author.Tests.{lt-ltb, le-ltb}
use Rattle.graph.specs.Count.{range}
use Rattle.graph.proofs.Decide.{by_le, both_ways}
use Rattle.exponent.specs.declared.block.Block.{Block}
use Rattle.exponent.specs.declared.block.Block.TheVariants.{Zero, Shift, Invalid}
use Rattle.exponent.specs.declared.Shape.{Shape}
use Rattle.exponent.specs.Plan.{filled}
use Rattle.exponent.specs.Limits.{WellFormed}
use Rattle.exponent.specs.Tanner.{tanner, graph_of}
use Rattle.exponent.specs.Neighbours.{gather}
use Rattle.exponent.proofs.Tanner.{shift_low, bits_of_check, checks_of_bit, check_degree, bit_degree}
use Rattle.index.specs.Index.{NextFrom}
use Rattle.weights.specs.declared.Side.{Side}
use Rattle.weights.specs.declared.Side.TheVariants.{Bits, Checks}
use Rattle.lines.specs.Alist.{nodes, neighbours}
use Rattle.weights.specs.Weights.{lanes, blocks, block_on, filled_on, weight_of}
use Rattle.weights.proofs.Weights.{lanes_few}
use Rattle.lines.specs.Sides.{Ready, Small, node_count, next_block, turned, pick_by, pick_on, numbered, number_in, rest_of}

-- Ranges, and what skips what does not count.

pub range_next : (k n : ℕ) → k < n → range k (n - k) ≡ k ∷ range (k + 1) (n - (k + 1))
unfolding range
range_next k n h =
    ap (range k) (let e : n - k ≡ suc (n - (k + 1)) = omega arith in e)
    ∙ ap (λ (m : ℕ). k ∷ range m (n - (k + 1))) (sym (add-one k))

pub range_end : (k n : ℕ) → n ≤ k → range k (n - k) ≡ []
unfolding range
range_end k n h = ap (range k) (let e : n - k ≡ 0 = omega arith in e)

-- numbers that fail the test may be left out of the list: then a jump to the next one that may pass changes nothing
module _ {A : Type 0} (f : List ℕ → A) (test : ℕ → Bool) (skips : (k : ℕ) (l : List ℕ) → test k ≡ false → f (k ∷ l) ≡ f l) where
  jump_by : (d k n m : ℕ) → m ≡ k + d → NextFrom test k n m → f (range k (n - k)) ≡ f (range m (n - m))
  jump_by zero k n m e h = ap (λ (x : ℕ). f (range x (n - x))) (let q : k ≡ m = omega arith in q)
  jump_by (suc d) k n m e h =
      let p = h.inside in
      ap f (range_next k n (omega arith))
      ∙ skips k (range (k + 1) (n - (k + 1))) (h.none_between k (omega arith) (omega arith))
      ∙ jump_by d (k + 1) n m (omega arith) (record { from_here = omega arith; inside = p; none_between = λ i a b. h.none_between i (omega arith) b; passes = h.passes })

  pub jump : (k n m : ℕ) → NextFrom test k n m → f (range k (n - k)) ≡ f (range m (n - m))
  jump k n m h = jump_by (m - k) k n m (omega (arith, h.from_here)) h

-- One block.

pub pick_shift : (side : Side) (lift y e : ℕ) → pick_by side lift y (Shift e) ≡ Some (turned side lift y e)
pick_shift Bits lift y e = refl
pick_shift Checks lift y e = refl

pub turned_low : (side : Side) (lift y e : ℕ) → 0 < lift → turned side lift y e < lift
turned_low Bits lift y e h = mod-lt (y + (lift - e)) h
turned_low Checks lift y e h = mod-lt (y + e) h

pub pick_none : (side : Side) (lift y : ℕ) (b : Block) → filled b ≡ false → pick_by side lift y b ≡ None
pick_none Bits lift y Zero e = refl
pick_none Checks lift y Zero e = refl
pick_none side lift y (Shift d) e = both_ways {t = true} refl e
pick_none Bits lift y Invalid e = refl
pick_none Checks lift y Invalid e = refl

module _ (lift : ℕ) (pick : ℕ → Option ℕ) (k : ℕ) (l : List ℕ) where
  gather_none : pick k ≡ None → gather lift pick (k ∷ l) ≡ gather lift pick l
  unfolding gather
  gather_none e = rw e

  gather_some : (v : ℕ) → pick k ≡ Some v → gather lift pick (k ∷ l) ≡ (k * lift + v) ∷ gather lift pick l
  unfolding gather
  gather_some v e = rw e

-- Sizes.

pub small : (plan : List ℤ) (s : Shape) → WellFormed plan s.rows s.cols s.lift → Small s
small plan s w = record { few_rows = w.few_rows; few_cols = w.few_cols; small_lift = w.small_lift }

pub nodes_few : (s : Shape) (side : Side) → Small s → node_count s side ≤ 2097152
nodes_few s side h = mul-le-mul {n₂ = 512} {m₂ = 4096} (lanes_few s side h.few_rows h.few_cols) h.small_lift

pub node_lane : (s : Shape) (side : Side) (x : ℕ) → 0 < s.lift → x < node_count s side → x / s.lift < lanes s side
node_lane s side x h k = (div-lt_iff_lt-mul h).1 k

-- A lane of a valid plan.

module _ (plan : List ℤ) (s : Shape) where
  pub nodes_of_law : (side : Side) → nodes (graph_of plan s) side ≡ node_count s side
  unfolding tanner
  nodes_of_law Bits = refl
  nodes_of_law Checks = refl

  pub shift_on : (side : Side) (lane k e : ℕ) → 0 < s.lift → block_on plan s side lane k ≡ Shift e → e < s.lift
  shift_on Bits lane k e h q = shift_low plan s.cols s.lift k lane e h q
  shift_on Checks lane k e h q = shift_low plan s.cols s.lift lane k e h q

  -- the number that block k has for node y of a lane
  module _ (side : Side) (lane y k : ℕ) where
    pub number_past : blocks s side ≤ k → 0 ≡ number_in plan s side lane y k
    unfolding number_in
    number_past h = rw (le-ltb k (blocks s side) h)

    pub number_filled : k < blocks s side → (e : ℕ) → block_on plan s side lane k ≡ Shift e → k * s.lift + turned side s.lift y e + 1 ≡ number_in plan s side lane y k
    unfolding number_in
    number_filled h e q = rw (lt-ltb k (blocks s side) h, q, pick_shift side s.lift y e) (add-one (k * s.lift + turned side s.lift y e))

    pub number_unfilled : k < blocks s side → filled_on plan s side lane k ≡ false → 0 ≡ number_in plan s side lane y k
    unfolding number_in
    number_unfilled h q = rw (lt-ltb k (blocks s side) h, pick_none side s.lift y (block_on plan s side lane k) q)

    number_joined : k < blocks s side → filled_on plan s side lane k ≡ true → 0 < number_in plan s side lane y k
    number_joined h q = by (block_on plan s side lane k) refl q
      where
        by : (b : Block) → block_on plan s side lane k ≡ b → filled b ≡ true → 0 < number_in plan s side lane y k
        by Zero e t = both_ways t refl
        by (Shift d) e t = omega (arith, number_filled h d e)
        by Invalid e t = both_ways t refl

  -- the neighbours of node x from block k on
  pub rest_end : (side : Side) (x k : ℕ) → blocks s side ≤ k → rest_of plan s side x k ≡ []
  unfolding rest_of gather
  rest_end side x k h = rw (range_end k (blocks s side) h)

  rest_next : (side : Side) (x k y : ℕ) → number_in plan s side (x / s.lift) (x % s.lift) k ≡ suc y → rest_of plan s side x k ≡ y ∷ rest_of plan s side x (k + 1)
  unfolding rest_of number_in
  rest_next side x k y e =
      by_le (blocks s side) k
      (λ h. absurd (omega (arith, rw (le-ltb k (blocks s side) h) at e)))
      (λ h. rw (range_next k (blocks s side) h) (step (pick_on plan s side (x / s.lift) (x % s.lift) k) refl (rw (lt-ltb k (blocks s side) h) at e)))
    where
      step : (o : Option ℕ) → pick_on plan s side (x / s.lift) (x % s.lift) k ≡ o → numbered s.lift k o ≡ suc y
          → gather s.lift (pick_on plan s side (x / s.lift) (x % s.lift)) (k ∷ range (k + 1) (blocks s side - (k + 1))) ≡ y ∷ gather s.lift (pick_on plan s side (x / s.lift) (x % s.lift)) (range (k + 1) (blocks s side - (k + 1)))
      step None p q = absurd (omega arith)
      step (Some v) p q = gather_some _ _ _ _ v p ∙ ap (λ (n : ℕ). n ∷ gather s.lift (pick_on plan s side (x / s.lift) (x % s.lift)) (range (k + 1) (blocks s side - (k + 1)))) (omega arith)

  module _ (w : WellFormed plan s.rows s.cols s.lift) where
    -- the neighbours of a node, and its degree
    pub neighbours_rest : (side : Side) (x : ℕ) → neighbours (graph_of plan s) side x ≡ rest_of plan s side x 0
    unfolding rest_of
    neighbours_rest Bits x =
        ap (neighbours (graph_of plan s) Bits) (sym (div-add-mod' x s.lift))
        ∙ checks_of_bit plan s.rows s.cols s.lift w.some_lift (x / s.lift) (x % s.lift) (mod-lt x w.some_lift)
        ∙ ap (λ (n : ℕ). gather s.lift (pick_on plan s Bits (x / s.lift) (x % s.lift)) (range 0 n)) (sym (sub-zero (blocks s Bits)))
    neighbours_rest Checks x =
        ap (neighbours (graph_of plan s) Checks) (sym (div-add-mod' x s.lift))
        ∙ bits_of_check plan s.rows s.cols s.lift w.some_lift (x / s.lift) (x % s.lift) (mod-lt x w.some_lift)
        ∙ ap (λ (n : ℕ). gather s.lift (pick_on plan s Checks (x / s.lift) (x % s.lift)) (range 0 n)) (sym (sub-zero (blocks s Checks)))

    pub degree_weight : (side : Side) (x : ℕ) → length (neighbours (graph_of plan s) side x) ≡ weight_of plan s side (x / s.lift)
    degree_weight Bits x =
        ap (λ (n : ℕ). length (neighbours (graph_of plan s) Bits n)) (sym (div-add-mod' x s.lift))
        ∙ bit_degree plan s.rows s.cols s.lift w.some_lift (x / s.lift) (x % s.lift) (mod-lt x w.some_lift)
    degree_weight Checks x =
        ap (λ (n : ℕ). length (neighbours (graph_of plan s) Checks n)) (sym (div-add-mod' x s.lift))
        ∙ check_degree plan s.rows s.cols s.lift w.some_lift (x / s.lift) (x % s.lift) (mod-lt x w.some_lift)

  module _ (down along : List ℕ) (r : Ready plan s down along) where
    next_from_law : (side : Side) (lane k : ℕ) → lane < lanes s side → k < blocks s side → NextFrom (filled_on plan s side lane) k (blocks s side) (next_block down along s side lane k)
    next_from_law Bits lane k h i = r.down_index.next k lane i h
    next_from_law Checks lane k h i = r.along_index.next lane k h i

    -- ONE TURN: a jump from block k to m, and a step past it
    module _ (side : Side) (lane k m : ℕ) (h : lane < lanes s side) (i : k < blocks s side) (e : m ≡ next_block down along s side lane k) where
      next : NextFrom (filled_on plan s side lane) k (blocks s side) m
      next = rw e (next_from_law side lane k h i)

      pub next_le : (k ≤ m) × (m ≤ blocks s side)
      next_le = (next.from_here, next.inside)

    module _ (side : Side) (x k m : ℕ) (h : x < node_count s side) (i : k < blocks s side) (e : m ≡ next_block down along s side (x / s.lift) k) where
      landed : NextFrom (filled_on plan s side (x / s.lift)) k (blocks s side) m
      landed = next side (x / s.lift) k m (node_lane s side x r.well.some_lift h) i e

      jumped : rest_of plan s side x k ≡ rest_of plan s side x m
      unfolding rest_of
      jumped =
          jump (gather s.lift (pick_on plan s side (x / s.lift) (x % s.lift))) (filled_on plan s side (x / s.lift))
          (λ k l q. gather_none s.lift (pick_on plan s side (x / s.lift) (x % s.lift)) k l (pick_none side s.lift (x % s.lift) (block_on plan s side (x / s.lift) k) q))
          k (blocks s side) m landed

      pub rest_hit : (y : ℕ) → number_in plan s side (x / s.lift) (x % s.lift) m ≡ suc y → rest_of plan s side x k ≡ y ∷ rest_of plan s side x (m + 1)
      rest_hit y q = jumped ∙ rest_next side x m y q

      -- a jump that finds no neighbour comes to the end
      pub rest_none : number_in plan s side (x / s.lift) (x % s.lift) m ≡ 0 → (rest_of plan s side x k ≡ []) × (rest_of plan s side x (m + 1) ≡ [])
      rest_none q =
          by_le (blocks s side) m
          (λ past. (jumped ∙ rest_end side x m past, rest_end side x (m + 1) (omega arith)))
          (λ low. absurd (omega (arith, number_joined side (x / s.lift) (x % s.lift) m low (landed.passes low))))
