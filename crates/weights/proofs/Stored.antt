-- A plan with one entry changed: it stays well formed, only the row and the column of the entry get another weight. Assumes nothing.
use Prim.Native.Nat.{ℕ, ◌+◌, ◌*◌, ◌/◌, ◌%◌, ◌<◌}
use mathlib.Core.Path.{◌≡◌, sym, ap, ◌∙◌}
use mathlib.Core.Logic.{◌≢◌}
use mathlib.Core.Bool.{false}
use mathlib.Core.List.{List}
use native.Mathlib.Omega.{arith}
use lib.IntN.{ℤ, pos}
use lib.ListN.{length, get_or, set, length-set}
use lib.Seq.{get_or-set_same, get_or-set_other}
use Rattle.graph.specs.Count.{below}
use Rattle.graph.proofs.Count.{count_same, mem_range}
use Rattle.graph.proofs.Decide.{by_eq}
use Rattle.exponent.specs.declared.Shape.{Shape}
use Rattle.exponent.specs.Plan.{block_of, invalid_entry, entry_at, block_at, filled}
use Rattle.exponent.specs.Limits.{WellFormed}
use Rattle.exponent.proofs.Numbers.{number_low, block_of_law, place_of}
use Rattle.weights.specs.declared.Side.{Side}
use Rattle.weights.specs.declared.Side.TheVariants.{Bits, Checks}
use Rattle.weights.specs.declared.change.At.{At}
use Rattle.weights.specs.Weights.{lanes, blocks, filled_on, weight_of, weights_of}
use Rattle.weights.specs.Change.{stored}
use Rattle.weights.proofs.Weights.{weight_count, length_weights, weights_at, weights_by}

-- the lane of a side in which a block lies
abbrev pub lane_of : At → Side → ℕ
lane_of at Bits = at.col
lane_of at Checks = at.row

module _ (plan : List ℤ) (s : Shape) (at : At) (entry : ℤ) (w : WellFormed plan s.rows s.cols s.lift) (row_in : at.row < s.rows) (col_in : at.col < s.cols) where
  pub place_in_law : at.row * s.cols + at.col < length plan
  place_in_law = omega (arith, number_low at.row at.col s.rows s.cols row_in col_in, w.whole)

  pub stored_length : length (stored plan s at entry) ≡ length plan
  unfolding stored
  stored_length = length-set plan (at.row * s.cols + at.col) entry

  pub stored_same : get_or (stored plan s at entry) (at.row * s.cols + at.col) (pos 0) ≡ entry
  unfolding stored
  stored_same = get_or-set_same plan (at.row * s.cols + at.col) entry (pos 0) place_in_law

  pub stored_other : (place : ℕ) → place ≢ at.row * s.cols + at.col → get_or (stored plan s at entry) place (pos 0) ≡ get_or plan place (pos 0)
  unfolding stored
  stored_other place h = get_or-set_other plan (at.row * s.cols + at.col) place entry (pos 0) h

  pub stored_well : invalid_entry s.lift entry ≡ false → WellFormed (stored plan s at entry) s.rows s.cols s.lift
  stored_well valid =
      record {
        some_rows = w.some_rows;
        few_rows = w.few_rows;
        some_cols = w.some_cols;
        few_cols = w.few_cols;
        some_lift = w.some_lift;
        small_lift = w.small_lift;
        few_bits = w.few_bits;
        whole = stored_length ∙ w.whole;
        entries = λ place h.
            by_eq place (at.row * s.cols + at.col)
            (λ e. ap (λ (p : ℕ). invalid_entry s.lift (get_or (stored plan s at entry) p (pos 0))) e ∙ ap (invalid_entry s.lift) stored_same ∙ valid)
            (λ e. ap (invalid_entry s.lift) (stored_other place e) ∙ w.entries place (omega (arith, stored_length)));
      }

  -- another block has another place, and stays
  block_other : (i j : ℕ) → j < s.cols → ((i ≡ at.row) × (j ≡ at.col) → ⊥) → block_at (stored plan s at entry) s.cols s.lift i j ≡ block_at plan s.cols s.lift i j
  unfolding block_at entry_at
  block_other i j h apart = ap (block_of s.lift) (stored_other (i * s.cols + j) λ e.
      apart (
        sym (block_of_law s.cols w.some_cols i j h) ∙ ap (λ (x : ℕ). x / s.cols) e ∙ block_of_law s.cols w.some_cols at.row at.col col_in,
        sym (place_of s.cols w.some_cols i j h) ∙ ap (λ (x : ℕ). x % s.cols) e ∙ place_of s.cols w.some_cols at.row at.col col_in,
      ))

  lane_block : (side : Side) (lane k : ℕ) → lane < lanes s side → k < blocks s side → lane ≢ lane_of at side
      → filled_on (stored plan s at entry) s side lane k ≡ filled_on plan s side lane k
  lane_block Bits lane k h g apart = ap filled (block_other k lane h (λ e. apart e.1))
  lane_block Checks lane k h g apart = ap filled (block_other lane k g (λ e. apart e.0))

  -- every lane but the entry's keeps its weight
  pub lane_other : (side : Side) (lane : ℕ) → lane < lanes s side → lane ≢ lane_of at side → weight_of (stored plan s at entry) s side lane ≡ weight_of plan s side lane
  lane_other side lane h apart =
      weight_count (stored plan s at entry) s side lane
      ∙ count_same (filled_on (stored plan s at entry) s side lane) (filled_on plan s side lane) (below (blocks s side))
      (λ k m. lane_block side lane k h (omega (arith, mem_range k 0 (blocks s side) m)) apart)
      ∙ sym (weight_count plan s side lane)

  lane_in : (side : Side) → lane_of at side < lanes s side
  lane_in Bits = col_in
  lane_in Checks = row_in

  -- THE LAW: with the entry's lane counted anew the list of a side is that of the new plan
  pub weights_stored : (side : Side)
      → set (weights_of plan s side) (lane_of at side) (weight_of (stored plan s at entry) s side (lane_of at side)) ≡ weights_of (stored plan s at entry) s side
  weights_stored side =
      let n = lane_of at side in
      let new = weight_of (stored plan s at entry) s side in
      let size : length (weights_of plan s side) ≡ lanes s side = length_weights plan s side in
      weights_by (stored plan s at entry) s side (set (weights_of plan s side) n (new n)) (length-set (weights_of plan s side) n (new n) ∙ size)
      (λ lane h.
      by_eq lane n
      (λ e. ap (λ (k : ℕ). get_or (set (weights_of plan s side) n (new n)) k 0) e ∙ get_or-set_same (weights_of plan s side) n (new n) 0 (omega (arith, size, lane_in side)) ∙ ap new (sym e))
      (λ e. get_or-set_other (weights_of plan s side) n lane (new n) 0 e ∙ weights_at plan s side lane h ∙ sym (lane_other side lane h e)))
