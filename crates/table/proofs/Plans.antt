-- What a built plan is: well formed, three filled blocks in each column and L in each row, and passing at 12. Assumes nothing.
use Prim.Native.Nat.{ℕ, ◌*◌, ◌/◌, ◌%◌, ◌<◌, ◌≤◌}
use mathlib.Core.Path.{◌≡◌, refl, sym, ap, ◌∙◌}
use mathlib.Core.Bool.{true, false}
use mathlib.Core.List.{List}
use Rattle.std.specs.Prelude.{None}
use native.Mathlib.Nat.{mod-lt, div-add-mod', div-lt_iff_lt-mul, mul-le-mul}
use native.Mathlib.Omega.{arith}
use lib.IntN.{ℤ, pos}
use lib.ListN.{get_or}
use Rattle.refusal.specs.Lowest.{lowest, rising}
use Rattle.graph.specs.Count.{below, count}
use Rattle.graph.specs.Girth.{Passes}
use Rattle.graph.proofs.Lists.{get_or_mem}
use Rattle.exponent.specs.Plan.{invalid_entry, block_at, filled}
use Rattle.exponent.specs.Limits.{plan_rules, WellFormed}
use Rattle.exponent.specs.Tanner.{tanner, column_weight, row_weight, ThreeBlocks}
use Rattle.exponent.proofs.Rules.{accepted}
use Rattle.weights.specs.declared.Room.{Room}
use Rattle.square.specs.Table.{table_at}
use Rattle.square.specs.Mask.{mask_at, weight, Common}
use Rattle.square.proofs.Places.{square}
use Rattle.square.proofs.Totals.{tally_places}
use Rattle.square.proofs.Repeats.{sound_exactly}
use Rattle.grid.specs.declared.Part.TheVariants.{AJ}
use Rattle.grid.specs.Plan.{columns, rows, row_of, meets, shift_at, plan_rows, plan_cols, table_plan}
use Rattle.grid.proofs.Columns.{cols_small}
use Rattle.grid.proofs.Listed.{mem_column, mem_row}
use Rattle.grid.proofs.Shape.{point, columns_count, rows_count, plan_length, column_three, row_meets}
use Rattle.grid.proofs.Edges.{entry_valid, entry_filled, nth_row, nth_column, plan_at, block_is, plan_passes_12}
use Rattle.table.specs.Build.{supply_rules, table_rules, mask_rules, build_rules, built_plan}
use Rattle.table.proofs.Accepted.{taken}

-- the numbers of the refusals rise, whatever is lent
pub rules_rise : (order lift : ℕ) (table : List ℤ) (mask : List ℕ) (room : Room) → rising (build_rules order lift table mask room) ≡ true
unfolding build_rules table_rules mask_rules
rules_rise order lift table mask room = refl

pub supply_rules_rise : (order room : ℕ) → rising (supply_rules order room) ≡ true
unfolding supply_rules
supply_rules_rise order room = refl

module _ (J L P : ℕ) (s : ℕ → ℕ → ℕ) (bytes : List ℕ) (p : 0 < P) (w : Common J bytes L) where
  some_order : 0 < J
  some_order = omega (arith, w.least, w.most)

  -- a block is filled exactly where its row meets its column
  filled_is : (i j : ℕ) → i < plan_rows J L → j < plan_cols J L
      → filled (block_at (table_plan J L P s (mask_at J bytes)) (plan_cols J L) P i j) ≡ meets (nth_row J L P s bytes p w i) (nth_column J L P s bytes p w j)
  filled_is i j hi hj =
      ap filled (block_is J L P s bytes p w i j hi hj)
      ∙ entry_filled P _ (mod-lt (shift_at J s (nth_row J L P s bytes p w i).part (nth_column J L P s bytes p w j)) p)
      (meets (nth_row J L P s bytes p w i) (nth_column J L P s bytes p w j))

  column_is_3 : (j : ℕ) → j < plan_cols J L → column_weight (table_plan J L P s (mask_at J bytes)) (plan_rows J L) (plan_cols J L) P j ≡ 3
  unfolding column_weight
  column_is_3 j h =
      let q = nth_column J L P s bytes p w j in
      let m = mem_column J L (mask_at J bytes) some_order q (get_or_mem (columns J L (mask_at J bytes)) j (point 0 0 0) (omega (arith, columns_count J L bytes w))) in
      ap (λ (n : ℕ). count (λ i. filled (block_at (table_plan J L P s (mask_at J bytes)) (plan_cols J L) P i j)) (below n)) (sym (rows_count J L bytes w))
      ∙ tally_places (λ v. meets v q) (row_of AJ 0 0) _ (rows J L (mask_at J bytes)) (λ i k. filled_is i j (omega (arith, rows_count J L bytes w)) h)
      ∙ column_three J L bytes w q m.a_in m.j_in m.r_in m.masked

  row_is_l : (i : ℕ) → i < plan_rows J L → row_weight (table_plan J L P s (mask_at J bytes)) (plan_cols J L) P i ≡ L
  unfolding row_weight
  row_is_l i h =
      let v = nth_row J L P s bytes p w i in
      ap (λ (n : ℕ). count (λ j. filled (block_at (table_plan J L P s (mask_at J bytes)) (plan_cols J L) P i j)) (below n)) (sym (columns_count J L bytes w))
      ∙ tally_places (meets v) (point 0 0 0) _ (columns J L (mask_at J bytes)) (λ j k. filled_is i j h (omega (arith, columns_count J L bytes w)))
      ∙ row_meets J L bytes w v.part v.one v.two
      (mem_row J L (mask_at J bytes) some_order v (get_or_mem (rows J L (mask_at J bytes)) i (row_of AJ 0 0) (omega (arith, rows_count J L bytes w))))

  valid : 0 < plan_cols J L → (place : ℕ) → place < plan_rows J L * plan_cols J L → invalid_entry P (get_or (table_plan J L P s (mask_at J bytes)) place (pos 0)) ≡ false
  valid c place h =
      let i = place / plan_cols J L in
      let j = place % plan_cols J L in
      let hi : i < plan_rows J L = (div-lt_iff_lt-mul c).1 h in
      ap (λ (k : ℕ). invalid_entry P (get_or (table_plan J L P s (mask_at J bytes)) k (pos 0))) (sym (div-add-mod' place (plan_cols J L)))
      ∙ ap (invalid_entry P) (plan_at J L P s bytes p w i j hi (mod-lt place c))
      ∙ entry_valid P _ (mod-lt (shift_at J s (nth_row J L P s bytes p w i).part (nth_column J L P s bytes p w j)) p)
      (meets (nth_row J L P s bytes p w i) (nth_column J L P s bytes p w j))

  well_formed : J ≤ 7 → P ≤ 4096 → plan_cols J L * P ≤ 65536 → WellFormed (table_plan J L P s (mask_at J bytes)) (plan_rows J L) (plan_cols J L) P
  well_formed j7 p4 bits =
      let lj : 16 ≤ L * J = mul-le-mul {n₁ = 4} {m₁ = 4} {n₂ = L} {m₂ = J} w.least (omega (arith, w.least, w.most)) in
      let ll : 16 ≤ L * L = mul-le-mul {n₁ = 4} {m₁ = 4} {n₂ = L} {m₂ = L} w.least w.least in
      let jll : 64 ≤ J * (L * L) = mul-le-mul {n₁ = 4} {m₁ = 16} {n₂ = J} {m₂ = L * L} (omega (arith, w.least, w.most)) ll in
      let l7 : L ≤ 7 = omega (arith, w.most) in
      record {
        some_rows = omega arith;
        few_rows = omega (arith, square L J (omega arith) (omega arith));
        some_cols = omega arith;
        few_cols = omega (arith, cols_small J L (omega arith) (omega arith));
        some_lift = p;
        small_lift = p4;
        few_bits = bits;
        whole = plan_length J L P s bytes w;
        entries = λ place h. valid (omega arith) place (omega (arith, plan_length J L P s bytes w));
      }

-- what is promised of a plan with L filled blocks in each row
pub record GoodPlan (plan : List ℤ) (rows cols lift L : ℕ) : Type 0 where
  pub is_well_formed : WellFormed plan rows cols lift
  pub accepted_by_1_to_6 : lowest (plan_rules plan rows cols lift) ≡ None
  pub three_in_columns : (j : ℕ) → j < cols → column_weight plan rows cols lift j ≡ 3
  pub weight_in_rows : (i : ℕ) → i < rows → row_weight plan cols lift i ≡ L
  pub three_blocks : ThreeBlocks plan rows cols lift
  pub passes : Passes (tanner plan rows cols lift) 12

-- THE THEOREM: every plan that `build` builds
pub built_is_good : (order lift : ℕ) (table : List ℤ) (mask : List ℕ) (room : Room) → lowest (build_rules order lift table mask room) ≡ None
    → GoodPlan (built_plan order lift table mask) (plan_rows order (weight order mask)) (plan_cols order (weight order mask)) lift (weight order mask)
unfolding built_plan ThreeBlocks
built_is_good order lift table mask room e =
    let a = taken order lift table mask room e in
    let t = a.of_table in
    let s = table_at order table in
    let L = weight order mask in
    let p : 0 < lift = t.some_lift in
    let w = well_formed order L lift s mask p a.of_mask t.most_order t.small_lift a.few_bits in
    let three = column_is_3 order L lift s mask p a.of_mask in
    record {
      is_well_formed = w;
      accepted_by_1_to_6 = (accepted _ _ _ _).1 w;
      three_in_columns = three;
      weight_in_rows = row_is_l order L lift s mask p a.of_mask;
      three_blocks = λ j h. omega (arith, three j h);
      passes = plan_passes_12 order L lift s mask p a.of_mask ((sound_exactly order lift s (omega (arith, t.least_order)) p).0 t.sound);
    }
