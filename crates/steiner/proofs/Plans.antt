-- What a built plan is: well formed, its entries, three filled blocks in each column and (v − 1)/2 in each row, and passing at 6.
-- Assumes nothing.
use Prim.Native.Nat.{ℕ, ◌+◌, ◌-◌, ◌*◌, ◌/◌, ◌%◌, ◌<◌, ◌≤◌}
use mathlib.Core.Path.{◌≡◌, refl, sym, ap, ap₂, subst, ◌∙◌}
use mathlib.Core.Logic.{◌≢◌}
use mathlib.Core.Bool.{true, false}
use mathlib.Core.List.{List, [], ◌∷◌}
use Rattle.std.specs.Prelude.{Option, None, Some}
use Rattle.std.specs.Option.{is_some, unwrap_or}
use native.Mathlib.Nat.{mod-lt, div-add-mod', div-lt_iff_lt-mul}
use native.Mathlib.Omega.{arith}
use lib.IntN.{ℤ, pos}
use lib.ListN.{length, get_or}
use borrow.Author.Tests.{eq-eqb, ne_eqb}
use Rattle.refusal.specs.Lowest.{lowest, rising}
use Rattle.graph.specs.Count.{below}
use Rattle.graph.specs.Graph.{Bipartite, Joined}
use Rattle.graph.specs.Girth.{Passes}
use Rattle.graph.proofs.Count.{mem_range, count_same}
use Rattle.graph.proofs.Cycles.{passes_6}
use Rattle.exponent.specs.declared.block.Block.{Block}
use Rattle.exponent.specs.Plan.{block_of, invalid_entry, entry_at, block_at, filled}
use Rattle.exponent.specs.Limits.{WellFormed}
use Rattle.exponent.specs.Tanner.{edge, tanner, column_weight, row_weight, ThreeBlocks}
use Rattle.exponent.proofs.Rules.{accepted}
use Rattle.exponent.proofs.Numbers.{number_low, same_number, block_of_law, place_of, block_low, cancel}
use Rattle.weights.specs.declared.Room.{Room}
use Rattle.square.specs.Each.{each}
use Rattle.square.specs.Table.{block}
use Rattle.square.proofs.Each.{length_ones, ones_at, each_digits}
use Rattle.grid.proofs.Edges.{entry_valid, entry_filled, entry_edge}
use Rattle.steiner.specs.declared.system.Triple.{Triple}
use Rattle.steiner.specs.System.{is_order, cols, triple_at, place_in, has}
use Rattle.steiner.specs.Build.{build_rules, voltage_at, entry, steiner_plan}
use Rattle.steiner.specs.Plans.{Point, first, second, third, EntryOf, TriplePlan}
use Rattle.steiner.proofs.Orders.{small}
use Rattle.steiner.proofs.Pairs.{triple_rises, three_points, half_triples, share_one}
use Rattle.steiner.proofs.Accepted.{taken}

-- the numbers of the refusals rise, whatever is lent
pub rules_rise : (order lift : ℕ) (voltages : List ℤ) (room : Room) → rising (build_rules order lift voltages room) ≡ true
unfolding build_rules
rules_rise order lift voltages room = refl

-- A POINT of a rising triple, by its place
module _ (t : Triple) (r : t.a < t.b) (s : t.b < t.c) where
  placed : (k i : ℕ) → Point t k i → place_in t i ≡ Some k
  placed k i first = simp (eq-eqb t.a t.a refl)
  placed k i second = simp (ne_eqb t.b t.a (λ e. omega arith), eq-eqb t.b t.b refl)
  placed k i third = simp (ne_eqb t.c t.a (λ e. omega arith), ne_eqb t.c t.b (λ e. omega arith), eq-eqb t.c t.c refl)

  unplaced : (i : ℕ) → ((k : ℕ) → Point t k i → ⊥) → place_in t i ≡ None
  unplaced i h =
      simp (
        ne_eqb i t.a (λ e. h 0 (subst (Point t 0) (sym e) first)),
        ne_eqb i t.b (λ e. h 1 (subst (Point t 1) (sym e) second)),
        ne_eqb i t.c (λ e. h 2 (subst (Point t 2) (sym e) third)),
      )

-- THE PLAN
module _ (v P : ℕ) (voltages : List ℤ) (known : is_order v ≡ true) (p : 0 < P) where
  abbrev b : ℕ
  b = cols v

  abbrev plan : List ℤ
  plan = steiner_plan v P voltages

  some : 0 < cols v
  some = omega (arith, (small v known).some_triples)

  -- by digits
  plan_is : steiner_plan v P voltages ≡ each (v * cols v) (λ n. entry v P voltages (n / cols v) (n % cols v) ∷ [])
  unfolding steiner_plan
  plan_is = each_digits v (cols v) some (λ i j. entry v P voltages i j ∷ [])

  plan_length : length (steiner_plan v P voltages) ≡ v * cols v
  plan_length = ap length plan_is ∙ length_ones (v * cols v) (λ n. entry v P voltages (n / cols v) (n % cols v))

  plan_at : (i j : ℕ) → i < v → j < cols v → get_or (steiner_plan v P voltages) (i * cols v + j) (pos 0) ≡ entry v P voltages i j
  plan_at i j hi hj =
      ap (λ (l : List ℤ). get_or l (i * b + j) (pos 0)) plan_is
      ∙ ones_at (v * b) (λ n. entry v P voltages (n / b) (n % b)) (pos 0) (i * b + j) (number_low i j v b hi hj)
      ∙ ap₂ (entry v P voltages) (block_of_law b some i j hj) (place_of b some i j hj)

  -- the remainder that an entry holds where it is filled
  abbrev shift : ℕ → ℕ → ℕ
  shift i j = voltage_at voltages (3 * j + unwrap_or (place_in (triple_at v j) i) 0) % P

  low : (i j : ℕ) → shift i j < P
  low i j = mod-lt _ p

  is_block : (i j : ℕ) → i < v → j < cols v → get_or (steiner_plan v P voltages) (i * cols v + j) (pos 0) ≡ block (has (triple_at v j) i) (shift i j)
  unfolding entry
  is_block i j hi hj = plan_at i j hi hj

  block_is : (i j : ℕ) → i < v → j < cols v → block_at (steiner_plan v P voltages) (cols v) P i j ≡ block_of P (block (has (triple_at v j) i) (shift i j))
  unfolding block_at entry_at
  block_is i j hi hj = ap (block_of P) (is_block i j hi hj)

  -- a block is filled exactly where the triple has the point
  filled_is : (i j : ℕ) → i < v → j < cols v → filled (block_at (steiner_plan v P voltages) (cols v) P i j) ≡ has (triple_at v j) i
  filled_is i j hi hj = ap filled (block_is i j hi hj) ∙ entry_filled P (shift i j) (low i j) (has (triple_at v j) i)

  column_is_3 : (j : ℕ) → j < cols v → column_weight (steiner_plan v P voltages) v (cols v) P j ≡ 3
  unfolding column_weight
  column_is_3 j h =
      count_same (λ i. filled (block_at plan b P i j)) (has (triple_at v j)) (below v) (λ i m. filled_is i j (omega (arith, mem_range i 0 v m)) h)
      ∙ three_points v known j h

  row_is_half : (i : ℕ) → i < v → row_weight (steiner_plan v P voltages) (cols v) P i ≡ (v - 1) / 2
  unfolding row_weight
  row_is_half i h =
      count_same (λ j. filled (block_at plan b P i j)) (λ j. has (triple_at v j) i) (below b) (λ j m. filled_is i j h (omega (arith, mem_range j 0 b m)))
      ∙ half_triples v known i h

  entry_of : (i j : ℕ) → i < v → j < cols v → EntryOf v P voltages i j (get_or (steiner_plan v P voltages) (i * cols v + j) (pos 0))
  entry_of i j hi hj =
      let t = triple_at v j in
      let r = triple_rises v known j hj in
      let at : (o : Option ℕ) → place_in t i ≡ o
      → get_or (steiner_plan v P voltages) (i * cols v + j) (pos 0) ≡ block (is_some o) (voltage_at voltages (3 * j + unwrap_or o 0) % P)
      = λ o e. is_block i j hi hj ∙ ap (λ (o : Option ℕ). block (is_some o) (voltage_at voltages (3 * j + unwrap_or o 0) % P)) e in
      record { filled = λ k q. at (Some k) (placed t r.first r.second k i q); empty = λ h. at None (unplaced t r.first r.second i h) }

  valid : (place : ℕ) → place < v * cols v → invalid_entry P (get_or (steiner_plan v P voltages) place (pos 0)) ≡ false
  valid place h =
      let i = place / b in
      let j = place % b in
      ap (λ (k : ℕ). invalid_entry P (get_or plan k (pos 0))) (sym (div-add-mod' place b))
      ∙ ap (invalid_entry P) (is_block i j ((div-lt_iff_lt-mul some).1 h) (mod-lt place some))
      ∙ entry_valid P (shift i j) (low i j) (has (triple_at v j) i)

  well : P ≤ 4096 → cols v * P ≤ 65536 → WellFormed (steiner_plan v P voltages) v (cols v) P
  well small_lift bits =
      let s = small v known in
      record {
        some_rows = omega (arith, s.some_points);
        few_rows = omega (arith, s.few_points);
        some_cols = some;
        few_cols = omega (arith, s.few_triples);
        some_lift = p;
        small_lift = small_lift;
        few_bits = bits;
        whole = plan_length;
        entries = λ place h. valid place (omega (arith, plan_length));
      }

  -- what an edge tells: the triple has the point, and the turn
  abbrev G : Bipartite
  G = tanner plan v b P

  record Joins (c x : ℕ) : Type 0 where
    row_in : c / P < v
    col_in : x / P < cols v
    own : has (triple_at v (x / P)) (c / P) ≡ true
    turn : x % P ≡ (c % P + shift (c / P) (x / P)) % P

  joins_of : {c x : ℕ} → Joined G c x → Joins c x
  unfolding tanner
  joins_of {c} {x} u =
      let hi = block_low P p c v u.check_in in
      let hj = block_low P p x b u.bit_in in
      let e = entry_edge P (shift (c / P) (x / P)) (low (c / P) (x / P)) (has (triple_at v (x / P)) (c / P)) (c % P) (x % P)
      (sym (ap (λ (k : Block). edge k P (c % P) (x % P)) (block_is (c / P) (x / P) hi hj)) ∙ u.edge) in
      record { row_in = hi; col_in = hj; own = e.0; turn = e.1 }

  -- two checks of one row have no bit in common, and two bits of one column no check
  one_check : {c d x : ℕ} → Joined G c x → Joined G d x → c / P ≡ d / P → c ≡ d
  one_check {c} {d} {x} j k e =
      let t : (c % P + shift (c / P) (x / P)) % P ≡ (d % P + shift (c / P) (x / P)) % P
      = sym (joins_of j).turn ∙ (joins_of k).turn ∙ ap (λ (i : ℕ). (d % P + shift i (x / P)) % P) (sym e) in
      same_number P c d e (cancel P p (c % P) (d % P) (shift (c / P) (x / P)) (mod-lt c p) (mod-lt d p) t)

  one_bit : {c x y : ℕ} → Joined G c x → Joined G c y → x / P ≡ y / P → x ≡ y
  one_bit {c} {x} {y} j k e =
      same_number P x y e ((joins_of j).turn ∙ ap (λ (n : ℕ). (c % P + shift (c / P) n) % P) e ∙ sym (joins_of k).turn)

  no_four : (c d x y : ℕ) → Joined G c x → Joined G d x → Joined G d y → Joined G c y → c ≢ d → x ≢ y → ⊥
  no_four c d x y cx dx dy cy checks bits =
      let u = joins_of cx in
      let w = joins_of dx in
      let rows : c / P ≢ d / P = λ e. checks (one_check cx dx e) in
      bits (one_bit cx cy (share_one v known (c / P) (d / P) (x / P) (y / P) u.row_in w.row_in rows u.col_in (joins_of cy).col_in u.own w.own (joins_of cy).own (joins_of dy).own))

  passing : Passes (tanner (steiner_plan v P voltages) v (cols v) P) 6
  passing = passes_6 G no_four

-- THE THEOREM: every plan that `build` builds
pub built_plan_law : (order lift : ℕ) (voltages : List ℤ) (room : Room) → lowest (build_rules order lift voltages room) ≡ None
    → TriplePlan order lift voltages (steiner_plan order lift voltages)
unfolding ThreeBlocks
built_plan_law order lift voltages room e =
    let t = taken order lift voltages room e in
    let r = t.ready in
    let w = well order lift voltages r.known r.some_lift r.small_lift t.few_bits in
    let three = column_is_3 order lift voltages r.known r.some_lift in
    record {
      well_formed = w;
      accepted_by_1_to_6 = (accepted _ _ _ _).1 w;
      entries = entry_of order lift voltages r.known r.some_lift;
      three_in_columns = three;
      half_in_rows = row_is_half order lift voltages r.known r.some_lift;
      three_blocks = λ j h. omega (arith, three j h);
      passes = passing order lift voltages r.known r.some_lift;
    }
