-- Laws of the cyclic plan with the full mask: its refusals by what is lent, its place in the lent list, and that it passes at 12.
-- Assumes nothing.
use Prim.Native.Nat.{ℕ, zero, suc, ◌+◌, ◌-◌, ◌*◌, ◌≤◌, ◌<◌, min}
use mathlib.Core.Path.{◌≡◌, refl, sym, ap, ap₂, subst, ◌∙◌}
use mathlib.Core.Bool.{Bool, true, false, cond, not}
use mathlib.Core.List.{List, [], ◌∷◌, ◌++◌}
use Rattle.std.specs.Prelude.{Option, None, Some, Ok}
use Rattle.refusal.specs.Answer.{outcome}
use Rattle.exponent.specs.declared.Shape.{Shape}
use native.Mathlib.Omega.{arith}
use lib.Dec.{eqb}
use lib.IntN.{ℤ}
use lib.ListN.{length, take, drop, replicate, take-append-drop}
use lib.Seq.{sets, sets-eq, length-take-le}
use borrow.Author.Tests.{eq-eqb, eqb-true}
use Rattle.refusal.specs.declared.Refusal.{Refusal}
use Rattle.refusal.specs.declared.Refusal.TheVariants.{Lift, Order, TableLength}
use Rattle.refusal.specs.Lowest.{refuse, lowest}
use Rattle.refusal.specs.Place.{first_place}
use Rattle.refusal.proofs.Lowest.{lowest_next}
use Rattle.graph.specs.Count.{range, count}
use Rattle.graph.proofs.Decide.{by_bool}
use Rattle.graph.proofs.Cases.{all_at}
use Rattle.exponent.specs.Limits.{outside}
use Rattle.exponent.proofs.Rules.{inside}
use Rattle.square.specs.declared.supply.Family.TheVariants.{Cyclic}
use Rattle.square.specs.Table.{supplied_table}
use Rattle.square.specs.Mask.{row_ones, column_ones, weighs, weight}
use Rattle.square.proofs.Places.{square as product}
use Rattle.grid.specs.Plan.{plan_rows, plan_cols}
use Rattle.grid.proofs.Columns.{cols_small, plan_small}
use Rattle.refusal.specs.Lent.{lent}
use Rattle.refusal.proofs.Lent.{lent_of}
use Rattle.weights.specs.declared.Side.{Side}
use Rattle.weights.specs.declared.Side.TheVariants.{Bits, Checks}
use Rattle.weights.specs.declared.Room.{Room}
use Rattle.weights.specs.Weights.{shape_of, weights_of, Held, held, with_weights, room_of}
use Rattle.table.specs.Build.{supply_rules, table_rules, build_rules, build_refusal, built_plan, built_shape, after_build}
use Rattle.table.proofs.Accepted.{taken}
use Rattle.table.proofs.Plans.{GoodPlan, built_is_good}
use Rattle.planning.specs.declared.request.Request.{Request}
use Rattle.planning.specs.Output.{full_mask, rows_of, cols_of, cyclic_rules, cyclic_plan, cyclic_shape, cyclic_weights}
use Rattle.planning.specs.Steps.{side_of, table_in, Lists}

-- an order that is not allowed is refused, whatever is lent: 3 or 7
pub order_refused : (order lift : ℕ) (table : List ℤ) (mask : List ℕ) (room : Room) → outside 4 7 order ≡ true
    → lowest (build_rules order lift table mask room) ≡ Some (cond (outside 1 4096 lift) Lift Order)
unfolding lowest build_rules table_rules
order_refused order lift table mask room e = rw e (step (outside 1 4096 lift))
  where
    step : (t : Bool) → cond t (Some Lift) (Some Order) ≡ Some (cond t Lift Order)
    step true = refl
    step false = refl

-- the common weight of the full mask is the order: computed for each order that is allowed
pub weight_full : (order : ℕ) → 4 ≤ order → order ≤ 7 → weight order (full_mask order) ≡ order
unfolding weight weighs row_ones column_ones first_place range count
weight_full order h k =
    let e : order - 4 + 4 ≡ order = omega arith in
    eqb-true _ _ (subst (λ (n : ℕ). eqb (weight n (full_mask n)) n ≡ true) e (all_at 4 (λ m. eqb (weight (m + 4) (full_mask (m + 4))) (m + 4)) refl (order - 4) (omega arith)))

-- a built plan is good: well formed, and passing at 12
module _ (q : Request) (room : ℕ) (e : lowest (cyclic_rules q room) ≡ None) where
  pub cyclic_weight : weight q.order (full_mask q.order) ≡ q.order
  unfolding cyclic_rules
  cyclic_weight = let t = (taken _ _ _ _ _ e).of_table in weight_full q.order t.least_order t.most_order

  pub cyclic_is_good : GoodPlan (cyclic_plan q) (rows_of q) (cols_of q) q.lift q.order
  unfolding cyclic_rules cyclic_plan
  cyclic_is_good =
      subst (λ (L : ℕ). GoodPlan (built_plan q.order q.lift (supplied_table Cyclic q.order) (full_mask q.order)) (plan_rows q.order L) (plan_cols q.order L) q.lift L)
      cyclic_weight (built_is_good q.order q.lift (supplied_table Cyclic q.order) (full_mask q.order) _ e)

  pub cyclic_fits : (min (rows_of q * cols_of q) room ≡ length (cyclic_plan q)) × (rows_of q * cols_of q ≤ room)
  unfolding cyclic_rules
  cyclic_fits =
      let w = cyclic_is_good.is_well_formed.whole in
      let p : min (rows_of q * cols_of q) room ≡ rows_of q * cols_of q =
      (taken _ _ _ _ _ e).place ∙ ap (λ (L : ℕ). plan_rows q.order L * plan_cols q.order L) cyclic_weight in
      (p ∙ sym w, omega arith)

-- what the builder leaves, in the lent list that it had a part of
answer : (o : Option Refusal) (s t : Shape) → (o ≡ None → s ≡ t) → outcome o s ≡ outcome o t
answer None s t h = ap Ok (h refl)
answer (Some r) s t h = refl

placed : (o : Option Refusal) (new want plan : List ℤ) (room : ℕ) → (o ≡ None → (new ≡ want) × (room ≡ length want) × (room ≤ length plan))
    → lent o new (take room plan) ++ drop room plan ≡ lent o (sets plan 0 want) plan
placed None new want plan room h =
    let (n, e, k) = h refl in
    let z : room ≡ 0 + length want = omega arith in
    ap (λ (l : List ℤ). l ++ drop room plan) n ∙ sym (sets-eq want plan 0 (omega arith) ∙ ap (λ (m : ℕ). want ++ drop m plan) (sym z))
placed (Some r) new want plan room h = take-append-drop room plan

either : {A : Type 0} (o : Option Refusal) (new want old : List A) → (o ≡ None → new ≡ want) → lent o new old ≡ lent o want old
either None new want old h = h refl
either (Some r) new want old h = refl

take_replicate : (k m a : ℕ) → k ≤ m → take k (replicate m a) ≡ replicate k a
take_replicate zero m a h = refl
take_replicate (suc k) zero a h = absurd (omega arith)
take_replicate (suc k) (suc m) a h = ap (λ (l : List ℕ). a ∷ l) (take_replicate k m a (omega arith))

pub side_small : (order : ℕ) → side_of order < 8
unfolding side_of
side_small order = by_bool (outside 4 7 order) (λ e. rw e (omega arith)) (λ e. rw e (omega (arith, ((inside 4 7 order).0 e).1)))

-- the sizes for the side n
module _ (order n : ℕ) (e : n ≡ side_of order) where
  pub side_area : n * n ≤ 49
  side_area = let h : n < 8 = omega (arith, side_small order) in product n n h h

  pub side_cols : n * (n * n) ≤ 343
  side_cols = let h : n < 8 = omega (arith, side_small order) in cols_small n n h h

  pub side_plan : 3 * (n * n) * (n * (n * n)) ≤ 50421
  side_plan = let h : n < 8 = omega (arith, side_small order) in plan_small n n h h

-- a part of a list that is long enough
pub part_length : {A : Type 0} (n k : ℕ) (l : List A) → n ≤ k → k ≡ length l → n ≡ length (take n l)
part_length n k l h e = sym (length-take-le n l (omega arith))

-- what is lent to the builder: the parts of a list of 49 numbers, of 49 ones and of the plan, for the side n
module _ (q : Request) (plan square : List ℤ) (n room : ℕ) (whole : length square ≡ 49) (s : n ≡ side_of q.order)
    (r : room ≡ min (3 * (n * n) * (n * (n * n))) (length plan)) (byrow bycol : List ℕ) (lists : Lists n byrow bycol) where
  abbrev table : List ℤ
  table = table_in q.order (take (n * n) square)

  abbrev mask : List ℕ
  mask = take (n * n) (replicate 49 1)

  abbrev part : Held
  part = held (take room plan) byrow bycol

  abbrev refusal : Option Refusal
  refusal = build_refusal q.order q.lift table mask part

  module _ (e : outside 4 7 q.order ≡ false) where
    side_is : n ≡ q.order
    unfolding side_of
    side_is = s ∙ ap (λ (t : Bool). cond t 0 q.order) e

    small : n * n ≤ 49
    small = let k = ((inside 4 7 q.order).0 e).1 in let h : n < 8 = omega (arith, side_is) in product n n h h

    square_is : n * n ≡ q.order * q.order
    square_is = ap (λ (k : ℕ). k * k) side_is

    table_is : table ≡ supplied_table Cyclic q.order
    unfolding table_in supply_rules lowest
    table_is =
        let l : length (take (n * n) square) ≡ q.order * q.order = length-take-le (n * n) square (omega (arith, small, whole)) ∙ square_is in
        ap (λ (o : Option Refusal). lent o (supplied_table Cyclic q.order) (take (n * n) square))
        (lowest_next (outside 4 7 q.order) Order (refuse TableLength (not (eqb (length (take (n * n) square)) (q.order * q.order))) ∷ []) e
        ∙ lowest_next (not (eqb (length (take (n * n) square)) (q.order * q.order))) TableLength [] (ap not (eq-eqb _ _ l)))

    mask_is : mask ≡ full_mask q.order
    mask_is = take_replicate (n * n) 49 1 small ∙ ap (λ (k : ℕ). replicate k 1) square_is

    length_is : length (take room plan) ≡ min (rows_of q * cols_of q) (length plan)
    length_is = length-take-le room plan (omega arith) ∙ r ∙ ap (λ (k : ℕ). min (3 * (k * k) * (k * (k * k))) (length plan)) side_is

    rows_is : length byrow ≡ rows_of q
    rows_is = lists.0 ∙ ap (λ (k : ℕ). 3 * (k * k)) side_is

    cols_is : length bycol ≡ cols_of q
    cols_is = lists.1 ∙ ap (λ (k : ℕ). k * (k * k)) side_is

    room_is : room_of part ≡ record { plan = min (rows_of q * cols_of q) (length plan); rows = rows_of q; cols = cols_of q }
    room_is = λ i. record { plan = length_is i; rows = rows_is i; cols = cols_is i }

  pub same_refusal : refusal ≡ lowest (cyclic_rules q (length plan))
  unfolding cyclic_rules
  same_refusal =
      by_bool (outside 4 7 q.order)
      (λ e. order_refused q.order q.lift _ _ _ e ∙ sym (order_refused q.order q.lift _ _ _ e))
      (λ e.
      ap (λ (t : List ℤ). lowest (build_rules q.order q.lift t mask (room_of part))) (table_is e)
      ∙ ap (λ (m : List ℕ). lowest (build_rules q.order q.lift (supplied_table Cyclic q.order) m (room_of part))) (mask_is e)
      ∙ ap (λ (k : Room). lowest (build_rules q.order q.lift (supplied_table Cyclic q.order) (full_mask q.order) k)) (room_is e))

  -- where nothing is refused, the order is allowed
  taken_order : refusal ≡ None → outside 4 7 q.order ≡ false
  taken_order e = let t = (taken _ _ _ _ _ e).of_table in (inside 4 7 q.order).1 (t.least_order, t.most_order)

  weight_is : refusal ≡ None → weight q.order mask ≡ q.order
  weight_is e = ap (weight q.order) (mask_is (taken_order e)) ∙ cyclic_weight q (length plan) (sym same_refusal ∙ e)

  pub lent_answer : outcome refusal (built_shape q.order q.lift mask) ≡ outcome (lowest (cyclic_rules q (length plan))) (cyclic_shape q)
  lent_answer =
      answer refusal (built_shape q.order q.lift mask) (cyclic_shape q) (λ e. ap (λ (L : ℕ). shape_of (plan_rows q.order L) (plan_cols q.order L) q.lift) (weight_is e))
      ∙ ap (λ (o : Option Refusal). outcome o (cyclic_shape q)) same_refusal

  same_plan : outside 4 7 q.order ≡ false → built_plan q.order q.lift table mask ≡ cyclic_plan q
  unfolding cyclic_plan
  same_plan e =
      ap (λ (t : List ℤ). built_plan q.order q.lift t mask) (table_is e)
      ∙ ap (built_plan q.order q.lift (supplied_table Cyclic q.order)) (mask_is e)

  abbrev new : Held
  new = with_weights (built_plan q.order q.lift table mask) (built_shape q.order q.lift mask)

  pub lent_plan : (after_build q.order q.lift table mask part).plan ++ drop room plan ≡ lent (lowest (cyclic_rules q (length plan))) (sets plan 0 (cyclic_plan q)) plan
  lent_plan =
      ap (λ (l : List ℤ). l ++ drop room plan) (lent_of (λ h. h.plan) refusal new part)
      ∙ placed refusal (built_plan q.order q.lift table mask) (cyclic_plan q) plan room (λ e.
      let o = taken_order e in
      let k : room ≤ length plan = omega arith in
      (same_plan o, sym (length-take-le room plan k) ∙ length_is o ∙ (cyclic_fits q (length plan) (sym same_refusal ∙ e)).0, k))
      ∙ ap (λ (o : Option Refusal). lent o (sets plan 0 (cyclic_plan q)) plan) same_refusal

  -- a list of weights, of the three together
  lent_weights : (side : Side) (of : Held → List ℕ) → of new ≡ weights_of new.plan (built_shape q.order q.lift mask) side
      → of (after_build q.order q.lift table mask part) ≡ lent (lowest (cyclic_rules q (length plan))) (cyclic_weights q side) (of part)
  unfolding cyclic_weights
  lent_weights side of is =
      lent_of of refusal new part
      ∙ either refusal (of new) (cyclic_weights q side) (of part)
      (λ e. is ∙ ap₂ (λ (p : List ℤ) (L : ℕ). weights_of p (shape_of (plan_rows q.order L) (plan_cols q.order L) q.lift) side) (same_plan (taken_order e)) (weight_is e))
      ∙ ap (λ (o : Option Refusal). lent o (cyclic_weights q side) (of part)) same_refusal

  pub lent_rows : (after_build q.order q.lift table mask part).rows ≡ lent (lowest (cyclic_rules q (length plan))) (cyclic_weights q Checks) byrow
  lent_rows = lent_weights Checks (λ h. h.rows) refl

  pub lent_cols : (after_build q.order q.lift table mask part).cols ≡ lent (lowest (cyclic_rules q (length plan))) (cyclic_weights q Bits) bycol
  lent_cols = lent_weights Bits (λ h. h.cols) refl
