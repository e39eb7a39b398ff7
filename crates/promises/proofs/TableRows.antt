-- Rows 3, 7 to 13, 15 and 25, of tables and masks: the tests of the table calls say what the rows say. The tests of 13, 15 and 25 take a weight
-- from the mask in any case; where there is no common one, 12 applies. Assumes nothing.
use Prim.Native.Nat.{ℕ, ◌*◌, ◌<◌}
use mathlib.Core.Path.{◌≡◌, refl, sym, ap, subst, ◌∙◌}
use mathlib.Core.Logic.{◌↔◌, ◌⊎◌, inl, inr, ◌≢◌}
use mathlib.Core.Bool.{true, not, ◌||◌, ◌&&◌}
use mathlib.Core.List.{List, [], ◌∷◌}
use native.Mathlib.Omega.{arith}
use borrow.Author.Tests.{ltb-true, lt-ltb}
use lib.Dec.{ltb, eqb}
use lib.IntN.{ℤ, pos, negsuc}
use lib.ListN.{length, get_or, get_or-eq_default}
use Rattle.refusal.specs.declared.Refusal.{Refusal}
use Rattle.refusal.specs.declared.Refusal.TheVariants.{Lift, Order, TableLength, NegativeEntry, MaskByte, MaskWeight, TableBits, PlanPlace, Weights}
use Rattle.refusal.specs.Number.{number, values}
use Rattle.refusal.specs.Lowest.{refuse, In}
use Rattle.refusal.specs.Place.{First, first_place, somewhere}
use Rattle.refusal.proofs.Place.{first_exactly, at_first, somewhere_no}
use Rattle.graph.proofs.Decide.{by_bool, by_le, both_ways}
use Rattle.exponent.specs.Limits.{outside}
use Rattle.exponent.proofs.Rules.{outside_exactly}
use Rattle.square.specs.declared.search.Quad.{Quad}
use Rattle.weights.specs.declared.Room.{Room}
use Rattle.square.specs.Table.{table_at, negative, unsound, first_repeat}
use Rattle.square.specs.Mask.{common, weight, Common}
use Rattle.square.proofs.Repeats as repeats
use Rattle.square.proofs.Weights.{weight_common, no_weight_exactly, weight_first, weight_is}
use Rattle.grid.specs.Plan.{plan_rows, plan_cols}
use Rattle.table.specs.Build.{supply_rules, unsound_at, table_rules, mask_rules, build_rules}
use Rattle.promises.specs.TurnedAway.{LiftRow, row_3, SquareRow, row_7, row_8, IsNegative, TableRow, row_9, row_10, MaskRow, row_11, row_12, row_13, PlaceRow, row_15, table_lists, ◌or◌}
use Rattle.promises.specs.TurnedAway as away
use Rattle.promises.proofs.Matching.{Listed, RowOf, RowOrLower, Matches, join, by_rule, no_rule, at_rule, further}
use Rattle.promises.proofs.PlanRows.{differs, either_exactly, unless_both}

-- 7 AND 8
module _ (order numbers : ℕ) where
  abbrev Row : Refusal → Type 0
  Row = RowOf (SquareRow order numbers)

  square_listed : (s : Refusal) → In (refuse s true) (supply_rules order numbers) → Row s
  unfolding supply_rules
  square_listed s i =
      by_rule Row Order (outside 4 7 order) _ s i (λ e. row_7 ((outside_exactly 4 7 order).0 e)) λ i.
      by_rule Row TableLength (not (eqb numbers (order * order))) [] s i (λ e. row_8 ((differs numbers (order * order)).0 e)) λ i.
      no_rule Row s i

  square_applies : (n : ℕ) (l : List ℕ) → SquareRow order numbers n l → Listed (supply_rules order numbers) n l
  unfolding supply_rules
  square_applies n l (row_7 h) = at_rule _ _ refl refl ((outside_exactly 4 7 order).1 h)
  square_applies n l (row_8 h) = further (at_rule _ _ refl refl ((differs numbers (order * order)).1 h))

  pub supply_matches : Matches (supply_rules order numbers) (SquareRow order numbers)
  supply_matches = record { listed = λ s i. inl (square_listed s i); applies = square_applies }

-- an entry is found negative exactly where it is
pub negative_exactly : (z : ℤ) → (negative z ≡ true) ↔ IsNegative z
negative_exactly z = (is_negative z, found)
  where
    is_negative : (z : ℤ) → negative z ≡ true → IsNegative z
    is_negative (pos n) e = both_ways e refl
    is_negative (negsuc n) e = away.negative n

    found : {z : ℤ} → IsNegative z → negative z ≡ true
    found (away.negative n) = refl

-- 3 AND 7 TO 10
module _ (order lift : ℕ) (table : List ℤ) where
  abbrev Rows : ℕ → List ℕ → Type 0
  Rows = LiftRow lift or SquareRow order (length table) or TableRow order lift table

  first_negative : (place : ℕ) → ((somewhere negative table ≡ true) × (first_place negative table ≡ place)) ↔ First (length table) (λ p. IsNegative (get_or table p (pos 0))) place
  first_negative place = first_exactly negative (pos 0) IsNegative negative_exactly table place

  -- an order of 0 has no rows that repeat; it is turned away by 7
  repeat_row : unsound order lift (table_at order table) ≡ true → RowOrLower Rows (unsound_at (first_repeat order lift (table_at order table)))
  repeat_row e =
      by_le 1 order
      (λ h. let (r, first) = (repeats.first_exactly order lift (table_at order table) h (first_repeat order lift (table_at order table))).0 (e, refl) in inl (inr (row_10 _ r first)))
      (λ h. inr (record { other = 7; its_values = []; applies = inl (inr (row_7 (inl (omega arith)))); lower = omega arith }))

  table_listed : (s : Refusal) → In (refuse s true) (table_rules order lift table) → RowOrLower Rows s
  unfolding table_rules
  table_listed s i =
      let C = RowOrLower Rows in
      by_rule C Lift (outside 1 4096 lift) _ s i (λ e. inl (inl (inl (row_3 ((outside_exactly 1 4096 lift).0 e))))) λ i.
      by_rule C Order (outside 4 7 order) _ s i (λ e. inl (inl (inr (row_7 ((outside_exactly 4 7 order).0 e))))) λ i.
      by_rule C TableLength (not (eqb (length table) (order * order))) _ s i (λ e. inl (inl (inr (row_8 ((differs (length table) (order * order)).0 e))))) λ i.
      by_rule C (NegativeEntry (first_place negative table)) (somewhere negative table) _ s i (λ e. inl (inr (row_9 _ ((first_negative _).0 (e, refl))))) λ i.
      by_rule C (unsound_at (first_repeat order lift (table_at order table))) (unsound order lift (table_at order table)) [] s i repeat_row λ i.
      no_rule C s i

  table_applies : (n : ℕ) (l : List ℕ) → Rows n l → Listed (table_rules order lift table) n l
  unfolding table_rules
  table_applies n l (inl (inl (row_3 h))) = at_rule _ _ refl refl ((outside_exactly 1 4096 lift).1 h)
  table_applies n l (inl (inr (row_7 h))) = further (at_rule _ _ refl refl ((outside_exactly 4 7 order).1 h))
  table_applies n l (inl (inr (row_8 h))) = further (further (at_rule _ _ refl refl ((differs (length table) (order * order)).1 h)))
  table_applies n l (inr (row_9 place h)) =
      let (t, e) = (first_negative place).1 h in
      further (further (further (at_rule _ _ refl (ap (◌∷ []) e) t)))
  table_applies n l (inr (row_10 q r first)) =
      let (t, e) = (repeats.first_exactly order lift (table_at order table) (omega (arith, r.row_in)) q).1 (r, first) in
      further (further (further (further (at_rule _ _ refl (ap (λ (q : Quad). values (unsound_at q)) e) t))))

  table_matches : Matches (table_rules order lift table) (LiftRow lift or SquareRow order (length table) or TableRow order lift table)
  table_matches = record { listed = table_listed; applies = table_applies }

-- 25 of a builder: one of the two lists has another length
pub lists_exactly : (room : Room) (rows cols : ℕ) → (not (eqb room.rows rows && eqb room.cols cols) ≡ true) ↔ ((room.rows ≢ rows) ⊎ (room.cols ≢ cols))
lists_exactly room rows cols = unless_both (eqb room.rows rows) (eqb room.cols cols) (differs room.rows rows) (differs room.cols cols)

-- a list has other than n bytes, or a byte above 1
pub bytes_exactly : (n : ℕ) (list : List ℕ) → ((not (eqb (length list) n) || somewhere (ltb 1) list) ≡ true) ↔ ((length list ≢ n) ⊎ ((place : ℕ) × (1 < get_or list place 0)))
bytes_exactly n list =
    either_exactly _ _ (differs (length list) n) (
      λ e. (first_place (ltb 1) list, ltb-true 1 _ (at_first (ltb 1) 0 list (ltb-true _ _ e))),
      λ (place, h). byte place h,
    )
  where
    byte : (place : ℕ) → 1 < get_or list place 0 → somewhere (ltb 1) list ≡ true
    byte place h =
        by_bool (somewhere (ltb 1) list) (λ e. e) λ e.
        by_le (length list) place
        (λ k. absurd (omega (arith, get_or-eq_default list 0 k)))
        (λ k. both_ways (lt-ltb 1 (get_or list place 0) h) (somewhere_no (ltb 1) 0 list e place k))

-- 11 TO 13, 15 AND 25
module _ (order lift : ℕ) (mask : List ℕ) (room : Room) where
  abbrev Masked : ℕ → List ℕ → Type 0
  Masked = MaskRow order lift mask or PlaceRow order mask room

  -- the weight is the common one; where there is none, 12 applies, whose number is lower than n
  weight_of : (L : ℕ) → Common order mask L → L ≡ weight order mask
  weight_of L w =
      let e = by_bool (common order mask) (λ e. e) (λ e. absurd ((no_weight_exactly order mask).0 (ap not e) L w)) in
      weight_first order mask L w ∙ sym (weight_is order mask e)

  by_weight : (s : Refusal) → 12 < number s → (Common order mask (weight order mask) → RowOf Masked s) → RowOrLower Masked s
  by_weight s low f =
      by_bool (common order mask)
      (λ e. inl (f (weight_common order mask e)))
      (λ e. inr (record { other = 12; its_values = []; applies = inl (row_12 ((no_weight_exactly order mask).0 (ap not e))); lower = low }))

  mask_listed : (s : Refusal) → In (refuse s true) (mask_rules order lift mask room) → RowOrLower Masked s
  unfolding mask_rules
  mask_listed s i =
      let C = RowOrLower Masked in
      let L = weight order mask in
      by_rule C MaskByte (not (eqb (length mask) (order * order)) || somewhere (ltb 1) mask) _ s i (λ e. inl (inl (row_11 ((bytes_exactly (order * order) mask).0 e)))) λ i.
      by_rule C MaskWeight (not (common order mask)) _ s i (λ e. inl (inl (row_12 ((no_weight_exactly order mask).0 e)))) λ i.
      by_rule C TableBits (ltb 65536 (plan_cols order L * lift)) _ s i (λ e. by_weight TableBits (omega arith) (λ w. inl (row_13 L w (ltb-true _ _ e)))) λ i.
      by_rule C PlanPlace (not (eqb room.plan (plan_rows order L * plan_cols order L))) _ s i (λ e. by_weight PlanPlace (omega arith) (λ w. inr (row_15 L w ((differs _ _).0 e)))) λ i.
      by_rule C Weights (not (eqb room.rows (plan_rows order L) && eqb room.cols (plan_cols order L))) [] s i
      (λ e. by_weight Weights (omega arith) (λ w. inr (table_lists L w ((lists_exactly room _ _).0 e)))) λ i.
      no_rule C s i

  mask_applies : (n : ℕ) (l : List ℕ) → Masked n l → Listed (mask_rules order lift mask room) n l
  unfolding mask_rules
  mask_applies n l (inl (row_11 h)) = at_rule _ _ refl refl ((bytes_exactly (order * order) mask).1 h)
  mask_applies n l (inl (row_12 h)) = further (at_rule _ _ refl refl ((no_weight_exactly order mask).1 h))
  mask_applies n l (inl (row_13 L w h)) =
      further (further (at_rule _ _ refl refl (lt-ltb _ _ (subst (λ (L : ℕ). 65536 < plan_cols order L * lift) (weight_of L w) h))))
  mask_applies n l (inr (row_15 L w h)) =
      further (further (further (at_rule _ _ refl refl ((differs _ _).1 (subst (λ (L : ℕ). room.plan ≢ plan_rows order L * plan_cols order L) (weight_of L w) h)))))
  mask_applies n l (inr (table_lists L w h)) =
      let k = subst (λ (L : ℕ). (room.rows ≢ plan_rows order L) ⊎ (room.cols ≢ plan_cols order L)) (weight_of L w) h in
      further (further (further (further (at_rule _ _ refl refl ((lists_exactly room _ _).1 k)))))

  mask_matches : Matches (mask_rules order lift mask room) (MaskRow order lift mask or PlaceRow order mask room)
  mask_matches = record { listed = mask_listed; applies = mask_applies }

pub build_matches : (order lift : ℕ) (table : List ℤ) (mask : List ℕ) (room : Room)
    → Matches (build_rules order lift table mask room)
    (LiftRow lift or SquareRow order (length table) or TableRow order lift table or (MaskRow order lift mask or PlaceRow order mask room))
unfolding build_rules
build_matches order lift table mask room =
    join (table_rules order lift table) (mask_rules order lift mask room) _ _ (table_matches order lift table) (mask_matches order lift mask room)
