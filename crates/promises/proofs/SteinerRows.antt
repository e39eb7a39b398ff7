-- Rows 3, 4, 6, 22, 23 and 25 of Steiner triple plans: the builder's tests say what the rows say. The tests of 23 and 25 take lengths for any
-- order; where the order is none of the five, 22 applies. Assumes nothing.
use Prim.Native.Nat.{ℕ, ◌*◌, ◌<◌}
use mathlib.Core.Path.{◌≡◌, refl, ap}
use mathlib.Core.Logic.{◌↔◌, ◌⊎◌, inl, inr, ◌≢◌}
use mathlib.Core.Bool.{Bool, true, not, ◌||◌, ◌&&◌}
use mathlib.Core.List.{List, [], ◌∷◌}
use borrow.Author.Tests.{ltb-true, lt-ltb, not-true}
use native.Mathlib.Omega.{arith}
use lib.Dec.{eqb}
use lib.IntN.{ℤ, pos}
use lib.ListN.{length, get_or}
use Rattle.refusal.specs.declared.Refusal.{Refusal}
use Rattle.refusal.specs.declared.Refusal.TheVariants.{Lift, Bits, Entry, SteinerOrder, SteinerLength, Weights}
use Rattle.refusal.specs.Number.{number, values}
use Rattle.refusal.specs.Lowest.{refuse, In}
use Rattle.refusal.specs.Place.{First, first_place, somewhere}
use Rattle.refusal.proofs.Place.{first_exactly}
use Rattle.graph.specs.Count.{member}
use Rattle.graph.proofs.Decide.{by_bool, both_ways, and_left, and_right, and_both}
use Rattle.exponent.specs.Limits.{outside}
use Rattle.exponent.proofs.Rules.{outside_exactly}
use Rattle.weights.specs.declared.Room.{Room}
use Rattle.square.specs.Table.{negative}
use Rattle.steiner.specs.System.{is_order, cols, too_long}
use Rattle.steiner.specs.Build.{build_rules}
use Rattle.steiner.proofs.Orders.{by_order}
use Rattle.promises.specs.TurnedAway.{LiftRow, row_3, IsNegative, IsOrder, seven, nine, thirteen, fifteen, nineteen, triples, SteinerRow, bits, voltage, row_22, row_23, steiner_lists, ◌or◌}
use Rattle.promises.proofs.Matching.{Listed, RowOrLower, Matches, by_rule, no_rule, at_rule, further}
use Rattle.promises.proofs.PlanRows.{differs, either_exactly}
use Rattle.promises.proofs.TableRows.{negative_exactly, lists_exactly}

-- the five orders
known : {order : ℕ} → IsOrder order → is_order order ≡ true
unfolding is_order member
known seven = refl
known nine = refl
known thirteen = refl
known fifteen = refl
known nineteen = refl

order_exactly : (order : ℕ) → (is_order order ≡ true) ↔ IsOrder order
order_exactly order = (by_order IsOrder seven nine thirteen fifteen nineteen order, known)

unknown_exactly : (order : ℕ) → (not (is_order order) ≡ true) ↔ (IsOrder order → ⊥)
unknown_exactly order = (
  λ e k. both_ways (known k) (not-true (is_order order) e),
  λ h. by_bool (is_order order) (λ e. absurd (h ((order_exactly order).0 e))) (λ e. ap not e),
)

module _ (order lift : ℕ) (voltages : List ℤ) (room : Room) where
  abbrev Rows : ℕ → List ℕ → Type 0
  Rows = LiftRow lift or SteinerRow order lift voltages room

  long_exactly : (too_long order lift ≡ true) ↔ (IsOrder order × (65536 < triples order * lift))
  unfolding cols
  long_exactly = (
    λ e. ((order_exactly order).0 (and_left (is_order order) _ e), ltb-true _ _ (and_right (is_order order) _ e)),
    λ (k, h). and_both (is_order order) _ (known k) (lt-ltb _ _ h),
  )

  first_negative : (place : ℕ) → ((somewhere negative voltages ≡ true) × (first_place negative voltages ≡ place)) ↔ First (length voltages) (λ p. IsNegative (get_or voltages p (pos 0))) place
  first_negative place = first_exactly negative (pos 0) IsNegative negative_exactly voltages place

  abbrev other_length : Bool
  other_length = not (eqb (length voltages) (3 * cols order)) || not (eqb room.plan (order * cols order))

  lengths_exactly : (other_length ≡ true) ↔ ((length voltages ≢ 3 * triples order) ⊎ (room.plan ≢ order * triples order))
  unfolding cols
  lengths_exactly = either_exactly _ _ (differs (length voltages) (3 * triples order)) (differs room.plan (order * triples order))

  abbrev other_lists : Bool
  other_lists = not (eqb room.rows order && eqb room.cols (cols order))

  weights_exactly : (other_lists ≡ true) ↔ ((room.rows ≢ order) ⊎ (room.cols ≢ triples order))
  unfolding cols
  weights_exactly = lists_exactly room order (triples order)

  -- an order that is none of the five is turned away by 22, whose number is lower
  by_known : (s : Refusal) → 22 < number s → (IsOrder order → SteinerRow order lift voltages room (number s) (values s)) → RowOrLower Rows s
  by_known s low f =
      by_bool (is_order order)
      (λ k. inl (inr (f ((order_exactly order).0 k))))
      (λ k. inr (record { other = 22; its_values = []; applies = inr (row_22 ((unknown_exactly order).0 (ap not k))); lower = low }))

  listed : (s : Refusal) → In (refuse s true) (build_rules order lift voltages room) → RowOrLower Rows s
  unfolding build_rules
  listed s i =
      let C = RowOrLower Rows in
      by_rule C Lift (outside 1 4096 lift) _ s i (λ e. inl (inl (row_3 ((outside_exactly 1 4096 lift).0 e)))) λ i.
      by_rule C Bits (too_long order lift) _ s i (λ e. let (k, h) = long_exactly.0 e in inl (inr (bits k h))) λ i.
      by_rule C (Entry (first_place negative voltages)) (somewhere negative voltages) _ s i (λ e. inl (inr (voltage _ ((first_negative _).0 (e, refl))))) λ i.
      by_rule C SteinerOrder (not (is_order order)) _ s i (λ e. inl (inr (row_22 ((unknown_exactly order).0 e)))) λ i.
      by_rule C SteinerLength other_length _ s i (λ e. by_known SteinerLength (omega arith) (λ k. row_23 k (lengths_exactly.0 e))) λ i.
      by_rule C Weights other_lists [] s i (λ e. by_known Weights (omega arith) (λ k. steiner_lists k (weights_exactly.0 e))) λ i.
      no_rule C s i

  applies : (n : ℕ) (l : List ℕ) → Rows n l → Listed (build_rules order lift voltages room) n l
  unfolding build_rules
  applies n l (inl (row_3 h)) = at_rule _ _ refl refl ((outside_exactly 1 4096 lift).1 h)
  applies n l (inr (bits k h)) = further (at_rule _ _ refl refl (long_exactly.1 (k, h)))
  applies n l (inr (voltage place h)) = let (t, e) = (first_negative place).1 h in further (further (at_rule _ _ refl (ap (◌∷ []) e) t))
  applies n l (inr (row_22 h)) = further (further (further (at_rule _ _ refl refl ((unknown_exactly order).1 h))))
  applies n l (inr (row_23 k h)) = further (further (further (further (at_rule _ _ refl refl (lengths_exactly.1 h)))))
  applies n l (inr (steiner_lists k h)) = further (further (further (further (further (at_rule _ _ refl refl (weights_exactly.1 h))))))

  pub steiner_matches : Matches (build_rules order lift voltages room) (LiftRow lift or SteinerRow order lift voltages room)
  steiner_matches = record { listed = listed; applies = applies }
