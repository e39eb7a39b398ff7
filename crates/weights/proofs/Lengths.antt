-- Refusal 25 of a builder: it falls exactly where a list of weights is not as long as the plan has rows or columns. Assumes nothing.
use Prim.Native.Nat.{ℕ}
use mathlib.Core.Path.{◌≡◌, refl}
use mathlib.Core.Logic.{◌≢◌}
use mathlib.Core.List.{[]}
use Rattle.std.specs.Prelude.{None, Some}
use borrow.Author.Tests.{eqb-true, eq-eqb, ne_eqb, not-false}
use lib.Dec.{eqb}
use Rattle.refusal.specs.declared.Refusal.TheVariants.{Weights}
use Rattle.refusal.specs.Lowest.{lowest}
use Rattle.refusal.proofs.Lowest.{lowest_here, NoneHolds, none_holds}
use Rattle.graph.proofs.Decide.{by_bool, and_left, and_right}
use Rattle.weights.specs.declared.Room.{Room}
use Rattle.weights.specs.Weights.{length_rules}

module _ (room : Room) (rows cols : ℕ) where
  pub lengths_fit : room.rows ≡ rows → room.cols ≡ cols → lowest (length_rules room rows cols) ≡ None
  lengths_fit p q = (none_holds (length_rules room rows cols)).1 (rw (eq-eqb room.rows rows p, eq-eqb room.cols cols q) refl, tt)

  pub rows_unfit : room.rows ≢ rows → lowest (length_rules room rows cols) ≡ Some Weights
  rows_unfit h = lowest_here _ _ [] (rw (ne_eqb room.rows rows h))

  pub cols_unfit : room.cols ≢ cols → lowest (length_rules room rows cols) ≡ Some Weights
  cols_unfit h = lowest_here _ _ [] (by_bool (eqb room.rows rows) (λ e. rw (e, ne_eqb room.cols cols h)) (λ e. rw e))

  pub fit_lengths : NoneHolds (length_rules room rows cols) → (room.rows ≡ rows) × (room.cols ≡ cols)
  fit_lengths h =
      let both = not-false _ h.0 in
      (eqb-true _ _ (and_left (eqb room.rows rows) _ both), eqb-true _ _ (and_right (eqb room.rows rows) _ both))
