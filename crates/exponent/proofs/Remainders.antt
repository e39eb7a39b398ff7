-- Slip 4: plans with the same empty blocks and equal remainders have the same refusals 1 to 6 and the same Tanner graph. Assumes nothing.
use Prim.Native.Nat.{ℕ, zero, suc, ◌+◌, ◌*◌, ◌/◌, ◌%◌}
use mathlib.Core.Path.{◌≡◌, refl, sym, ap, ◌∙◌}
use mathlib.Core.List.{List, [], ◌++◌, append-nil}
use lib.IntN.{ℤ}
use lib.ListN.{length}
use Rattle.graph.specs.Count.{below, count}
use Rattle.refusal.specs.Place.{first_place}
use Rattle.exponent.specs.declared.block.Block.TheVariants.{Shift}
use Rattle.exponent.specs.Plan.{invalid_entry, entry_at, block_at, filled as is_filled}
use Rattle.exponent.specs.Limits.{plan_rules}
use Rattle.exponent.specs.Tanner.{edge, tanner, column_weight, row_weight}
use Rattle.exponent.specs.Remainders.{SameRemainders, none, empty, filled}

module _ (lift : ℕ) where
  -- with the same numbers behind them, and so by themselves
  pub same_length_then : {p q : List ℤ} → SameRemainders lift p q → (l : List ℤ) → length (p ++ l) ≡ length (q ++ l)
  same_length_then none l = refl
  same_length_then (empty s) l = ap suc (same_length_then s l)
  same_length_then (filled e f h s) l = ap suc (same_length_then s l)

  -- which entry is invalid does not go by the lift
  pub same_first_then : {p q : List ℤ} → SameRemainders lift p q → (size : ℕ) (l : List ℤ) → first_place (invalid_entry size) (p ++ l) ≡ first_place (invalid_entry size) (q ++ l)
  unfolding first_place
  same_first_then none size l = refl
  same_first_then (empty s) size l = ap suc (same_first_then s size l)
  same_first_then (filled e f h s) size l = ap suc (same_first_then s size l)

  module _ {p q : List ℤ} (same : SameRemainders lift p q) where
    pub same_length : length p ≡ length q
    same_length = ap length (sym (append-nil p)) ∙ same_length_then same [] ∙ ap length (append-nil q)

    same_first : (size : ℕ) → first_place (invalid_entry size) p ≡ first_place (invalid_entry size) q
    same_first size = ap (first_place (invalid_entry size)) (sym (append-nil p)) ∙ same_first_then same size [] ∙ ap (first_place (invalid_entry size)) (append-nil q)

  -- the same block stands at every place
  pub same_entry : {p q : List ℤ} → SameRemainders lift p q → (place : ℕ) → entry_at p lift place ≡ entry_at q lift place
  unfolding entry_at
  same_entry none place = refl
  same_entry (empty s) zero = refl
  same_entry (empty s) (suc place) = same_entry s place
  same_entry (filled e f h s) zero = ap Shift h
  same_entry (filled e f h s) (suc place) = same_entry s place

  module _ {p q : List ℤ} (same : SameRemainders lift p q) (rows cols : ℕ) where
    -- 1 to 6, also at another lift (document 02, slip 9)
    pub same_rules_at : (size : ℕ) → plan_rules p rows cols size ≡ plan_rules q rows cols size
    unfolding plan_rules
    same_rules_at size = rw (same_length same, same_first same size)

    pub same_rules : plan_rules p rows cols lift ≡ plan_rules q rows cols lift
    same_rules = same_rules_at lift

    pub same_weights : ((j : ℕ) → column_weight p rows cols lift j ≡ column_weight q rows cols lift j) × ((i : ℕ) → row_weight p cols lift i ≡ row_weight q cols lift i)
    unfolding column_weight row_weight block_at
    same_weights = (
      λ j k. count (λ i. is_filled (same_entry same (i * cols + j) k)) (below rows),
      λ i k. count (λ j. is_filled (same_entry same (i * cols + j) k)) (below cols),
    )

    pub same_block : (i j : ℕ) → block_at p cols lift i j ≡ block_at q cols lift i j
    unfolding block_at
    same_block i j = same_entry same (i * cols + j)

    -- every edge is in the same place
    pub same_graph : tanner p rows cols lift ≡ tanner q rows cols lift
    unfolding tanner block_at
    same_graph =
        λ k.
        record {
          checks = rows * lift;
          bits = cols * lift;
          joins = λ c b. edge (same_entry same (c / lift * cols + b / lift) k) lift (c % lift) (b % lift);
        }
