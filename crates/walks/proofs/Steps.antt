-- Where a step of the search lands, and each search as its loop finds it. Assumes nothing.
use Rattle.std.specs.Prelude.{Option, Some, None}
use Rattle.std.proofs.lemmas.Option.{none-some}
use Prim.Native.Nat.{ℕ, zero, suc, ◌+◌, ◌-◌, ◌*◌, ◌≤◌, ◌<◌}
use mathlib.Core.Path.{◌≡◌, refl, subst}
use mathlib.Core.Bool.{Bool, true, false, true≢false}
use mathlib.Core.List.{List, [], ◌∷◌, map}
use native.Mathlib.Omega.{arith}
use native.Mathlib.Nat.{mod-lt}
use lib.Dec.{eqb}
use lib.IntN.{ℤ}
use Rattle.exponent.specs.declared.block.Block.{Block}
use Rattle.exponent.specs.declared.block.Block.TheVariants.{Zero, Shift, Invalid}
use Rattle.exponent.specs.declared.position.Position.{Position}
use Rattle.exponent.specs.declared.Shape.{Shape}
use Rattle.exponent.specs.Plan.{block_at, filled}
use Rattle.exponent.specs.Position.{forward, back}
use Rattle.exponent.proofs.Numbers.{number_low}
use Rattle.walks.specs.declared.Corner.{Corner}
use Rattle.walks.specs.declared.trail.Trail.{Trail}
use Rattle.walks.specs.Steps.{Blocks, blocks_of, over, unless, to_column, to_row, AtCheck, AtBit}
use Rattle.walks.specs.Ways.{Way, more, and_then, each, joint}
use Rattle.walks.specs.Ways.{arrived, from_check, from_bit}
use Rattle.walks.specs.Stamps.{Ran}
use Rattle.walks.proofs.Loops.{Left, left_start}

-- (i, j) has a place in a list of R rows of C
pub listed : {R C n i j : ℕ} → R * C ≤ n → i < R → j < C → i * C + j < n
listed {R} {C} {i = i} {j = j} h p q = omega (arith, number_low i j R C p q)

-- Where a step lands: what holds after it whatever the shift, holds of the position that it leads to.

pub lands : (Q : Position → Type 0) (t : Bool) (b : Block) (f : ℕ → Position) → ((e : ℕ) → Q (f e)) → {q : Position} → unless t (over b f) ≡ Some q → Q q
lands Q true b f h {q} e = absurd (none-some q e)
lands Q false Zero f h {q} e = absurd (none-some q e)
lands Q false (Shift x) f h {q} e = subst Q (let z : f x ≡ q = cc in z) (h x)
lands Q false Invalid f h {q} e = absurd (none-some q e)

pub stays : (t : Bool) (b : Block) (f : ℕ → Position) → filled b ≡ false → unless t (over b f) ≡ None
stays true b f e = refl
stays false Zero f e = refl
stays false (Shift x) f e = absurd (true≢false e)
stays false Invalid f e = refl

module _ {plan : List ℤ} {s : Shape} {p : Position} where
  pub to_bit : AtCheck plan s p → {j : ℕ} → j < s.cols → {q : Position} → to_column (blocks_of plan s) p j ≡ Some q → AtBit plan s q
  to_bit a {j} h e =
      lands (AtBit plan s) (eqb j p.col) (block_at plan s.cols s.lift p.row j) (forward s.lift p j)
      (λ x. record { formed = a.formed; col = h; voltage = mod-lt (p.voltage + x) a.formed.some_lift }) e

  pub to_check : AtBit plan s p → {i : ℕ} → i < s.rows → {q : Position} → to_row (blocks_of plan s) p i ≡ Some q → AtCheck plan s q
  to_check a {i} h e =
      lands (AtCheck plan s) (eqb i p.row) (block_at plan s.cols s.lift i p.col) (back s.lift p i)
      (λ x. record { formed = a.formed; row = h; voltage = mod-lt (p.voltage + (s.lift - x)) a.formed.some_lift }) e

-- What is left of each search: at a bit, and at a check.

abbrev pub onward : Blocks → Corner → ℕ → Position → Position → List Way
onward B k d p q = map (more (joint B p q)) (from_bit B k d q)

module _ (B : Blocks) (k : Corner) (stamp d : ℕ) (p : Position) (seen₀ : List ℕ) where
  abbrev pub BitLeft : ℕ → List ℕ → Type 0
  BitLeft = Left stamp (from_bit B k d p) seen₀ (to_row B p) (from_check B k (from_bit B k (d - 1))) B.rows

  abbrev pub CheckLeft : ℕ → List ℕ → Type 0
  CheckLeft = Left stamp (from_check B k (from_bit B k d) p) seen₀ (to_column B p) (onward B k d p) B.cols

  pub at_check_left : CheckLeft k.col seen₀
  at_check_left = left_start stamp (to_column B p) (onward B k d p) B.cols k.col seen₀

pub at_bit_left : (B : Blocks) (k : Corner) (stamp d : ℕ) (p : Position) (seen₀ : List ℕ) → (d ≡ 0 → ⊥) → BitLeft B k stamp d p seen₀ k.row seen₀
unfolding from_bit
at_bit_left B k stamp zero p seen₀ h = absurd (h refl)
at_bit_left B k stamp (suc d) p seen₀ h =
    let e : suc d - 1 ≡ d = omega arith in rw e (left_start stamp (to_row B p) (from_check B k (from_bit B k d)) B.rows k.row seen₀)

-- At a check with no more checks to go: its bits, from column j₀ on, are the ends.

abbrev pub arriving : Blocks → Position → Position → List Way
arriving B p q = map (more (joint B p q)) (arrived B q ∷ [])

abbrev pub ends_from : Blocks → Position → ℕ → List Way
ends_from B p j₀ = each (λ j. and_then (to_column B p j) (arriving B p)) (B.cols - j₀) j₀

module _ (B : Blocks) (p : Position) (stamp j₀ : ℕ) (seen₀ : List ℕ) where
  abbrev pub EndsLeft : ℕ → List ℕ → Type 0
  EndsLeft = Left stamp (ends_from B p j₀) seen₀ (to_column B p) (arriving B p) B.cols

module _ (B : Blocks) (k : Corner) (p : Position) {stamp : ℕ} {before after : List ℕ} {r : (Option Trail)} where
  pub ends_ran : Ran stamp (ends_from B p k.col) before r after → Ran stamp (from_check B k (from_bit B k 0) p) before r after
  unfolding from_bit
  ends_ran h = h

  pub ends_at : {d : ℕ} → d ≡ 0 → Ran stamp (from_check B k (from_bit B k 0) p) before r after → Ran stamp (from_check B k (from_bit B k d) p) before r after
  ends_at e h = rw e h
