-- Over all columns: whether some tree has too many nodes. Assumes nothing.
use Prim.Native.Nat.{ℕ, ◌+◌, ◌≤◌, ◌<◌}
use mathlib.Core.Path.{◌≡◌, sym, ap, ◌∙◌}
use mathlib.Core.Bool.{Bool, true, false}
use mathlib.Core.List.{List}
use native.Mathlib.Omega.{arith}
use borrow.Author.Tests.{le-ltb, ltb-true, ltb-false}
use lib.Dec.{ltb}
use lib.ListN.{length, get_or, take, drop}
use lib.Seq.{sets-eq, take_at}
use Rattle.refusal.specs.Place.{first_place, somewhere}
use Rattle.refusal.proofs.Place.{at_first, somewhere_no, somewhere_none}
use Rattle.graph.specs.Count.{below}
use Rattle.graph.proofs.Count.{get_or_range, length_range}
use Rattle.graph.proofs.Decide.{by_bool}
use Rattle.writing.specs.Wrote.{Wrote}
use Rattle.walks.specs.Steps.{Blocks}
use Rattle.trees.specs.Tree.{column_tree, overfull}

-- a test over the numbers below n
module _ (f : ℕ → Bool) (n : ℕ) where
  at : (j : ℕ) → j < n → get_or (below n) j 0 ≡ j
  at j h = omega (arith, get_or_range 0 n j h)

  below_no : somewhere f (below n) ≡ false → (j : ℕ) → j < n → f j ≡ false
  below_no e j h = ap f (sym (at j h)) ∙ somewhere_no f 0 (below n) e j (omega (arith, length_range 0 n))

  below_none : ((j : ℕ) → j < n → f j ≡ false) → somewhere f (below n) ≡ false
  below_none h = somewhere_none f 0 (below n) (λ i q. let z : i < n = omega (arith, length_range 0 n) in ap f (at i z) ∙ h i z)

  below_some : somewhere f (below n) ≡ true → (j : ℕ) × (j < n) × (f j ≡ true)
  below_some e =
      let h : first_place f (below n) < length (below n) = ltb-true (first_place f (below n)) (length (below n)) e in
      let low : first_place f (below n) < n = omega (arith, length_range 0 n) in
      (first_place f (below n), low, ap f (sym (at (first_place f (below n)) low)) ∙ at_first f 0 (below n) h)

module _ (B : Blocks) (depth places : ℕ) where
  abbrev over : ℕ → Bool
  over j = ltb places (length (column_tree B depth j))

  pub overfull_some : overfull B depth places ≡ true → (j : ℕ) × (j < B.cols) × (places < length (column_tree B depth j))
  unfolding overfull
  overfull_some e = let (j, h, t) = below_some over B.cols e in (j, h, ltb-true places (length (column_tree B depth j)) t)

  pub overfull_no : overfull B depth places ≡ false → (j : ℕ) → j < B.cols → length (column_tree B depth j) ≤ places
  unfolding overfull
  overfull_no e j h = ltb-false places (length (column_tree B depth j)) (below_no over B.cols e j h)

  pub overfull_none : ((j : ℕ) → j < B.cols → length (column_tree B depth j) ≤ places) → overfull B depth places ≡ false
  unfolding overfull
  overfull_none h = below_none over B.cols (λ j q. le-ltb places (length (column_tree B depth j)) (h j q))

  pub overfull_at : (j : ℕ) → j < B.cols → places < length (column_tree B depth j) → overfull B depth places ≡ true
  overfull_at j h more = by_bool (overfull B depth places) (λ e. e) (λ e. absurd (let z : ⊥ = omega (arith, overfull_no e j h) in z))

-- what was written from place 0 on
pub wrote_front : {l xs m : List ℕ} {n : ℕ} → Wrote l 0 xs n m → n ≤ length l → take n m ≡ xs
wrote_front {l} {xs} {m} {n} w h =
    ap (take n) (w.list ∙ sets-eq xs l 0 (omega (arith, w.place))) ∙ take_at xs (drop (0 + length xs) l) n (omega (arith, w.place))
