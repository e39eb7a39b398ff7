-- Slip 7: what holds of a plan with its two lists, wherever both lists hold the counts. Assumes nothing.
use mathlib.Core.Path.{◌≡◌, refl}
use mathlib.Core.Bool.{true}
use Prim.Native.Nat.{ℕ}
use Rattle.exponent.specs.declared.Shape.{Shape}
use Rattle.weights.specs.Weights.{shape_of, Held, right}
use Rattle.weights.specs.Changes.{Counted}
use Rattle.weights.proofs.Weights.{right_exactly}
use Rattle.weights.proofs.Changes.{still_weighed, never_25, only_there}
use Rattle.alist.proofs.Lists.{write_not_25, compare_not_25}
use Rattle.promises.specs.Changes.{StillCounted}

pub still : (s : Shape) (h : Held) → Counted s h → StillCounted s h
still s h t =
    let found : (lift : ℕ) → right h.plan (shape_of s.rows s.cols lift) h.rows h.cols ≡ true = λ lift. (right_exactly h.plan (shape_of s.rows s.cols lift) h.rows h.cols).1 (still_weighed s h t (shape_of s.rows s.cols lift) refl refl) in
    record {
      counted = t;
      changed = never_25 s h t;
      written = λ lift place. write_not_25 h.plan s.rows s.cols lift h.rows h.cols (found lift) place;
      compared = λ lift text. compare_not_25 h.plan s.rows s.cols lift h.rows h.cols (found lift) text;
      only_there = λ c. only_there c h;
    }
