-- `flipping::marks::flip_marked` meets its contract: the count goes up exactly where the byte has two marks. Assumes nothing.
use Prim.Native.Nat.{◌+◌}
use mathlib.Core.Path.{◌≡◌, sym, ap, ◌∙◌}
use native.Mathlib.Omega.{arith}
use borrow.Author.Rules.{rules}
use lib.ListN.{get_or}
use Rattle.graph.specs.Count.{one}
use Rattle.flipping.specs.Work.{is_flipped}
use Rattle.flipping.proofs.Unmarking.{unmarked_more}
use Rattle.flipping.proofs.marks.flip_marked.Goals as goal
use Rattle.flipping.proofs.marks.flip_marked.Goals.{then-is_flipped, else-is_flipped}

pub loop-x-preserved : goal.loop-x-preserved
loop-x-preserved c =
    let l = c.loop-x in
    let counted : (c.if-is_flipped.n ≡ l.n + one (is_flipped (get_or l.word l.x-index 0))) =
    elim c.if-is_flipped.branch [
      | then-is_flipped w ↦ omega (arith, ap one (sym c.is_flipped.ensures ∙ w.if-is_flipped.true))
      | else-is_flipped w ↦ omega (arith, ap one (sym c.is_flipped.ensures ∙ w.if-is_flipped.false))
    ] in
    unmarked_more _ l.word l.n l.x-index _ _ l.invariant (search rules) c.unmark.ensures counted
