-- `flipping::marks::mark_block` meets its contract: a shift has a bit, which lies in the word; the other blocks have none. Assumes nothing.
use Prim.Native.Nat.{◌+◌, ◌*◌, ◌<◌}
use native.Mathlib.Nat.{mod-lt}
use native.Mathlib.Omega.{arith}
use lib.ListN.{length}
use Rattle.flipping.proofs.Marking.{marked_empty, marked_shift}
use Rattle.flipping.proofs.marks.mark_block.Goals as goal

pub returns-in-Shift : goal.returns-in-Shift
returns-in-Shift c =
    let a = c.args in
    -- the bit lies in the word
    let low : a.j * a.lift + c.wrap.result < length a.word.now =
    omega (arith, c.requires.3, c.wrap.ensures, mod-lt (a.y + c.in-Shift.e) {m = a.lift} (omega (arith, c.requires.1))) in
    rw c.wrap.ensures (marked_shift a.word.now a.b a.lift a.y a.j _ c.in-Shift.is (rw c.wrap.ensures at low))

pub returns-in_default : goal.returns-in_default
returns-in_default c = let a = c.args in marked_empty a.word.now a.b a.lift a.y a.j c.in_default.not-Shift
