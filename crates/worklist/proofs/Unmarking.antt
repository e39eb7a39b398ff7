-- Taking marks off: what a byte becomes, and a list in which the first k bytes are done. Assumes nothing.
use Prim.Native.Nat.{ℕ, ◌-◌, ◌≤◌, ◌<◌}
use mathlib.Core.Path.{◌≡◌}
use mathlib.Core.Bool.{Bool, cond}
use mathlib.Core.List.{List}
use borrow.Author.Tests.{lt-ltb, le-ltb}
use lib.ListN.{length, get_or}
use Rattle.worklist.specs.Work.{unmarked}

pub unmarked_low : (keep : Bool) (x : ℕ) → x < 4 → unmarked keep x ≡ x
unmarked_low keep x h = rw (lt-ltb x 4 h)

pub unmarked_high : (keep : Bool) (x : ℕ) → 4 ≤ x → unmarked keep x ≡ cond keep (x - 4) 2
unmarked_high keep x h = rw (le-ltb x 4 h)

-- q is p with f applied to the first k bytes
pub record Mapped (f : ℕ → ℕ) (p q : List ℕ) (k : ℕ) : Type 0 where
  pub same_length : length q ≡ length p
  pub front : (b : ℕ) → b < k → get_or q b 0 ≡ f (get_or p b 0)
  pub back : (b : ℕ) → k ≤ b → get_or q b 0 ≡ get_or p b 0
