-- Slip 3: the count of lost bytes. Assumes nothing.
use mathlib.Core.Path.{refl, ap}
use native.Mathlib.Omega.{arith}
use borrow.Author.Tests.{ne_eqb}
use Rattle.graph.specs.Count.{one, count}
use Rattle.graph.specs.Filling.{erasures}
use Rattle.promises.specs.Counts.{LostBytes}

pub lost_bytes : LostBytes
unfolding erasures count
lost_bytes = record {
  of_none = refl;
  of_two = λ word. omega arith;
  of_other = λ x word d. omega (arith, ap one (ne_eqb x 2 d));
}
