-- `table::write::fill` meets its contract: the three parts, written one after the other, are the plan. Assumes nothing.
use native.Mathlib.Nat.{le_refl, mul-le-mul_right}
use native.Mathlib.Omega.{arith}
use Rattle.writing.proofs.Wrote.{wrote_length}
use Rattle.table.proofs.Written.{sizes, all_written}
use Rattle.table.proofs.write.fill.Goals as goal

pub put_part-x-requires : goal.put_part-x-requires
put_part-x-requires c = let a = c.args in
    (c.requires.0, mul-le-mul_right a.size.order c.requires.0.most, omega (arith, sizes a.size a.table.now a.mask.now c.requires.0.table_square.some_rows a.plan.now c.requires.1))

pub put_part-y-requires : goal.put_part-y-requires
put_part-y-requires c = let a = c.args in (
  c.requires.0,
  mul-le-mul_right a.size.order c.requires.0.most,
  omega (
    arith,
    sizes a.size a.table.now a.mask.now c.requires.0.table_square.some_rows a.plan.now c.requires.1,
    c.put_part-x.ensures.place,
    wrote_length c.put_part-x.ensures,
  ),
)

pub put_part-requires : goal.put_part-requires
put_part-requires c = let a = c.args in (
  c.requires.0,
  le_refl _,
  omega (
    arith,
    sizes a.size a.table.now a.mask.now c.requires.0.table_square.some_rows a.plan.now c.requires.1,
    c.put_part-x.ensures.place,
    wrote_length c.put_part-x.ensures,
    c.put_part-y.ensures.place,
    wrote_length c.put_part-y.ensures,
  ),
)

pub returns : goal.returns
returns c = let a = c.args in
    all_written a.size a.table.now a.mask.now c.requires.0.table_square.some_rows a.plan.now c.requires.1 _ _ _ _ _ _
    c.put_part-x.ensures c.put_part-y.ensures c.put_part.ensures
