-- `encoding::columns::add_column` meets its contract: the two runs are the turned column. Assumes nothing.
use Prim.Native.Nat.{◌*◌}
use native.Mathlib.Omega.{arith}
use Rattle.encoding.proofs.Runs.{run_bits, columns_apart, first_apart, second_apart, column_added}
use Rattle.encoding.proofs.columns.add_column.Goals as goal

pub add_run-requires : goal.add_run-requires
add_run-requires c = let a = c.args in
    let p = c.requires.0 in (
      record {
        to_in = omega (arith, p.to_in);
        from_in = omega (arith, p.from_in);
        apart = first_apart (a.to * a.lift) (a.from * a.lift) a.lift a.e (columns_apart a.lift a.to a.from p.other) (omega arith);
      },
      p.bits,
    )

pub add_run-requires-2 : goal.add_run-requires-2
add_run-requires-2 c = let a = c.args in
    let p = c.requires.0 in
    let one = c.add_run.ensures in (
      record {
        to_in = omega (arith, p.to_in, one.long);
        from_in = omega (arith, p.from_in, one.long);
        apart = second_apart (a.to * a.lift) (a.from * a.lift) a.lift a.e (columns_apart a.lift a.to a.from p.other) (omega arith);
      },
      run_bits one p.bits,
    )

pub returns : goal.returns
returns c = let a = c.args in
    column_added a.lift a.to a.from a.e a.word.now _ _ c.requires.0 c.requires.1 c.add_run.ensures c.add_run-2.ensures
