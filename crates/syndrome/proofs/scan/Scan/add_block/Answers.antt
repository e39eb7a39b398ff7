-- `syndrome::scan::Scan::add_block` meets its contract: a block that is not filled adds no bit, and a shift the one that it has.
-- Assumes nothing.
use Rattle.syndrome.proofs.Scanning.{added_none, added_shift}
use Rattle.syndrome.proofs.scan.Scan.add_block.Goals as goal

pub returns-in-Shift : goal.returns-in-Shift
returns-in-Shift c = added_shift _ _ _ _ _ _ _ _ c.in-Shift.is (rw c.wrap.ensures at c.add_bit.ensures)

pub returns-in_default : goal.returns-in_default
returns-in_default c = added_none _ _ _ _ _ _ c.in_default.not-Shift
