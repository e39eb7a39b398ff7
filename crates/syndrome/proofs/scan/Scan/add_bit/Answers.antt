-- `syndrome::scan::Scan::add_bit` meets its contract: its test is whether the byte is an erasure. Assumes nothing.
use mathlib.Core.Path.{◌∙◌}
use native.Mathlib.Omega.{arith}
use Rattle.syndrome.proofs.Scanning.{scanned_erased, scanned_known}
use Rattle.syndrome.proofs.scan.Scan.add_bit.Goals as goal

pub returns-then-x-eq2 : goal.returns-then-x-eq2
returns-then-x-eq2 c = record { grown = omega arith; scanned = λ word bits e h. scanned_erased word bits _ _ h (e ∙ c.if-x-eq2.true) }

pub returns-else-x-eq2 : goal.returns-else-x-eq2
returns-else-x-eq2 c = record { grown = omega arith; scanned = λ word bits e h. scanned_known word bits _ _ h _ e c.if-x-eq2.false }
