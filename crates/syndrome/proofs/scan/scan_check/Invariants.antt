-- `syndrome::scan::scan_check` meets its contract: s is the scan of the row's bits in the columns before `from`. The columns that the index
-- passes over are not filled. Assumes nothing.
use Rattle.std.proofs.Common.{◌-◌, ◌*◌, ◌≤◌}
use Rattle.syndrome.specs.Scan.{Scanned}
use Rattle.syndrome.proofs.Scanning.{row_bits}
use Rattle.syndrome.proofs.scan.scan_check.Given as goal

abbrev pub invariant-loop-j : goal.invariant-loop-j
invariant-loop-j l =
    (l.from ≤ l.rows.plan.shape.cols) × (l.s.erased ≤ l.from) × (l.s.sum ≤ 255 * l.from) × Scanned l.word (row_bits l.rows.plan.entries.now l.rows.plan.shape l.i l.y l.from) l.s

abbrev pub decreases-loop-j : goal.decreases-loop-j
decreases-loop-j l = l.rows.plan.shape.cols - l.from
