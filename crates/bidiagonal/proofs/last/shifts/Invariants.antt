-- `bidiagonal::last::shifts` meets its contract. The loop's invariant: the shifts in the first i rows, at most three. Assumes nothing.
use Rattle.std.proofs.Common.{◌≡◌, ◌≤◌, length, take}
use Rattle.bidiagonal.specs.Work.{column_shifts}
use Rattle.bidiagonal.proofs.last.shifts.Given as goal

abbrev pub invariant-loop-i : goal.invariant-loop-i
invariant-loop-i l = (l.n ≤ 3) × (length l.three ≡ 3) × (take l.n l.three ≡ column_shifts l.plan.entries.now l.plan.shape l.i)
