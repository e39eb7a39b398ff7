-- The waiting list.
use Rattle.std.specs.Prelude.{ℕ, ◌+◌, ◌≤◌, ◌<◌, ◌≡◌, Option, None, Some, get_or}
use Rattle.worklist.specs.declared.waiting.Stack.{Stack}

-- it holds checks in its first `top` places
pub record Pending (checks : ℕ) (s : Stack) : Type 0 where
  pub room : s.top ≤ 512
  pub low : (k : ℕ) → k < s.top → get_or s.checks k 0 < checks

-- none was there, or the last one was taken off
abbrev pub Popped : Stack → Option ℕ → Stack → Type 0
Popped s None t = s.top ≡ 0
Popped s (Some c) t = (t.top + 1 ≡ s.top) × (c ≡ get_or s.checks t.top 0) × (t.checks ≡ s.checks)
