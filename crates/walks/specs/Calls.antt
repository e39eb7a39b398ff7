-- The calls that the search makes, of `at_bit`, `at_check`, `ends` and `arrive`: the measure of its time. A call's loop has a turn for
-- each call that it makes, and two more at most. proofs/Bound.antt bounds them.
use Rattle.walks.specs.Ways.{Way}
use Rattle.std.specs.Prelude.{Option}
use Rattle.std.specs.Prelude.{ℕ, zero, suc, ◌+◌, ◌-◌, ◌*◌, ◌/◌, Bool, true, false, cond, List, [], ◌∷◌}
use Rattle.std.specs.Prelude.{None, Some}
use Rattle.graph.specs.Count.{member}
use Rattle.exponent.specs.declared.position.Position.{Position}
use Rattle.exponent.specs.declared.Shape.{Shape}
use Rattle.walks.specs.declared.Corner.{Corner}
use Rattle.walks.specs.Steps.{Blocks, to_column, to_row}
use Rattle.walks.specs.Ways.{corner, odd, root_bit, root_check, roots, ways}
use Rattle.walks.specs.Meeting.{repeat, meeting, short_cycle}

-- a run over the ways from a root, so far: its calls, the bits that bear its stamp, and whether the last way ended at one that did
pub record Tally : Type 0 where
  pub calls : ℕ
  pub stamped : List ℕ
  pub met : Bool

abbrev pub called : Tally → Tally
called t = record { calls = suc t.calls; stamped = t.stamped; met = t.met }

abbrev pub arrived_at : ℕ → Tally → Tally
arrived_at b t = record { calls = t.calls; stamped = b ∷ t.stamped; met = member b t.stamped }

abbrev pub on_step : Option Position → (Position → Tally → Tally) → Tally → Tally
on_step None f t = t
on_step (Some p) f t = f p t

-- the turns i, i + 1, …, k of them, of a loop that returns where a way has met
unfoldable pub turns : (ℕ → Tally → Tally) → ℕ → ℕ → Tally → Tally
turns f zero i t = t
turns f (suc k) i t = let later = turns f k (suc i) (f i t) in cond t.met t later

-- a call at a check, of `at_check` or `ends`, with the calls that it makes; and one at a bit, of `at_bit` with d checks to go, or of
-- `arrive` where there is none
abbrev pub check_calls : Blocks → Corner → (Position → Tally → Tally) → Position → Tally → Tally
check_calls B k next p t = turns (λ j. on_step (to_column B p j) next) (B.cols - k.col) k.col (called t)

unfoldable pub bit_calls : Blocks → Corner → ℕ → Position → Tally → Tally
bit_calls B k zero p t = arrived_at (p.col * B.lift + p.voltage) (called t)
bit_calls B k (suc d) p t = turns (λ i. on_step (to_row B p i) (check_calls B k (bit_calls B k d))) (B.rows - k.row) k.row (called t)

abbrev pub run_by : Bool → Blocks → ℕ → ℕ → Tally → Tally
run_by true B d k = check_calls B (corner k 0) (bit_calls B (corner k 0) d) (root_check B k)
run_by false B d k = bit_calls B (corner 0 k) d (root_bit B k)

-- a run over the ways of n edges from root k, with some bits stamped beforehand
unfoldable pub run : Blocks → ℕ → ℕ → List ℕ → Tally
run B n k stamped = run_by (odd n) B (n / 2) k (record { calls = 0; stamped = stamped; met = false })

-- the second run from a root, where the first has met
abbrev pub second_calls : Blocks → ℕ → ℕ → Option Way → ℕ
second_calls B n k None = 0
second_calls B n k (Some w) = (run B n k (w.end ∷ [])).calls

unfoldable pub root_calls : Blocks → ℕ → ℕ → ℕ
root_calls B n k = (run B n k []).calls + second_calls B n k (repeat [] (ways B n k))

abbrev pub unless_met : Option Way → ℕ → ℕ
unless_met None later = later
unless_met (Some w) later = 0

-- of i, i + 1, …, k of them, until one has an answer
unfoldable pub calls_until : (ℕ → Option Way) → (ℕ → ℕ) → ℕ → ℕ → ℕ
calls_until answer calls zero i = 0
calls_until answer calls (suc k) i = let later = calls_until answer calls k (suc i) in calls i + unless_met (answer i) later

-- round n, root after root; and k rounds from n on
unfoldable pub round_calls : Blocks → ℕ → ℕ
round_calls B n = calls_until (meeting B n) (root_calls B n) (roots B n) 0

unfoldable pub search_calls : Blocks → ℕ → ℕ → ℕ
search_calls B k n = calls_until (short_cycle B) (round_calls B) k n

-- THE BOUND. From one root: every check and every bit at most once, and then one bit again.
unfoldable pub root_bound : Shape → ℕ
root_bound s = s.rows * s.lift + s.cols * s.lift + 1

-- in k rounds: each root once, and one of them twice
unfoldable pub search_bound : Shape → ℕ → ℕ
search_bound s k = (k * (s.rows + s.cols) + 1) * root_bound s
