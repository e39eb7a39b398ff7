-- Two plans made one (document 02, slip 9): the joined plan, refusals 1 to 6 of both plans and of the joined size, and then 27 to 29.
use Rattle.std.specs.Prelude.{ℕ, ◌*◌, Bool, not, ◌||◌, List, [], ◌∷◌, map, eqb, ℤ, length}
use Rattle.std.specs.Bool.{beq}
use Rattle.std.specs.Prelude.{Option}
use Rattle.refusal.specs.declared.Refusal.{Refusal}
use Rattle.refusal.specs.declared.Refusal.TheVariants.{SharedDivisor, PlansDiffer, JoinedPlace}
use Rattle.refusal.specs.Lowest.{Rule, refuse, lowest, lower, or_else}
use Rattle.refusal.specs.Lent.{lent}
use Rattle.graph.specs.Count.{below}
use Rattle.graph.specs.Erasure.{any}
use Rattle.exponent.specs.declared.block.Block.{Block}
use Rattle.exponent.specs.Plan.{entry_at, filled, shift_of}
use Rattle.exponent.specs.Limits.{plan_rules}
use Rattle.square.specs.Table.{block}
use Rattle.crt.specs.Remainders.{shared, remainders}

-- THE JOINED PLAN. Of two blocks: −1 where the first is empty, else the number from 0 to P × Q − 1 with the remainders of both shifts
abbrev pub joined_entry : ℕ → ℕ → Block → Block → ℤ
joined_entry P Q b c = block (filled b) (remainders P Q (shift_of b) (shift_of c))

unfoldable pub joined_plan : List ℤ → ℕ → List ℤ → ℕ → List ℤ
joined_plan first P second Q = map (λ place. joined_entry P Q (entry_at first P place) (entry_at second Q place)) (below (length first))

-- a plan as it is given: its list and its sizes
pub record Sized : Type 0 where
  pub plan : List ℤ
  pub rows : ℕ
  pub cols : ℕ
  pub lift : ℕ

abbrev pub sized : List ℤ → ℕ → ℕ → ℕ → Sized
sized plan rows cols lift = record { plan = plan; rows = rows; cols = cols; lift = lift }

-- 1 TO 6: of the first plan, of the second, and of the size P × Q with the first plan's columns. Where two of these have the same
-- number, the place shown is that of the first.
abbrev pub plan_refusal : Sized → Option Refusal
plan_refusal a = lowest (plan_rules a.plan a.rows a.cols a.lift)

abbrev pub at_product : Sized → Sized → Sized
at_product a b = sized a.plan a.rows a.cols (a.lift * b.lift)

unfoldable pub both_refusal : Sized → Sized → Option Refusal
both_refusal a b = lower (lower (plan_refusal a) (plan_refusal b)) (plan_refusal (at_product a b))

-- 27 TO 29. The plans differ in rows, columns or empty blocks;
unfoldable pub differ : Sized → Sized → Bool
differ a b =
    not (eqb a.rows b.rows)
    || (not (eqb a.cols b.cols)
    || any (length a.plan) (λ place. not (beq (filled (entry_at a.plan a.lift place)) (filled (entry_at b.plan b.lift place)))))

-- the sizes share a divisor, the plans differ, the place is not as long as each plan.
unfoldable pub join_rules : Sized → Sized → ℕ → List Rule
join_rules a b room =
    refuse SharedDivisor (shared a.lift b.lift)
    ∷ refuse PlansDiffer (differ a b)
    ∷ refuse JoinedPlace (not (eqb room (length a.plan)) || not (eqb room (length b.plan)))
    ∷ []

-- THE CALL, of two plans and what the lent place holds: why it is refused, if it is; what the place then holds; the answer, with the
-- joined size
unfoldable pub join_refusal : Sized → Sized → ℕ → Option Refusal
join_refusal a b room = or_else (both_refusal a b) (lowest (join_rules a b room))

abbrev pub after_join : Sized → Sized → List ℤ → List ℤ
after_join a b place = lent (join_refusal a b (length place)) (joined_plan a.plan a.lift b.plan b.lift) place
