-- The document's cases of the graph, computed. Assumes nothing.
use Prim.Native.Nat.{ℕ}
use mathlib.Core.Path.{◌≡◌, refl}
use mathlib.Core.List.{List, [], ◌∷◌}
use Rattle.std.specs.Prelude.{Option, None, Some}
use native.Mathlib.Omega.{arith}
use lib.IntN.{ℤ, pos, negsuc}
use Rattle.refusal.specs.declared.Refusal.{Refusal}
use Rattle.refusal.specs.declared.Refusal.TheVariants.{Rows, Cols, Lift, Bits, PlanLength, Entry}
use Rattle.refusal.specs.Lowest.{lowest}
use Rattle.refusal.specs.Place.{first_place}
use Rattle.graph.specs.Count.{range, select}
use Rattle.graph.specs.Graph.{bits_of, checks_of}
use Rattle.graph.specs.Girth.{SimpleCycle}
use Rattle.graph.proofs.Cases.{cycle_if}
use Rattle.exponent.specs.declared.block.Block.TheVariants.{Shift}
use Rattle.exponent.specs.Plan.{block_of, entry_at, block_at}
use Rattle.exponent.specs.Limits.{plan_rules}
use Rattle.exponent.specs.Tanner.{tanner}
use Rattle.exponent.specs.Remainders.{SameRemainders, empty, filled}
use Rattle.exponent.specs.Remainders as remainders

-- the one-row plan 0 1
abbrev pub pair : List ℤ
pair = pos 0 ∷ pos 1 ∷ []

-- at lift 3 check 0 joins bits 0 and 4; turned left it would join 0 and 5
pub check_0_joins : bits_of (tanner pair 1 2 3) 0 ≡ 0 ∷ 4 ∷ []
unfolding bits_of tanner select range block_at entry_at
check_0_joins = refl

pub bit_4_joins : checks_of (tanner pair 1 2 3) 4 ≡ 0 ∷ []
unfolding checks_of tanner select range block_at entry_at
bit_4_joins = refl

-- at lift 2 its alist has the bits 1 4 and 2 3, counted from 1
pub pair_bits : (bits_of (tanner pair 1 2 2) 0 ≡ 0 ∷ 3 ∷ []) × (bits_of (tanner pair 1 2 2) 1 ≡ 1 ∷ 2 ∷ [])
unfolding bits_of tanner select range block_at entry_at
pair_bits = (refl, refl)

-- voltages as printed (document 02, slip 4): below the lift, at it, and the largest of all
pub printed : (block_of 5 (pos 4) ≡ Shift 4) × (block_of 5 (pos 5) ≡ Shift 0) × (block_of 5 (pos 32767) ≡ Shift 2) × (block_of 4096 (pos 32767) ≡ Shift 4095)
printed = (refl, refl, refl, refl)

-- 3 4 at lift 3 joins what 0 1 does
pub printed_joins : bits_of (tanner (pos 3 ∷ pos 4 ∷ []) 1 2 3) 0 ≡ 0 ∷ 4 ∷ []
unfolding bits_of tanner select range block_at entry_at
printed_joins = refl

-- by 3 the voltages 3 and 32,767 are 0 and 1; 1 and 2 differ, and so do an empty block and a filled one
pub same_by_3 : SameRemainders 3 (pos 3 ∷ negsuc 0 ∷ pos 32767 ∷ []) (pos 0 ∷ negsuc 0 ∷ pos 1 ∷ [])
same_by_3 = filled 3 0 refl (empty (filled 32767 1 refl remainders.none))

pub other_by_3 : SameRemainders 3 (pos 1 ∷ []) (pos 2 ∷ []) → ⊥
other_by_3 (filled e f h s) = omega (arith, h)

pub empty_and_filled : SameRemainders 3 (negsuc 0 ∷ []) (pos 0 ∷ []) → ⊥
empty_and_filled = elim [ ]

-- the 2 × 2 plan of zeros at lift 1 has a cycle of 4 edges
pub zeros_cycle : SimpleCycle (tanner (pos 0 ∷ pos 0 ∷ pos 0 ∷ pos 0 ∷ []) 2 2 1) 2 (0 ∷ 1 ∷ []) (0 ∷ 1 ∷ [])
unfolding tanner block_at entry_at
zeros_cycle = cycle_if (tanner (pos 0 ∷ pos 0 ∷ pos 0 ∷ pos 0 ∷ []) 2 2 1) 0 (0 ∷ 1 ∷ []) (0 ∷ 1 ∷ []) refl refl refl refl refl refl refl

-- 0 0 / 0 1 at lift 2 closes on the second round: a cycle of 8 edges
pub second_round : SimpleCycle (tanner (pos 0 ∷ pos 0 ∷ pos 0 ∷ pos 1 ∷ []) 2 2 2) 4 (0 ∷ 3 ∷ 1 ∷ 2 ∷ []) (2 ∷ 1 ∷ 3 ∷ 0 ∷ [])
unfolding tanner block_at entry_at
second_round = cycle_if (tanner (pos 0 ∷ pos 0 ∷ pos 0 ∷ pos 1 ∷ []) 2 2 2) 2 (0 ∷ 3 ∷ 1 ∷ 2 ∷ []) (2 ∷ 1 ∷ 3 ∷ 0 ∷ []) refl refl refl refl refl refl refl

-- Refusals 1 to 6: each limit at its edge, and the lowest number where several apply.
pub record Limit : Type 0 where
  pub plan : List ℤ
  pub rows : ℕ
  pub cols : ℕ
  pub lift : ℕ
  pub answer : Option Refusal

abbrev limit : List ℤ → ℕ → ℕ → ℕ → Option Refusal → Limit
limit plan rows cols lift answer = record { plan = plan; rows = rows; cols = cols; lift = lift; answer = answer }

abbrev pub limits : List Limit
limits =
    limit pair 1 2 4096 None
    ∷ limit pair 1 2 4097 (Some Lift)
    ∷ limit pair 0 0 0 (Some Rows)
    ∷ limit pair 193 513 1 (Some Rows)
    ∷ limit pair 1 0 1 (Some Cols)
    ∷ limit pair 192 513 4097 (Some Cols)
    ∷ limit pair 192 512 0 (Some Lift)
    ∷ limit pair 192 512 129 (Some Bits)
    ∷ limit pair 192 512 128 (Some PlanLength)
    ∷ limit pair 2 1 1 None
    ∷ limit (negsuc 0 ∷ pos 4 ∷ negsuc 1 ∷ []) 1 3 5 (Some (Entry 2))
    ∷ limit (negsuc 0 ∷ pos 5 ∷ negsuc 1 ∷ []) 1 3 5 (Some (Entry 2))
    ∷ limit (pos 32767 ∷ negsuc 2 ∷ negsuc 1 ∷ []) 1 3 4096 (Some (Entry 1))
    ∷ limit (negsuc 0 ∷ negsuc 0 ∷ []) 2 1 1 None
    ∷ []

abbrev Hold : List Limit → Type 0
Hold [] = Unit {0}
Hold (c ∷ l) = (lowest (plan_rules c.plan c.rows c.cols c.lift) ≡ c.answer) × Hold l

pub limits_hold : Hold limits
unfolding lowest plan_rules first_place
limits_hold = (refl, (refl, (refl, (refl, (refl, (refl, (refl, (refl, (refl, (refl, (refl, (refl, (refl, (refl, tt))))))))))))))
