-- The search on two small plans: 0 0 / 0 1 at lift 2, where rounds 2 and 3 find nothing and round 4 a cycle; and a cycle of three
-- checks, which round 3 finds from a check. Assumes nothing.
use Prim.Native.Nat.{◌+◌}
use mathlib.Core.Path.{◌≡◌, refl}
use mathlib.Core.List.{[], ◌∷◌}
use Rattle.std.specs.Prelude.{None, Some}
use lib.IntN.{pos, negsuc}
use Rattle.graph.specs.Count.{member}
use Rattle.exponent.specs.Plan.{shifts, entry_at, block_at}
use Rattle.walks.specs.Steps.{Blocks, blocks_of}
use Rattle.walks.specs.Ways.{each, from_bit, ways}
use Rattle.walks.specs.Calls.{turns, bit_calls, run, root_calls, calls_until, round_calls, search_calls, root_bound}
use Rattle.walks.specs.Meeting.{repeat, back_along, meeting, first_of, short_cycle}

abbrev small : Blocks
small = blocks_of (shifts (0 ∷ 0 ∷ 0 ∷ 1 ∷ [])) (record { rows = 2; cols = 2; lift = 2 })

abbrev ring : Blocks
ring = blocks_of (pos 0 ∷ pos 0 ∷ negsuc 0 ∷ negsuc 0 ∷ pos 0 ∷ pos 0 ∷ pos 0 ∷ negsuc 0 ∷ pos 0 ∷ []) (record { rows = 3; cols = 3; lift = 1 })

pub two_open : short_cycle small 2 ≡ None
unfolding short_cycle first_of meeting repeat member ways from_bit each entry_at block_at
two_open = refl

pub three_open : short_cycle small 3 ≡ None
unfolding short_cycle first_of meeting repeat member ways from_bit each entry_at block_at
three_open = refl

pub four_close : short_cycle small 4 ≡ Some (record { joints = record { check = 1; bit = 3 } ∷ record { check = 2; bit = 0 } ∷ record { check = 0; bit = 2 } ∷ record { check = 3; bit = 1 } ∷ []; end = 1 })
unfolding short_cycle first_of meeting repeat member ways from_bit each back_along entry_at block_at
four_close = refl

pub three_close : short_cycle ring 3 ≡ Some (record { joints = record { check = 1; bit = 1 } ∷ record { check = 0; bit = 0 } ∷ record { check = 2; bit = 2 } ∷ []; end = 2 })
unfolding short_cycle first_of meeting repeat member ways from_bit each back_along entry_at block_at
three_close = refl

-- Calls. In round 2 on the first plan: of the root in column 0 one, and two for each of its checks; of the root in column 1, which has
-- no column behind it, one and one for each. On the ring: 5, 4 and 3 in round 2; then 7 from check 0 until bit 2 is met again, and 4
-- until the other way to it is met.
pub two_calls : round_calls small 2 ≡ 8
unfolding round_calls calls_until root_calls run bit_calls turns repeat member meeting ways from_bit each entry_at block_at
two_calls = refl

pub ring_calls : search_calls ring 2 2 ≡ 5 + 4 + 3 + (7 + 4)
unfolding search_calls short_cycle first_of round_calls calls_until root_calls run bit_calls turns repeat member meeting ways from_bit each entry_at block_at
ring_calls = refl

-- that first run comes to every check and bit once, and to bit 2 again: the bound of one run is reached
pub ring_full : (run ring 3 0 []).calls ≡ root_bound (record { rows = 3; cols = 3; lift = 1 })
unfolding run bit_calls turns member entry_at block_at root_bound
ring_full = refl
