-- The search for short cycles as the code makes it: an executable model. Two ways of n edges that lead from one vertex to the
-- same bit make a cycle of 2n edges. proofs/Found.antt and proofs/Missed.antt show what it decides.
use Rattle.std.specs.Prelude.{ℕ, zero, suc, ◌+◌, ◌*◌, Bool, true, false, cond, List, [], ◌∷◌}
use Rattle.std.specs.Prelude.{Option, None, Some}
use Rattle.graph.specs.Count.{member}
use Rattle.walks.specs.Steps.{Blocks}
use Rattle.walks.specs.Ways.{Joint, Way, odd, roots, ways}

-- MEETINGS

-- the first way that ends at a bit of `seen`, or where an earlier one ended
unfoldable pub repeat : List ℕ → List Way → Option Way
repeat seen [] = None
repeat seen (w ∷ l) = let later = repeat (w.end ∷ seen) l in cond (member w.end seen) (Some w) later

-- back along a way from its end to the bit z where it began, and on from there
unfoldable pub back_along : ℕ → List Joint → List Joint → List Joint
back_along z [] on = on
back_along z (e ∷ l) on = back_along e.bit l (record { check = e.check; bit = z } ∷ on)

-- the same where it began at a check: that check is the first of `on`
abbrev pub back_to_check : List Joint → List Joint → List Joint
back_to_check [] on = on
back_to_check (e ∷ l) on = back_along e.bit l on

abbrev pub join_by : Bool → ℕ → List Joint → List Joint → List Joint
join_by true z l on = back_to_check l on
join_by false z l on = back_along z l on

-- the cycle back along way w and on along way v, both from root k of round n
abbrev pub join : Blocks → ℕ → ℕ → Way → Way → Way
join B n k w v = record { joints = join_by (odd n) (k * B.lift + 0) w.joints v.joints; end = v.end }

abbrev pub with_way : Option Way → (Way → Option Way) → Option Way
with_way None f = None
with_way (Some w) f = f w

-- the first way from root k that ends where an earlier one does, joined with that one
unfoldable pub meeting : Blocks → ℕ → ℕ → Option Way
meeting B n k = with_way (repeat [] (ways B n k)) (λ w. with_way (repeat (w.end ∷ []) (ways B n k)) (λ v. Some (join B n k w v)))

abbrev pub or_else : Option Way → Option Way → Option Way
or_else None r = r
or_else (Some w) r = Some w

-- the first answer among f i, f (i + 1), …, k of them
unfoldable pub first_of : (ℕ → Option Way) → ℕ → ℕ → Option Way
first_of f zero i = None
first_of f (suc k) i = let rest = first_of f k (suc i) in or_else (f i) rest

-- a cycle of n checks and n bits, as round n finds it
unfoldable pub short_cycle : Blocks → ℕ → Option Way
short_cycle B n = first_of (meeting B n) (roots B n) 0
