-- How the code holds a way: its end, and numbers of checks and bits with 0 in the places not used.
use Rattle.std.specs.Prelude.{ℕ, zero, suc, Bool, true, false, List, [], ◌∷◌, ◌++◌, take, drop, replicate, get_or}
use Rattle.std.specs.Prelude.{Option, None, Some}
use Rattle.walks.specs.declared.trail.Trail.{Trail}
use Rattle.walks.specs.Ways.{Joint, Way}

-- the places for checks, and for bits
abbrev pub places : ℕ
places = 8

-- a number in front of the others, of which the last goes; and the first left out, with 0 in the last place
abbrev pub in_front : ℕ → List ℕ → List ℕ
in_front x l = x ∷ take 7 l

abbrev pub left_out : List ℕ → List ℕ
left_out l = drop 1 l ++ 0 ∷ []

-- one check and the bit after it, in front; and left out again
abbrev pub push : ℕ → ℕ → Trail → Trail
push c b t = record { end = t.end; checks = in_front c t.checks; bits = in_front b t.bits }

abbrev pub pop : Trail → Trail
pop t = record { end = t.end; checks = left_out t.checks; bits = left_out t.bits }

abbrev pub no_trail : ℕ → Trail
no_trail b = record { end = b; checks = replicate places 0; bits = replicate places 0 }

unfoldable pub lay : ℕ → List Joint → Trail
lay b [] = no_trail b
lay b (e ∷ l) = push e.check e.bit (lay b l)

abbrev pub trail : Way → Trail
trail w = lay w.end w.joints

abbrev pub found : Option Way → Option Trail
found None = None
found (Some w) = Some (trail w)

-- back along the d checks of w to bit z, and on along `on`; and the cycle of two ways, d being half the round's number
unfoldable pub back_trail : ℕ → ℕ → Trail → Trail → Trail
back_trail zero z w on = on
back_trail (suc d) z w on = back_trail d (get_or w.bits 0 0) (pop w) (push (get_or w.checks 0 0) z on)

abbrev pub join_trail : Bool → ℕ → ℕ → Trail → Trail → Trail
join_trail true d z w on = back_trail d (get_or w.bits 0 0) (pop w) on
join_trail false d z w on = back_trail d z w on
