-- The supplied Steiner triple systems: their orders, and the triples of each in the list.
use Rattle.std.specs.Prelude.{ℕ, ◌+◌, ◌-◌, ◌*◌, ◌/◌, Bool, cond, ◌&&◌, List, [], ◌∷◌, ltb, eqb, get_or}
use Rattle.std.specs.Prelude.{Option, None, Some}
use Rattle.std.specs.Option.{is_some}
use Rattle.graph.specs.Count.{member}
use Rattle.steiner.specs.declared.system.Triple.{Triple}
use Rattle.steiner.specs.Points.{points}

-- the orders that are supplied
abbrev pub orders : List ℕ
orders = 7 ∷ 9 ∷ 13 ∷ 15 ∷ 19 ∷ []

-- the order is one of the five
unfoldable pub is_order : ℕ → Bool
is_order v = member v orders

-- how many triples a system of order v has: the columns of its plan
unfoldable pub cols : ℕ → ℕ
cols v = v * (v - 1) / 6

-- the triples of an order stand behind those of the orders before it
unfoldable pub start_among : List ℕ → ℕ → ℕ
start_among [] v = 0
start_among (u ∷ us) v = let later = 3 * cols u + start_among us v in cond (eqb u v) 0 later

unfoldable pub start : ℕ → ℕ
start v = start_among orders v

abbrev pub triple : ℕ → ℕ → ℕ → Triple
triple a b c = record { a = a; b = b; c = c }

-- triple j of order v
unfoldable pub triple_at : ℕ → ℕ → Triple
triple_at v j = triple (get_or points (start v + 3 * j) 0) (get_or points (start v + 3 * j + 1) 0) (get_or points (start v + 3 * j + 2) 0)

-- which point of a triple i is, if it is one
abbrev pub place_in : Triple → ℕ → Option ℕ
place_in t i = cond (eqb i t.a) (Some 0) (cond (eqb i t.b) (Some 1) (cond (eqb i t.c) (Some 2) None))

-- the point i lies in the triple
abbrev pub has : Triple → ℕ → Bool
has t i = is_some (place_in t i)

-- the order is one of the five, and a plan of it has more than 65,536 bits
abbrev pub too_long : ℕ → ℕ → Bool
too_long v lift = is_order v && ltb 65536 (cols v * lift)
