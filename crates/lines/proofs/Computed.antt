-- The lines of small plans, computed. Assumes nothing.
use mathlib.Core.Path.{◌≡◌, refl}
use mathlib.Core.List.{List, [], ◌∷◌}
use lib.IntN.{ℤ, pos, negsuc}
use Rattle.graph.specs.Count.{range, select}
use Rattle.graph.specs.Graph.{bits_of, checks_of}
use Rattle.exponent.specs.Plan.{entry_at, block_at}
use Rattle.exponent.specs.Tanner.{tanner}
use Rattle.tokens.specs.declared.Form.TheVariants.{Unpadded}
use Rattle.lines.specs.Alist.{degrees, greatest, fill, lists, lines_in, alist}

-- the one-row plan 0 −1: more bits than checks, and a bit with no check
abbrev pub short : List ℤ
short = pos 0 ∷ negsuc 0 ∷ []

-- at lift 1 the line of the bit without check is filled up with 0; in the unpadded form it is blank
pub filled_up : alist short 1 2 1 ≡ (2 ∷ 1 ∷ []) ∷ (1 ∷ 1 ∷ []) ∷ (1 ∷ 0 ∷ []) ∷ (1 ∷ []) ∷ (1 ∷ []) ∷ (0 ∷ []) ∷ (1 ∷ []) ∷ []
unfolding lines_in lists degrees greatest fill bits_of checks_of tanner select range block_at entry_at
filled_up = refl

pub left_blank : lines_in Unpadded (tanner short 1 2 1) ≡ (2 ∷ 1 ∷ []) ∷ (1 ∷ 1 ∷ []) ∷ (1 ∷ 0 ∷ []) ∷ (1 ∷ []) ∷ (1 ∷ []) ∷ [] ∷ (1 ∷ []) ∷ []
unfolding lines_in lists degrees greatest fill bits_of checks_of tanner select range block_at entry_at
left_blank = refl

-- the plan 0 0 / 0 −1, in which a bit and a check have a short list
abbrev pub corner : List ℤ
corner = pos 0 ∷ pos 0 ∷ pos 0 ∷ negsuc 0 ∷ []

pub both_padded : alist corner 2 2 1 ≡ (2 ∷ 2 ∷ []) ∷ (2 ∷ 2 ∷ []) ∷ (2 ∷ 1 ∷ []) ∷ (2 ∷ 1 ∷ []) ∷ (1 ∷ 2 ∷ []) ∷ (1 ∷ 0 ∷ []) ∷ (1 ∷ 2 ∷ []) ∷ (1 ∷ 0 ∷ []) ∷ []
unfolding lines_in lists degrees greatest fill bits_of checks_of tanner select range block_at entry_at
both_padded = refl

pub both_ended : lines_in Unpadded (tanner corner 2 2 1) ≡ (2 ∷ 2 ∷ []) ∷ (2 ∷ 2 ∷ []) ∷ (2 ∷ 1 ∷ []) ∷ (2 ∷ 1 ∷ []) ∷ (1 ∷ 2 ∷ []) ∷ (1 ∷ []) ∷ (1 ∷ 2 ∷ []) ∷ (1 ∷ []) ∷ []
unfolding lines_in lists degrees greatest fill bits_of checks_of tanner select range block_at entry_at
both_ended = refl

-- where every block is empty, the lists are blank lines
pub blank_lines : alist (negsuc 0 ∷ []) 1 1 2 ≡ (2 ∷ 2 ∷ []) ∷ (0 ∷ 0 ∷ []) ∷ (0 ∷ 0 ∷ []) ∷ (0 ∷ 0 ∷ []) ∷ [] ∷ [] ∷ [] ∷ [] ∷ []
unfolding lines_in lists degrees greatest fill bits_of checks_of tanner select range block_at entry_at
blank_lines = refl
