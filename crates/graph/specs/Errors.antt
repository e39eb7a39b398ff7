-- Errors (document 02, slip 11: wrong bits) of a word that was read of another, beside its erasures (lost bits).
use Rattle.std.specs.Prelude.{ℕ, Bool, not, ◌&&◌, List, eqb, length, get_or}
use Rattle.graph.specs.Count.{below, count}
use Rattle.graph.specs.Erasure.{erased}

-- the two words differ at bit b
abbrev pub differs : List ℕ → List ℕ → ℕ → Bool
differs u v b = not (eqb (get_or u b 0) (get_or v b 0))

-- bit b of r, which was read of v, is an error: not lost, and not what v has
abbrev pub wrong : List ℕ → List ℕ → ℕ → Bool
wrong v r b = not (erased r b) && differs v r b

-- how many errors r has
unfoldable pub errors : List ℕ → List ℕ → ℕ
errors v r = count (wrong v r) (below (length r))
