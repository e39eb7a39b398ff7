-- What the comparer says of a text (document 02, slip 1): it agrees with one of the two forms of an alist, or departs from both.
use Rattle.std.specs.Prelude.{ℕ, max, List, Option, None, Some}
use Rattle.graph.specs.Graph.{Bipartite}
use Rattle.tokens.specs.declared.Form.{Form}
use Rattle.tokens.specs.declared.Form.TheVariants.{Padded, Unpadded}
use Rattle.tokens.specs.Tokens.{mismatch}
use Rattle.lines.specs.Alist.{lines_in}
use Rattle.lines.specs.Text.{items_of}

-- the place at which a text first departs from a form of the alist
unfoldable pub departs_in : Form → List ℕ → Bipartite → Option ℕ
departs_in form text G = mismatch form text 0 (items_of form (lines_in form G))

-- the later of two places, where there are two
abbrev pub later : Option ℕ → Option ℕ → Option ℕ
later None q = None
later (Some p) None = None
later (Some p) (Some q) = Some (max p q)

-- the place that a text shows which agrees with neither form
unfoldable pub departs : List ℕ → Bipartite → Option ℕ
departs text G = later (departs_in Padded text G) (departs_in Unpadded text G)
