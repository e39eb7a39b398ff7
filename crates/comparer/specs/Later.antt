-- The lines of an alist behind the first: what is left once the two sizes and the end of their line have been read.
use Rattle.std.specs.Prelude.{ℕ, List, drop}
use Rattle.graph.specs.Graph.{Bipartite}
use Rattle.tokens.specs.declared.Form.{Form}
use Rattle.lines.specs.Alist.{lines_in}

abbrev pub later_lines : Form → Bipartite → List (List ℕ)
later_lines form G = drop 1 (lines_in form G)
