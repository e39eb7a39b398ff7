-- The alist of a Tanner graph (document 01, "alist text"), as lines of numbers, in its two forms (document 02, slip 1). Bits and checks are
-- its two sides.
use Rattle.std.specs.Prelude.{ℕ, zero, suc, max, List, [], ◌∷◌, ◌++◌, map, ℤ, length}
use Rattle.graph.specs.Count.{below}
use Rattle.graph.specs.Graph.{Bipartite, bits_of, checks_of}
use Rattle.exponent.specs.Tanner.{tanner}
use Rattle.tokens.specs.declared.Form.{Form}
use Rattle.tokens.specs.declared.Form.TheVariants.{Padded, Unpadded}
use Rattle.weights.specs.declared.Side.{Side}
use Rattle.weights.specs.declared.Side.TheVariants.{Bits, Checks}

-- how many bits there are, or checks
abbrev pub nodes : Bipartite → Side → ℕ
nodes G Bits = G.bits
nodes G Checks = G.checks

-- the checks of a bit, or the bits of a check, rising
abbrev pub neighbours : Bipartite → Side → ℕ → List ℕ
neighbours G Bits x = checks_of G x
neighbours G Checks x = bits_of G x

-- each bit's degree, or each check's
unfoldable pub degrees : Bipartite → Side → List ℕ
degrees G side = map (λ x. length (neighbours G side x)) (below (nodes G side))

-- the greatest number of a list, or 0
unfoldable pub greatest : List ℕ → ℕ
greatest [] = 0
greatest (n ∷ ns) = max n (greatest ns)

-- `width` numbers: those of a list, filled up with 0
unfoldable pub fill : ℕ → List ℕ → List ℕ
fill zero ns = []
fill (suc width) [] = 0 ∷ fill width []
fill (suc width) (n ∷ ns) = n ∷ fill width ns

-- a list in a form: filled up with 0 to the width, or as it is
abbrev pub formed : Form → ℕ → List ℕ → List ℕ
formed Padded width ns = fill width ns
formed Unpadded width ns = ns

-- for each bit its checks, or for each check its bits: counted from 1; in the padded form filled up to the greatest degree
unfoldable pub lists : Form → Bipartite → Side → List (List ℕ)
lists form G side = map (λ x. formed form (greatest (degrees G side)) (map suc (neighbours G side x))) (below (nodes G side))

-- the lines
unfoldable pub lines_in : Form → Bipartite → List (List ℕ)
lines_in form G =
    (nodes G Bits ∷ nodes G Checks ∷ [])
    ∷ (greatest (degrees G Bits) ∷ greatest (degrees G Checks) ∷ [])
    ∷ degrees G Bits
    ∷ degrees G Checks
    ∷ lists form G Bits ++ lists form G Checks

-- the lines that are written
abbrev pub lines_of : Bipartite → List (List ℕ)
lines_of G = lines_in Padded G

-- the alist of a plan
abbrev pub alist : List ℤ → ℕ → ℕ → ℕ → List (List ℕ)
alist plan rows cols lift = lines_of (tanner plan rows cols lift)
