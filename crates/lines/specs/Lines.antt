-- What the inner functions compute of a line: its width in a form, and its numbers from one on. The lines in their order.
use Rattle.std.specs.Prelude.{ℕ, zero, suc, ◌+◌, ◌-◌, ◌/◌, ◌<◌, ◌≡◌, List, [], ◌∷◌, ◌++◌, map, ℤ, length, get_or, drop}
use Rattle.graph.specs.Count.{below}
use Rattle.graph.specs.Graph.{Bipartite}
use Rattle.exponent.specs.declared.Shape.{Shape}
use Rattle.exponent.specs.Tanner.{graph_of}
use Rattle.tokens.specs.declared.Form.{Form}
use Rattle.tokens.specs.declared.Form.TheVariants.{Padded, Unpadded}
use Rattle.weights.specs.declared.Side.{Side}
use Rattle.weights.specs.declared.Side.TheVariants.{Bits, Checks}
use Rattle.lines.specs.declared.Layout.{Layout}
use Rattle.lines.specs.declared.Line.{Line}
use Rattle.lines.specs.declared.Line.TheVariants.{Sizes, Greatest, Degrees, Node}
use Rattle.lines.specs.declared.generate.Number.{Number}
use Rattle.lines.specs.Alist.{nodes, neighbours, degrees, greatest, fill, formed}
use Rattle.weights.specs.Weights.{lanes, list_of}
use Rattle.lines.specs.Sides.{Ready, Small, node_count, rest_of}

-- the numbers of a line
unfoldable pub line_in : Form → Bipartite → Line → List ℕ
line_in form G Sizes = nodes G Bits ∷ nodes G Checks ∷ []
line_in form G Greatest = greatest (degrees G Bits) ∷ greatest (degrees G Checks) ∷ []
line_in form G (Degrees side) = degrees G side
line_in form G (Node side x) = formed form (greatest (degrees G side)) (map suc (neighbours G side x))

-- those that are written
abbrev pub line_of : Bipartite → Line → List ℕ
line_of G line = line_in Padded G line

-- the lines in their order
unfoldable pub order : Shape → List Line
order s =
    Sizes
    ∷ Greatest
    ∷ Degrees Bits
    ∷ Degrees Checks
    ∷ map (λ x. Node Bits x) (below (node_count s Bits)) ++ map (λ x. Node Checks x) (below (node_count s Checks))

abbrev pub line_count : Layout → ℕ
line_count l = 4 + (node_count l.shape Bits + node_count l.shape Checks)

abbrev pub side_at : ℕ → Side
side_at zero = Bits
side_at (suc k) = Checks

abbrev pub most_of : Layout → Side → ℕ
most_of l Bits = l.bits
most_of l Checks = l.checks

-- the layout is that of the plan
pub record Measured (plan : List ℤ) (l : Layout) (down along : List ℕ) : Type 0 where
  pub ready : Ready plan l.shape down along
  pub most_bits : l.bits ≡ greatest (degrees (graph_of plan l.shape) Bits)
  pub most_checks : l.checks ≡ greatest (degrees (graph_of plan l.shape) Checks)

-- the layout by the lists of weights: the greatest column weight and the greatest row weight
abbrev pub layout_of : Shape → List ℕ → List ℕ → Layout
layout_of s rows cols = record { shape = s; bits = greatest cols; checks = greatest rows }

-- lists of weights that are as long as the layout has rows and columns
pub record Listed (l : Layout) (rows cols : List ℕ) : Type 0 where
  pub small : Small l.shape
  pub some_lift : 0 < l.shape.lift
  pub whole : (side : Side) → length (list_of side rows cols) ≡ lanes l.shape side

-- how many numbers the list of a node has: in the unpadded form as many as its degree
abbrev pub list_width : Form → Layout → List ℕ → List ℕ → Side → ℕ → ℕ
list_width Padded l rows cols side x = most_of l side
list_width Unpadded l rows cols side x = get_or (list_of side rows cols) (x / l.shape.lift) 0

-- how many numbers a line has
abbrev pub width_of : Form → Layout → List ℕ → List ℕ → Line → ℕ
width_of form l rows cols Sizes = 2
width_of form l rows cols Greatest = 2
width_of form l rows cols (Degrees side) = node_count l.shape side
width_of form l rows cols (Node side x) = list_width form l rows cols side x

-- the line is one of the plan's
abbrev pub InLine : Layout → Line → Type 0
InLine l Sizes = Unit {0}
InLine l Greatest = Unit {0}
InLine l (Degrees side) = Unit {0}
InLine l (Node side x) = x < node_count l.shape side

-- the numbers of a line of w numbers from its k-th on, where the blocks before `from` are done
unfoldable pub line_rest : List ℤ → Layout → Line → ℕ → ℕ → ℕ → List ℕ
line_rest plan l Sizes w k from = drop k (line_of (graph_of plan l.shape) Sizes)
line_rest plan l Greatest w k from = drop k (line_of (graph_of plan l.shape) Greatest)
line_rest plan l (Degrees side) w k from = drop k (line_of (graph_of plan l.shape) (Degrees side))
line_rest plan l (Node side x) w k from = fill (w - k) (map suc (rest_of plan l.shape side x from))

-- a number that goes on a line filled up with 0: `rest k` is what is left from block k on
pub record Fills (rest : ℕ → List ℕ) (from : ℕ) (r : Number) : Type 0 where
  pub fills : (w : ℕ) → fill (suc w) (map suc (rest from)) ≡ r.value ∷ fill w (map suc (rest r.next))
