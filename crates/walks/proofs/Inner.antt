-- The calls of the search before its last depth, each as the walk from the root to it: no walk stands there twice. Assumes nothing.
use Rattle.std.specs.Prelude.{Option, Some, None}
use Prim.Native.Nat.{ℕ, zero, suc, ◌+◌, ◌-◌, ◌*◌}
use mathlib.Core.Path.{◌≡◌, refl, ap, ◌∙◌}
use mathlib.Core.Bool.{Bool, true, false}
use mathlib.Core.List.{List, [], ◌∷◌, map}
use native.Mathlib.Omega.{arith}
use lib.ListN.{length}
use Rattle.graph.specs.Count.{Mem, Nodup}
use Rattle.graph.proofs.Lists.{each_image, nodup_image}
use Rattle.graph.specs.Walks.{Node, check, bit}
use Rattle.exponent.specs.declared.position.Position.{Position}
use Rattle.walks.specs.declared.Corner.{Corner}
use Rattle.walks.specs.Steps.{Blocks, to_column, to_row}
use Rattle.walks.specs.Ways.{each, corner, root_bit, root_check}
use Rattle.walks.proofs.Each.{mem_each, nodup_each}

-- THE WALKS, each as its vertices after the first

-- over one step more, to the vertex `at` of the position that it leads to
abbrev pub over_step : (Position → Node) → (Position → List (List Node)) → Option Position → List (List Node)
over_step at next None = []
over_step at next (Some q) = map (λ l. at q ∷ l) (next q)

-- to stay, and all walks on over the steps i, i + 1, …, k of them
abbrev pub branches : (Position → Node) → (Position → List (List Node)) → (ℕ → (Option Position)) → ℕ → ℕ → List (List Node)
branches at next step k i = [] ∷ each (λ j. over_step at next (step j)) k i

abbrev pub check_at : Blocks → Position → Node
check_at B p = check (p.row * B.lift + p.voltage)

abbrev pub bit_at : Blocks → Position → Node
bit_at B p = bit (p.col * B.lift + p.voltage)

-- from a check, and from a bit with d checks to go, where the last depth is left out
abbrev pub inner_check : Blocks → Corner → (Position → List (List Node)) → Position → List (List Node)
inner_check B κ next p = branches (bit_at B) next (to_column B p) (B.cols - κ.col) κ.col

unfoldable pub inner_bit : Blocks → Corner → ℕ → Position → List (List Node)
inner_bit B κ zero p = []
inner_bit B κ (suc d) p = branches (check_at B) (inner_check B κ (inner_bit B κ d)) (to_row B p) (B.rows - κ.row) κ.row

abbrev pub inner_by : Bool → Blocks → ℕ → ℕ → List (List Node)
inner_by true B d k = inner_check B (corner k 0) (inner_bit B (corner k 0) d) (root_check B k)
inner_by false B d k = inner_bit B (corner 0 k) d (root_bit B k)

module _ (at : Position → Node) (next : Position → List (List Node)) where
  -- a walk over a step to q
  pub record Stepped (step : Option Position) (l : List Node) : Type 0 where
    pub to : Position
    pub taken : step ≡ Some to
    pub rest : List Node
    pub whole : l ≡ at to ∷ rest
    pub on : Mem rest (next to)

  pub stepped : (step : Option Position) (l : List Node) → Mem l (over_step at next step) → Stepped step l
  stepped None l m = absurd m
  stepped (Some q) l m = each_image (λ l. at q ∷ l) (Stepped (Some q)) (next q) (λ r h. record { to = q; taken = refl; rest = r; whole = refl; on = h }) l m

  -- NO WALK TWICE: the vertices after different steps lie in different blocks

  abbrev first : (Node → ℕ) → List Node → ℕ
  first key [] = 0
  first key (v ∷ l) = key v

  nodup_lead : (v : Node) (L : List (List Node)) → Nodup L → Nodup (map (λ l. v ∷ l) L)
  nodup_lead v L d = nodup_image (λ l. v ∷ l) L d (λ l m i j e differ. differ (let z : l ≡ m = cc in z))

  nodup_step : (step : Option Position) → ((q : Position) → Nodup (next q)) → Nodup (over_step at next step)
  nodup_step None d = tt
  nodup_step (Some q) d = nodup_lead (at q) (next q) (d q)

  module _ (step : ℕ → (Option Position)) (key : Node → ℕ) (d : (q : Position) → Nodup (next q)) (apart : (j : ℕ) (q : Position) → step j ≡ Some q → key (at q) ≡ j) where
    keyed : (j : ℕ) (l : List Node) → Mem l (over_step at next (step j)) → first key l ≡ j
    keyed j l m = let o = stepped (step j) l m in ap (first key) o.whole ∙ apart j o.to o.taken

    pub nodup_branches : (k i : ℕ) → Nodup (branches at next step k i)
    nodup_branches k i = (
      λ m. let (j, p, q, h) = mem_each (λ j. over_step at next (step j)) k i [] m in let z = ap length (stepped (step j) [] h).whole in omega arith,
      nodup_each (λ j. over_step at next (step j)) (first key) (λ j. nodup_step (step j) d) keyed k i,
    )
