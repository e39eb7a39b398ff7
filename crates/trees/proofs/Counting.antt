-- A column's tree has as many nodes as there are walks from its root, so `overfull` counts walks. Assumes nothing.
use Prim.Native.Nat.{ℕ, ◌*◌, ◌≤◌, ◌<◌}
use mathlib.Core.Path.{◌≡◌, refl, sym, ap, ◌∙◌}
use mathlib.Core.Logic.{inl}
use mathlib.Core.Bool.{true}
use mathlib.Core.List.{List, [], ◌∷◌}
use native.Mathlib.Omega.{arith}
use lib.IntN.{ℤ}
use lib.ListN.{length, length-map}
use Rattle.graph.specs.Count.{Mem, Nodup}
use Rattle.graph.specs.Walks.{Node, check, bit, Adj, Walk}
use Rattle.graph.proofs.Decide.{by_eq}
use Rattle.graph.proofs.Lists.{no_more}
use Rattle.exponent.specs.declared.Shape.{Shape}
use Rattle.exponent.specs.declared.position.Position.{Position}
use Rattle.exponent.specs.Tanner.{tanner, graph_of}
use Rattle.exponent.proofs.Numbers.{number_low}
use Rattle.walks.specs.Steps.{Blocks, blocks_of}
use Rattle.walks.proofs.Link.{at_0, root_bit_law}
use Rattle.trees.specs.Tree.{tree, column_tree, overfull}
use Rattle.trees.proofs.Walks.{ending, walks_from, tree_walks, walks_distinct, sound, complete, fresh_root}
use Rattle.trees.proofs.Growing.{tree_some}
use Rattle.trees.proofs.Overfull.{overfull_some, overfull_at}

-- walks of at most d edges from a bit
abbrev pub Walks : List ℤ → Shape → ℕ → ℕ → List (List Node) → Type 0
Walks plan s d z L = (l : List Node) → Mem l L → Walk (graph_of plan s) (bit z ∷ l) × (length l ≤ d)

module _ (plan : List ℤ) (s : Shape) (d : ℕ) where
  abbrev B : Blocks
  B = blocks_of plan s

  abbrev outer : Node
  outer = check (at_0 s s.rows)

  module _ (some_lift : 0 < s.lift) where
    as_many : (j : ℕ) → j < s.cols → length (column_tree B d j) ≡ length (walks_from B d outer (bit (at_0 s j)))
    unfolding tanner
    as_many j h =
        ap (λ (q : Position). length (tree B true d q)) (root_bit_law plan s some_lift j)
        ∙ ap length (tree_walks plan s some_lift d outer (bit (at_0 s j)) (number_low j 0 s.cols s.lift h some_lift))
        ∙ length-map (walks_from B d outer (bit (at_0 s j))) (ending s.lift d outer (bit (at_0 s j)))

    pub column_walks : (j : ℕ) → j < s.cols → (L : List (List Node)) × Nodup L × Walks plan s d (at_0 s j) L × (length L ≡ length (column_tree (blocks_of plan s) d j))
    unfolding tanner
    column_walks j h = (
      walks_from B d outer (bit (at_0 s j)),
      walks_distinct plan s some_lift d outer (bit (at_0 s j)),
      λ l m. let (w, _, k) = sound plan s some_lift d outer (bit (at_0 s j)) (number_low j 0 s.cols s.lift h some_lift) l m in (w, k),
      sym (as_many j h),
    )

    no_more_walks : (j : ℕ) → j < s.cols → (L : List (List Node)) → Nodup L → Walks plan s d (at_0 s j) L → length L ≤ length (column_tree B d j)
    no_more_walks j h L distinct w =
        let z = at_0 s j in
        omega (arith, as_many j h, no_more L (walks_from B d outer (bit z)) distinct (λ l m. complete plan s some_lift d outer (bit z) l (fresh_root plan s some_lift z l (w l m).0) (w l m).0 (w l m).1))

  -- without voltages there are no edges, and no walk but the root
  no_lift : s.lift ≡ 0 → (z : ℕ) (l : List Node) → Walk (graph_of plan s) (bit z ∷ l) → l ≡ []
  unfolding tanner Adj
  no_lift e z [] w = refl
  no_lift e z (bit b ∷ l) w = absurd w.0.0
  no_lift e z (check c ∷ l) w = absurd (let h : z < s.cols * 0 = rw e at w.0.0.bit_in in omega arith)

  -- THE LAWS: some column has more walks than a list has places
  pub walks_overfull : (places j : ℕ) → j < s.cols → (L : List (List Node)) → Nodup L → Walks plan s d (at_0 s j) L → places < length L → overfull (blocks_of plan s) d places ≡ true
  walks_overfull places j h L distinct w more =
      by_eq s.lift 0
      (λ e. overfull_at B d places j h (omega (arith, tree_some B true d (record { row = s.rows; col = j; voltage = 0 }), no_more L ([] ∷ []) distinct (λ l m. inl (no_lift e (at_0 s j) l (w l m).0)))))
      (λ n. overfull_at B d places j h (omega (arith, no_more_walks (omega arith) j h L distinct w)))

  pub overfull_walks : 0 < s.lift → (places : ℕ) → overfull (blocks_of plan s) d places ≡ true
      → (j : ℕ) × (j < s.cols) × ((L : List (List Node)) × Nodup L × Walks plan s d (at_0 s j) L × (places < length L))
  overfull_walks some_lift places e =
      let (j, h, more) = overfull_some B d places e in
      let (L, distinct, w, n) = column_walks some_lift j h in
      (j, h, (L, distinct, w, omega arith))
