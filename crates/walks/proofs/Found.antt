-- What a round finds is a simple cycle: two ways that meet, where no cycle has fewer edges. Assumes nothing.
use Prim.Native.Nat.{ℕ, ◌*◌, ◌≤◌, ◌<◌}
use mathlib.Core.Path.{◌≡◌, refl, sym, ap, ap₂, subst, ◌∙◌}
use mathlib.Core.Logic.{◌≢◌}
use mathlib.Core.List.{List, [], ◌∷◌, reverse_aux}
use mathlib.Core.Bool.{Bool, true, false}
use Rattle.std.specs.Prelude.{Some}
use native.Mathlib.Omega.{arith}
use lib.IntN.{ℤ}
use lib.ListN.{length, length-map}
use Rattle.graph.specs.Count.{Mem}
use Rattle.graph.specs.Graph.{Bipartite}
use Rattle.graph.proofs.Lists.{last}
use Rattle.graph.specs.Walks.{Node, bit}
use Rattle.graph.specs.Girth.{SimpleCycle, Passes}
use Rattle.graph.proofs.Cycles.{checks_among, bits_of}
use Rattle.graph.proofs.Meeting.{Meeting, meeting_cycle}
use Rattle.exponent.specs.declared.Shape.{Shape}
use Rattle.exponent.specs.Tanner.{graph_of}
use Rattle.walks.specs.Steps.{Blocks, blocks_of}
use Rattle.walks.specs.Ways.{Joint, Way, odd, roots, ways}
use Rattle.walks.specs.Meeting.{repeat, join_by, join, with_way, meeting, short_cycle}
use Rattle.walks.proofs.Repeats.{some_mem, other_way}
use Rattle.walks.proofs.Link.{at_0}
use Rattle.walks.proofs.Nodes.{nodes, nodes_checks, nodes_bits, checks_in, bits_in, back_nodes, back_to_check_law}
use Rattle.walks.proofs.Answers.{some_at, with_some}
use Rattle.walks.proofs.Roots.{root_of, lead, Walked, same_way, walked, distinct}

around : (G : Bipartite) (n : ℕ) (t : Bool) (z : ℕ) (w v : Way) (a : Walked G n (root_of t z) w) (b : Walked G n (root_of t z) v)
    → reverse_aux a.after (root_of t z ∷ b.after) ≡ bit w.end ∷ nodes (join_by t z w.joints v.joints)
around G n true z w v a b = back_to_check_law z w.joints v.joints a.after b.after w.end a.shown b.shown a.ends
around G n false z w v a b =
    ap₂ (λ (x y : List Node). reverse_aux x (bit z ∷ y)) (sym a.shown) (sym b.shown) ∙ back_nodes z w.joints v.joints w.end (ap (last (bit z)) a.shown ∙ a.ends)

module _ (plan : List ℤ) (s : Shape) (some_lift : 0 < s.lift) where
  abbrev G : Bipartite
  G = graph_of plan s

  abbrev B : Blocks
  B = blocks_of plan s

  -- FOUND: two ways that meet are a cycle

  module _ (n : ℕ) (k : ℕ) (low : k < roots B n) (w v : Way) (ends : v.end ≡ w.end) (differ : v ≢ w) (m : Mem w (ways B n k)) (h : Mem v (ways B n k)) where
    abbrev root : Node
    root = root_of (odd n) (at_0 s k)

    two_ways : Meeting G n root
    two_ways =
        let ow = walked plan s some_lift n k low w m in
        let ov = walked plan s some_lift n k low v h in
        record {
          one = ow.after;
          two = ov.after;
          walk_one = ow.walk;
          walk_two = ov.walk;
          long_one = ow.long;
          long_two = ov.long;
          end = bit w.end;
          ends_one = ow.ends;
          ends_two = ov.ends ∙ ap bit ends;
          differ = λ q. differ (same_way v w (ov.shown ∙ ap (lead root) (sym q) ∙ sym ow.shown) ends);
        }

    found_by : 2 ≤ n → Passes G (2 * n) → let l = (join B n k w v).joints in SimpleCycle G n (checks_among (nodes l)) (bits_of (nodes l))
    unfolding two_ways
    found_by two passes =
        meeting_cycle G n two passes root two_ways w.end refl (nodes (join B n k w v).joints)
        (around G n (odd n) (at_0 s k) w v (walked plan s some_lift n k low w m) (walked plan s some_lift n k low v h))

  -- what a round finds is a simple cycle
  pub found_cycle : (n : ℕ) (c : Way) → 2 ≤ n → Passes (graph_of plan s) (2 * n) → short_cycle (blocks_of plan s) n ≡ Some c
      → (length c.joints ≡ n) × SimpleCycle (graph_of plan s) n (checks_in c.joints) (bits_in c.joints)
  unfolding short_cycle meeting
  found_cycle n c two passes e =
      let (k, p, low, h) = some_at (meeting B n) (roots B n) 0 c e in
      let (w, a, g) = with_some (repeat [] (ways B n k)) (λ w. with_way (repeat (w.end ∷ []) (ways B n k)) (λ v. Some (join B n k w v))) c h in
      let (v, b, j) = with_some (repeat (w.end ∷ []) (ways B n k)) (λ v. Some (join B n k w v)) c g in
      let (differ, ends) = other_way [] (ways B n k) w v (distinct plan s some_lift n k) (λ m. m) a b in
      let l = (join B n k w v).joints in
      let same : l ≡ c.joints = ap (λ (x : Way). x.joints) (let z : join B n k w v ≡ c = cc in z) in
      let y = found_by n k (omega arith) w v ends differ (some_mem [] (ways B n k) w a) (some_mem (w.end ∷ []) (ways B n k) v b) two passes in
      let shown = subst (λ (x : List Joint). SimpleCycle G n (checks_in x) (bits_in x)) same (rw (nodes_checks l, nodes_bits l) at y) in
      (sym (length-map c.joints (λ e. e.check)) ∙ shown.n_checks, shown)
