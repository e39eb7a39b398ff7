-- A tree on the way: what is left of a node's branches, and what has been written. Assumes nothing.
use Rattle.std.specs.Prelude.{Option, Some, None}
use Prim.Native.Nat.{ℕ, zero, suc, ◌+◌, ◌-◌, ◌≤◌, ◌<◌}
use mathlib.Core.Path.{◌≡◌, refl, sym, ap, subst, ◌∙◌}
use Rattle.std.specs.Option.{is_none}
use mathlib.Core.Bool.{Bool, true, false, not}
use mathlib.Core.List.{List, [], ◌∷◌, ◌++◌}
use native.Mathlib.Omega.{arith}
use native.Mathlib.Nat.{sub-zero}
use lib.ListN.{length, set}
use Rattle.writing.specs.Wrote.{Wrote}
use Rattle.writing.proofs.Wrote.{wrote_one, wrote_then, wrote_length, Going, going_start, part_room, part_done, all_done}
use Rattle.exponent.specs.declared.position.Position.{Position}
use Rattle.index.specs.Index.{NextFrom}
use Rattle.walks.specs.Steps.{Blocks}
use Rattle.walks.specs.Ways.{and_then, each}
use Rattle.walks.proofs.Each.{each_turn, each_end, steps_skip}
use Rattle.trees.specs.Tree.{step_to, width, packed, tree}
use Rattle.trees.specs.Grow.{Grew, full, grown}

-- A TREE BY ITS ROOT
module _ (B : Blocks) (bit : Bool) (left : ℕ) (p : Position) where
  -- the branches from the i-th on
  abbrev pub Rest : ℕ → List ℕ
  Rest i = each (λ k. and_then (step_to B bit p k) (tree B (not bit) (left - 1))) (width B bit - i) i

  tree_last : left ≡ 0 → tree B bit left p ≡ packed B.lift bit left p ∷ []
  unfolding tree
  tree_last e = rw e

tree_more : (B : Blocks) (bit : Bool) (left : ℕ) (p : Position) → (left ≡ 0 → ⊥) → tree B bit left p ≡ packed B.lift bit left p ∷ Rest B bit left p 0
unfolding tree
tree_more B bit zero p h = absurd (h refl)
tree_more B bit (suc d) p h =
    let e : suc d - 1 ≡ d = omega arith in
    λ i. packed B.lift bit (suc d) p ∷ each (λ k. and_then (step_to B bit p k) (tree B (not bit) (sym e i))) (sym (sub-zero (width B bit)) i) 0

pub tree_some : (B : Blocks) (bit : Bool) (left : ℕ) (p : Position) → 0 < length (tree B bit left p)
unfolding tree
tree_some B bit zero p = omega arith
tree_some B bit (suc d) p = omega arith

-- WHAT GROWING ANSWERS
module _ {before nodes after : List ℕ} {at limit : ℕ} where
  pub grew_full : {r : (Option ℕ)} → Grew before at limit nodes after r → r ≡ None → limit < at + length nodes
  grew_full (full h) e = h
  grew_full (grown h w) e = absurd (let z : ◌≡◌ {A = ℕ} 0 1 = cc in omega arith)

  pub grew_until : {r : (Option ℕ)} {next : ℕ} → Grew before at limit nodes after r → r ≡ Some next → (next ≤ limit) × Wrote before at nodes next after
  grew_until (full h) e = absurd (let z : ◌≡◌ {A = ℕ} 0 1 = cc in omega arith)
  grew_until {next = n} (grown {next = m} h w) e = let q : m ≡ n = cc in subst (λ (k : ℕ). (k ≤ limit) × Wrote before at nodes k after) q (h, w)

  pub grew_over : {r : Option ℕ} → Grew before at limit nodes after r → true ≡ is_none r → limit < at + length nodes
  grew_over (full h) e = h
  grew_over (grown h w) e = absurd (let z : ⊥ = cc in z)

-- a node that no edge follows, and the same for a list and an answer that are equal to these
module _ {before after : List ℕ} {at limit : ℕ} {r : (Option ℕ)} where
  pub grew_leaf : (B : Blocks) (bit : Bool) (left : ℕ) (p : Position) {x : ℕ} → left ≡ 0 → x ≡ packed B.lift bit 0 p → Grew before at limit (x ∷ []) after r
      → Grew before at limit (tree B bit left p) after r
  grew_leaf B bit left p none same g =
      subst (λ (nodes : List ℕ). Grew before at limit nodes after r)
      (sym (tree_last B bit left p none ∙ ap (λ (n : ℕ). packed B.lift bit n p ∷ []) none ∙ ap (λ (x : ℕ). x ∷ []) (sym same))) g

  pub grew_same : {nodes after' : List ℕ} {r' : (Option ℕ)} → r' ≡ r → after' ≡ after → Grew before at limit nodes after r → Grew before at limit nodes after' r'
  grew_same e f g = rw (e, f) g

-- the branches before the i-th have been written
pub record Grows (B : Blocks) (bit : Bool) (left : ℕ) (p : Position) (limit : ℕ) (start : List ℕ) (begin i : ℕ) (work : List ℕ) (end : ℕ) : Type 0 where
  pub fits : end ≤ limit
  pub going : Going start begin (Rest B bit left p 0) (Rest B bit left p i) end work

pub grows_start : (B : Blocks) (bit : Bool) (left : ℕ) (p : Position) (limit : ℕ) (start : List ℕ) (begin : ℕ) → begin ≤ limit → Grows B bit left p limit start begin 0 start begin
grows_start B bit left p limit start begin h = record { fits = h; going = going_start start begin (Rest B bit left p 0) }

module _ {B : Blocks} {bit : Bool} {left : ℕ} {p : Position} {limit : ℕ} {start : List ℕ} {begin i : ℕ} {work : List ℕ} {end : ℕ} (g : Grows B bit left p limit start begin i work end) where
  same_rest : {k : ℕ} → Rest B bit left p i ≡ Rest B bit left p k → Grows B bit left p limit start begin k work end
  same_rest e = record { fits = g.fits; going = rw e at g.going }

  pub grows_skip : {test : ℕ → Bool} {m : ℕ} → NextFrom test i (width B bit) m → ((k : ℕ) → test k ≡ false → step_to B bit p k ≡ None) → Grows B bit left p limit start begin m work end
  grows_skip f stay = same_rest (steps_skip (step_to B bit p) (tree B (not bit) (left - 1)) f stay)

  pub grows_length : length work ≡ length start
  grows_length = wrote_length g.going.wrote

  turn : i < width B bit → Rest B bit left p i ≡ and_then (step_to B bit p i) (tree B (not bit) (left - 1)) ++ Rest B bit left p (i + 1)
  turn = each_turn (λ k. and_then (step_to B bit p k) (tree B (not bit) (left - 1))) (width B bit) i

  pub grows_stay : i < width B bit → step_to B bit p i ≡ None → Grows B bit left p limit start begin (i + 1) work end
  grows_stay h e = same_rest (turn h ∙ ap (λ (t : Option Position). and_then t (tree B (not bit) (left - 1)) ++ Rest B bit left p (i + 1)) e)

  module _ {q : Position} (h : i < width B bit) (e : step_to B bit p i ≡ Some q) where
    taken : Rest B bit left p i ≡ tree B (not bit) (left - 1) q ++ Rest B bit left p (i + 1)
    taken = turn h ∙ ap (λ (t : Option Position). and_then t (tree B (not bit) (left - 1)) ++ Rest B bit left p (i + 1)) e

    pub grows_more : {after : List ℕ} {next : ℕ} → (next ≤ limit) × Wrote work end (tree B (not bit) (left - 1) q) next after → Grows B bit left p limit start begin (i + 1) after next
    grows_more w = record { fits = w.0; going = part_done (tree B (not bit) (left - 1) q) (Rest B bit left p (i + 1)) taken g.going w.1 }

    pub grows_over : (left ≡ 0 → ⊥) → (at : ℕ) → begin ≡ at + 1 → limit < end + length (tree B (not bit) (left - 1) q) → limit < at + length (tree B bit left p)
    grows_over some at b over =
        omega (arith, part_room (tree B (not bit) (left - 1) q) (Rest B bit left p (i + 1)) taken g.going (suc (begin + length (Rest B bit left p 0))) (omega arith), ap length (tree_more B bit left p some))

  -- the range has an end
  pub grows_end : width B bit ≤ i → (left ≡ 0 → ⊥) → {before : List ℕ} {at x : ℕ} → start ≡ set before at x → x ≡ packed B.lift bit left p → begin ≡ at + 1
      → Grew before at limit (tree B bit left p) work (Some end)
  grows_end h some {before} {at} {x} a b c =
      grown g.fits
      (rw (tree_more B bit left p some)
      (wrote_then (wrote_one before at x (packed B.lift bit left p) b)
      (rw (a, c) at (all_done (each_end (λ k. and_then (step_to B bit p k) (tree B (not bit) (left - 1))) (width B bit) i h) g.going))))
