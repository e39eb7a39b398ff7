-- Two runs over the ways from a root, the second with the end of what the first found stamped beforehand: they show what the model
-- says of that root. And the roots of a round, one after the other. Assumes nothing.
use Rattle.std.specs.Prelude.{Option, None}
use Prim.Native.Nat.{ℕ, ◌+◌, ◌-◌, ◌*◌, ◌/◌, ◌≤◌, ◌<◌}
use mathlib.Core.Path.{◌≡◌, refl, sym, ap, ap₂, ◌∙◌}
use mathlib.Core.Bool.{Bool, true, false, cond}
use mathlib.Core.List.{List, [], ◌∷◌}
use Rattle.std.specs.Prelude.{Some}
use native.Mathlib.Omega.{arith}
use native.Mathlib.Numerals.{add-one}
use lib.IntN.{ℤ}
use lib.ListN.{length, set, length-set}
use Rattle.std.specs.Option.{is_some}
use Rattle.exponent.specs.declared.Shape.{Shape}
use Rattle.exponent.specs.Limits.{WellFormed}
use Rattle.walks.specs.declared.trail.Trail.{Trail}
use Rattle.walks.specs.Steps.{Blocks, blocks_of}
use Rattle.walks.specs.Ways.{Joint, Way, odd, roots, ways}
use Rattle.walks.specs.Meeting.{repeat, join, with_way, meeting, or_else, first_of}
use Rattle.walks.specs.Trail.{places, lay, trail, found, join_trail}
use Rattle.walks.specs.Stamps.{scan, Ran, Below}
use Rattle.walks.proofs.Each.{one_less, none_left}
use Rattle.walks.proofs.Loops.{found_none, found_some}
use Rattle.walks.proofs.Repeats.{some_mem}
use Rattle.walks.proofs.Roots.{way_of}
use Rattle.walks.proofs.Stamps.{marks_none, marks_one, scan_repeat, scan_below, below_set, below_more, join_lay}

-- a round has at most 512 roots
pub few_roots : {plan : List ℤ} {s : Shape} → WellFormed plan s.rows s.cols s.lift → (n : ℕ) → roots (blocks_of plan s) n ≤ 512
few_roots {plan} {s} h n = go (odd n)
  where
    go : (t : Bool) → cond t s.rows s.cols ≤ 512
    go true = omega (arith, h.few_rows)
    go false = h.few_cols

end_of : (b : ℕ) (l : List Joint) → (lay b l).end ≡ b
unfolding lay
end_of b [] = refl
end_of b (e ∷ l) = end_of b l

module _ (plan : List ℤ) (s : Shape) (some_lift : 0 < s.lift) (n k : ℕ) (root : k < roots (blocks_of plan s) n) where
  abbrev B : Blocks
  B = blocks_of plan s

  module _ (few : n ≤ places) {stamp : ℕ} {seen seen₁ : List ℕ} {r : (Option Trail)} (room : s.cols * s.lift ≤ length seen) (fresh : Below seen stamp) (one : Ran stamp (ways B n k) seen r seen₁) where
    first : (scan stamp (ways B n k) seen).hit ≡ repeat [] (ways B n k)
    first = scan_repeat stamp (ways B n k) seen [] (λ w m. omega (arith, (way_of plan s some_lift n k root w m).0)) (marks_none stamp seen fresh)

    -- the stamps that the first run leaves
    pub left_below : Below seen₁ (stamp + 1)
    left_below = rw one.left (scan_below stamp (ways B n k) seen (stamp + 1) (omega arith) (below_more (omega arith) fresh))

    pub meets_none : r ≡ None → None ≡ found (meeting B n k)
    unfolding meeting
    meets_none e = sym (ap (λ (x : Option Way). found (with_way x (λ w. with_way (repeat (w.end ∷ []) (ways B n k)) (λ v. Some (join B n k w v))))) (sym first ∙ found_none _ (sym e ∙ one.shown)))

    abbrev second : Way → Option Way
    second w = with_way (repeat (w.end ∷ []) (ways B n k)) (λ v. Some (join B n k w v))

    module _ {t : Trail} (met : r ≡ Some t) where
      -- the way that the first run found
      found_way : (w : Way) × (repeat [] (ways B n k) ≡ Some w) × (t ≡ trail w)
      found_way = let (w, e, h) = found_some (scan stamp (ways B n k) seen).hit t (sym met ∙ one.shown) in (w, sym first ∙ e, h)

      pub end_low : t.end < s.cols * s.lift
      end_low = let (w, e, h) = found_way in omega (arith, (way_of plan s some_lift n k root w (some_mem [] (ways B n k) w e)).0, ap (λ (x : Trail). x.end) h ∙ end_of w.end w.joints)

      module _ {seen₂ : List ℕ} {r₂ : (Option Trail)} (kept : length seen₁ ≡ length seen) (two : Ran (stamp + 1) (ways B n k) (set seen₁ t.end (stamp + 1)) r₂ seen₂) where
        again : (w : Way) → t ≡ trail w → (scan (stamp + 1) (ways B n k) (set seen₁ t.end (stamp + 1))).hit ≡ repeat (w.end ∷ []) (ways B n k)
        again w h =
            scan_repeat (stamp + 1) (ways B n k) (set seen₁ t.end (stamp + 1)) (t.end ∷ []) (λ v m. rw length-set (omega (arith, (way_of plan s some_lift n k root v m).0)))
            (marks_one (stamp + 1) seen₁ t.end (omega (arith, end_low)) left_below)
            ∙ ap (λ (b : ℕ). repeat (b ∷ []) (ways B n k)) (ap (λ (x : Trail). x.end) h ∙ end_of w.end w.joints)

        pub both_below : Below seen₂ (stamp + 2)
        both_below =
            rw two.left (scan_below (stamp + 1) (ways B n k) (set seen₁ t.end (stamp + 1)) (stamp + 2) (omega arith)
            (below_set seen₁ t.end (stamp + 1) (stamp + 2) (omega arith) (below_more (omega arith) left_below)))

        pub meets_lost : r₂ ≡ None → None ≡ found (meeting B n k)
        unfolding meeting
        meets_lost e =
            let (w, f, h) = found_way in
            sym (ap (λ (x : Option Way). found (with_way x second)) f
            ∙ ap (λ (x : Option Way). found (with_way x (λ v. Some (join B n k w v)))) (sym (again w h) ∙ found_none (scan (stamp + 1) (ways B n k) (set seen₁ t.end (stamp + 1))).hit (sym e ∙ two.shown)))

        pub meets_both : {u : Trail} → r₂ ≡ Some u → Some (join_trail (odd n) (n / 2) (k * s.lift + 0) t u) ≡ found (meeting B n k)
        unfolding meeting
        meets_both {u} e =
            let (w, f, h) = found_way in
            let (v, g, i) = found_some (scan (stamp + 1) (ways B n k) (set seen₁ t.end (stamp + 1))).hit u (sym e ∙ two.shown) in
            ap₂ (λ (x y : Trail). Some (join_trail (odd n) (n / 2) (k * s.lift + 0) x y)) h i
            ∙ ap Some (join_lay (odd n) (n / 2) (k * s.lift + 0) w.end v.end w.joints v.joints (way_of plan s some_lift n k root w (some_mem [] (ways B n k) w f)).1 (omega arith))
            ∙ sym (ap (λ (x : Option Way). found (with_way x second)) f
            ∙ ap (λ (x : Option Way). found (with_way x (λ v. Some (join B n k w v)))) (sym (again w h) ∙ g))

-- THE ROOTS of a round: what is left of them

module _ (f : ℕ → Option Way) (n : ℕ) where
  abbrev pub RootsLeft : ℕ → Type 0
  RootsLeft k = first_of f n 0 ≡ first_of f (n - k) k

  turn : (k : ℕ) → k < n → RootsLeft k → first_of f n 0 ≡ or_else (f k) (first_of f (n - (k + 1)) (k + 1))
  unfolding first_of
  turn k h e = e ∙ ap (λ (j : ℕ). first_of f j k) (one_less n k h) ∙ ap (λ (j : ℕ). or_else (f k) (first_of f (n - (k + 1)) j)) (sym (add-one k))

  pub roots_miss : {k : ℕ} → k < n → None ≡ found (f k) → RootsLeft k → RootsLeft (k + 1)
  roots_miss {k} h m e = turn k h e ∙ ap (λ (r : Option Way). or_else r (first_of f (n - (k + 1)) (k + 1))) (found_none (f k) m)

  pub roots_hit : {k : ℕ} {t : Trail} → k < n → Some t ≡ found (f k) → RootsLeft k → Some t ≡ found (first_of f n 0)
  roots_hit {k} {t} h m e =
      let (w, q, i) = found_some (f k) t m in ap Some i ∙ sym (ap found (turn k h e ∙ ap (λ (r : Option Way). or_else r (first_of f (n - (k + 1)) (k + 1))) q))

  -- the two by what root k has
  pub roots_found : {k : ℕ} (r : Option Trail) → k < n → r ≡ found (f k) → true ≡ is_some r → RootsLeft k → r ≡ found (first_of f n 0)
  roots_found None h m t e = absurd (let z : ⊥ = cc in z)
  roots_found (Some u) h m _ e = roots_hit h m e

  pub roots_vain : {k : ℕ} (r : Option Trail) → k < n → r ≡ found (f k) → false ≡ is_some r → RootsLeft k → RootsLeft (k + 1)
  roots_vain None h m _ e = roots_miss h m e
  roots_vain (Some u) h m t e = absurd (let z : ⊥ = cc in z)

  pub roots_end : {k : ℕ} → n ≤ k → RootsLeft k → None ≡ found (first_of f n 0)
  unfolding first_of
  roots_end {k} h e = sym (ap found (e ∙ ap (λ (j : ℕ). first_of f j k) (none_left n k h)))
