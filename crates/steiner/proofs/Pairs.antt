-- One test over the whole list, computed, and what it says of each point, each triple and each pair. Assumes nothing.
use Prim.Native.Nat.{ℕ, ◌-◌, ◌/◌, ◌<◌}
use mathlib.Core.Path.{◌≡◌, refl, sym, ap, ◌∙◌}
use mathlib.Core.Logic.{◌≢◌, inl, inr}
use mathlib.Core.Bool.{Bool, true, ◌&&◌, ◌||◌}
use mathlib.Core.List.{[], ◌∷◌}
use native.Mathlib.Omega.{arith}
use lib.Dec.{ltb, eqb}
use borrow.Author.Tests.{ltb-true, eqb-true, ne_eqb}
use Rattle.graph.specs.Count.{range, below, count, Mem}
use Rattle.graph.proofs.Decide.{by_eq, and_left, and_right, and_both}
use Rattle.graph.proofs.Count.{range_mem, nodup_range, crowd}
use Rattle.graph.proofs.Cases.{all, all_at}
use Rattle.steiner.specs.Points.{points}
use Rattle.steiner.specs.System.{is_order, cols, start_among, start, triple_at, has}
use Rattle.steiner.specs.Listed.{Rises, PairsOnce}
use Rattle.steiner.proofs.Orders.{by_order}

-- THE TEST of an order: its triples rise and have three points, its points lie in (v − 1)/2 triples, and two points in one triple
abbrev together : ℕ → ℕ → ℕ → ℕ → Bool
together v x y j = has (triple_at v j) x && has (triple_at v j) y

rises : ℕ → ℕ → Bool
rises v j = ltb (triple_at v j).a (triple_at v j).b && (ltb (triple_at v j).b (triple_at v j).c && ltb (triple_at v j).c v)

three : ℕ → ℕ → Bool
three v j = eqb (count (has (triple_at v j)) (below v)) 3

half : ℕ → ℕ → Bool
half v i = eqb (count (λ j. has (triple_at v j) i) (below (cols v))) ((v - 1) / 2)

once : ℕ → ℕ → ℕ → Bool
once v x y = eqb x y || eqb (count (together v x y) (below (cols v))) 1

triples_pass : ℕ → Bool
triples_pass v = all (cols v) (λ j. rises v j && three v j)

points_pass : ℕ → Bool
points_pass v = all v (λ x. half v x && all v (once v x))

computed : (v : ℕ) → is_order v ≡ true → (triples_pass v && points_pass v) ≡ true
unfolding points cols start_among start triple_at triples_pass points_pass rises three half once range count
computed = by_order (λ (v : ℕ). (triples_pass v && points_pass v) ≡ true) refl refl refl refl refl

-- CARRIED to each triple, each point and each pair
module _ (v : ℕ) (known : is_order v ≡ true) where
  of_triple : (j : ℕ) → j < cols v → (rises v j && three v j) ≡ true
  unfolding triples_pass
  of_triple = all_at (cols v) (λ j. rises v j && three v j) (and_left (triples_pass v) (points_pass v) (computed v known))

  of_point : (x : ℕ) → x < v → (half v x && all v (once v x)) ≡ true
  unfolding points_pass
  of_point = all_at v (λ x. half v x && all v (once v x)) (and_right (triples_pass v) (points_pass v) (computed v known))

  pub triple_rises : (j : ℕ) → j < cols v → Rises v (triple_at v j)
  unfolding rises
  triple_rises j h =
      let t = triple_at v j in
      let e = and_left (rises v j) (three v j) (of_triple j h) in
      let f = and_right (ltb t.a t.b) (ltb t.b t.c && ltb t.c v) e in
      record {
        first = ltb-true _ _ (and_left (ltb t.a t.b) _ e);
        second = ltb-true _ _ (and_left (ltb t.b t.c) _ f);
        third = ltb-true _ _ (and_right (ltb t.b t.c) _ f);
      }

  pub three_points : (j : ℕ) → j < cols v → count (has (triple_at v j)) (below v) ≡ 3
  unfolding three
  three_points j h = eqb-true _ _ (and_right (rises v j) (three v j) (of_triple j h))

  pub half_triples : (i : ℕ) → i < v → count (λ j. has (triple_at v j) i) (below (cols v)) ≡ (v - 1) / 2
  unfolding half
  half_triples i h = eqb-true _ _ (and_left (half v i) (all v (once v i)) (of_point i h))

  pub pair_once : (x y : ℕ) → x < v → y < v → x ≢ y → count (λ j. has (triple_at v j) x && has (triple_at v j) y) (below (cols v)) ≡ 1
  unfolding once
  pair_once x y h k d =
      let e = all_at v (once v x) (and_right (half v x) (all v (once v x)) (of_point x h)) y k in
      eqb-true _ _ (ap (λ (b : Bool). b || eqb (count (together v x y) (below (cols v))) 1) (sym (ne_eqb x y d)) ∙ e)

  -- two triples that share two points are one
  pub share_one : (x y j l : ℕ) → x < v → y < v → x ≢ y → j < cols v → l < cols v
      → has (triple_at v j) x ≡ true → has (triple_at v j) y ≡ true → has (triple_at v l) x ≡ true → has (triple_at v l) y ≡ true → j ≡ l
  share_one x y j l hx hy d hj hl jx jy lx ly =
      by_eq j l (λ e. e)
      (λ n. absurd (omega (arith, pair_once x y hx hy d, crowd (j ∷ l ∷ []) (together v x y) (below (cols v)) (nodup_range 0 (cols v)) (differ n, (none, tt)) members)))
    where
      none : Mem l [] → ⊥
      none m = m

      differ : (j ≡ l → ⊥) → Mem j (l ∷ []) → ⊥
      differ n (inl e) = n e
      differ n (inr m) = m

      members : (z : ℕ) → Mem z (j ∷ l ∷ []) → Mem z (below (cols v)) × (together v x y z ≡ true)
      members z (inl e) = rw e (range_mem j 0 (cols v) (omega arith) (omega arith), and_both (has (triple_at v j) x) _ jx jy)
      members z (inr (inl e)) = rw e (range_mem l 0 (cols v) (omega arith) (omega arith), and_both (has (triple_at v l) x) _ lx ly)
      members z (inr (inr m)) = absurd m

-- THE THEOREM
pub pairs_once : PairsOnce
unfolding PairsOnce
pairs_once v x y known = pair_once v known x y
