-- Laws of the two index lists: the next number that passes a test, and lists that have it at every place. Assumes nothing.
use Prim.Native.Nat.{ℕ, ◌+◌, ◌*◌, ◌≤◌, ◌<◌}
use mathlib.Core.Path.{◌≡◌, sym, subst, ◌∙◌}
use mathlib.Core.Bool.{Bool, true, false}
use mathlib.Core.List.{List}
use native.Mathlib.Omega.{arith}
use borrow.Author.Tests.{eq-eqb, ne_eqb}
use lib.IntN.{ℤ}
use lib.ListN.{length, get_or, replicate, length-replicate}
use Rattle.graph.proofs.Decide.{by_eq}
use Rattle.exponent.specs.declared.Shape.{Shape}
use Rattle.exponent.specs.Limits.{WellFormed}
use Rattle.exponent.proofs.Numbers.{place_small}
use Rattle.index.specs.Index.{NextFrom, filled_at, named, DownNext, AlongNext, IndexedFrom, DownIndex, AlongIndex}

-- an index list as it is made, and after a call that kept its length: by a law, since counting its places would take long
pub index_made : ◌≡◌ {A = ℕ} 98304 (length (replicate {A = ℕ} 98304 0))
index_made = sym (length-replicate {A = ℕ} 98304 0)

pub index_kept : {n : ℕ} → n ≡ length (replicate {A = ℕ} 98304 0) → 98304 ≡ n
index_kept e = sym (e ∙ length-replicate {A = ℕ} 98304 0)

-- what `build_along` and `build` ask of arrays as they are made
pub to_build_along : {plan : List ℤ} {rows cols lift : ℕ} → WellFormed plan rows cols lift
    → WellFormed plan rows cols lift × (rows * cols ≤ length (replicate {A = ℕ} 98304 0))
to_build_along {rows = rows} {cols = cols} w =
    (w, subst (λ (n : ℕ). rows * cols ≤ n) index_made (place_small rows cols w.few_rows w.few_cols))

pub to_build : {plan : List ℤ} {rows cols lift : ℕ} → WellFormed plan rows cols lift
    → WellFormed plan rows cols lift × (rows * cols ≤ length (replicate {A = ℕ} 98304 0)) × (rows * cols ≤ length (replicate {A = ℕ} 98304 0))
to_build w = let one = to_build_along w in (w, one.1, one.1)

-- THE NEXT NUMBER that passes a test
module _ (test : ℕ → Bool) (limit : ℕ) where
  pub next_end : NextFrom test limit limit limit
  next_end = record { from_here = omega arith; inside = omega arith; none_between = λ k p q. absurd (omega arith); passes = λ h. absurd (omega arith) }

  -- one step back: the number itself where it passes, else the next one
  pub next_here : (i : ℕ) → i < limit → test i ≡ true → NextFrom test i limit i
  next_here i h e = record { from_here = omega arith; inside = omega arith; none_between = λ k p q. absurd (omega arith); passes = λ _. e }

  pub next_on : (i next m : ℕ) → i + 1 ≡ next → test i ≡ false → NextFrom test next limit m → NextFrom test i limit m
  next_on i next m a e n =
      record {
        from_here = omega (arith, n.from_here);
        inside = n.inside;
        none_between = λ k p q. by_eq i k (λ s. subst (λ (x : ℕ). test x ≡ false) s e) (λ d. n.none_between k (omega arith) q);
        passes = n.passes;
      }

-- the same next number by a test that agrees below the limit
next_same : (t u : ℕ → Bool) (limit : ℕ) → ((k : ℕ) → k < limit → t k ≡ u k) → {i m : ℕ} → NextFrom t i limit m → NextFrom u i limit m
next_same t u limit same n =
    record {
      from_here = n.from_here;
      inside = n.inside;
      none_between = λ k p q. sym (same k (omega (arith, n.inside))) ∙ n.none_between k p q;
      passes = λ h. sym (same _ h) ∙ n.passes h;
    }

-- THE INDEXES: of lists that are done, with room for them
module _ (plan : List ℤ) (s : Shape) (along : List ℕ) where
  pub along_index : s.rows * s.cols ≤ length along → IndexedFrom (AlongNext (filled_at plan s) s) s along 0 → AlongIndex plan s along
  unfolding IndexedFrom
  along_index whole all = record { whole = whole; next = λ i j p q. all i j p q (omega arith) }

  -- the places that the index along the rows names are the filled ones
  named_filled : AlongIndex plan s along → (i j : ℕ) → i < s.rows → j < s.cols → named along s i j ≡ filled_at plan s i j
  named_filled index i j p q =
      let m = get_or along (i * s.cols + j) 0 in
      let n = index.next i j p q in
      by_eq m j
      (λ e. eq-eqb m j e ∙ sym (subst (λ (x : ℕ). filled_at plan s i x ≡ true) e (n.passes (omega arith))))
      (λ d. ne_eqb m j d ∙ sym (n.none_between j (omega arith) (omega (arith, n.from_here))))

  pub down_index : AlongIndex plan s along → (down : List ℕ) → s.rows * s.cols ≤ length down → IndexedFrom (DownNext (named along s) s) s down 0 → DownIndex plan s down
  unfolding IndexedFrom
  down_index index down whole all =
      record {
        whole = whole;
        next = λ i j p q. next_same (λ k. named along s k j) (λ k. filled_at plan s k j) s.rows (λ k h. named_filled index k j h q) (all i j p q (omega arith));
      }
