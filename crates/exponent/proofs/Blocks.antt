-- A test that picks at most one number of each block: what it selects, block by block. Bits of a check and checks of a bit are
-- both of this kind. Assumes nothing.
use Prim.Native.Nat.{ℕ, zero, suc, ◌+◌, ◌-◌, ◌*◌, ◌≤◌, ◌<◌}
use mathlib.Core.Path.{◌≡◌, refl, sym, ap, ap₂, ◌∙◌}
use mathlib.Core.Bool.{Bool, false}
use mathlib.Core.List.{List, [], ◌∷◌, ◌++◌, append-nil}
use Rattle.std.specs.Prelude.{Option, None, Some}
use native.Mathlib.Omega.{arith}
use native.Mathlib.Nat.{suc-mul, zero-mul}
use borrow.Author.Tests.{ne_eqb}
use lib.Dec.{eqb, eqb-suc-suc}
use lib.ListN.{length}
use Rattle.graph.specs.Count.{range, below, select, one, count, is_some}
use Rattle.graph.proofs.Count.{range_append, select_append, below_last}
use Rattle.exponent.specs.Neighbours.{put, gather}

abbrev pub hit : Option ℕ → ℕ → Bool
hit None z = false
hit (Some x) z = eqb x z

pub length_gather : (lift : ℕ) (pick : ℕ → Option ℕ) (l : List ℕ) → length (gather lift pick l) ≡ count (λ j. is_some (pick j)) l
unfolding gather count
length_gather lift pick [] = refl
length_gather lift pick (j ∷ l) = step (pick j) (length_gather lift pick l)
  where
    step : (o : Option ℕ) → length (gather lift pick l) ≡ count (λ j. is_some (pick j)) l
        → length (put o (j * lift) (gather lift pick l)) ≡ one (is_some o) + count (λ j. is_some (pick j)) l
    step None e = omega arith
    step (Some x) e = omega arith

module _ (f : ℕ → Bool) where
  -- one block
  select_none : (s n : ℕ) → ((z : ℕ) → z < n → f (s + z) ≡ false) → select f (range s n) ≡ []
  unfolding select range
  select_none s zero h = refl
  select_none s (suc n) h = rw (here) (select_none (suc s) n (λ z k. ap f (let r : suc s + z ≡ s + suc z = omega arith in r) ∙ h (suc z) (omega arith)))
    where
      here : f s ≡ false
      here = ap f (let r : s ≡ s + 0 = omega arith in r) ∙ h 0 (omega arith)

  select_one : (s n x : ℕ) → x < n → ((z : ℕ) → z < n → f (s + z) ≡ eqb x z) → select f (range s n) ≡ (s + x) ∷ []
  unfolding select range
  select_one s zero x k h = absurd (omega arith)
  select_one s (suc n) zero k h =
      rw (ap f (let r : s ≡ s + 0 = omega arith in r) ∙ h 0 (omega arith))
      (ap₂ (λ (y : ℕ) (l : List ℕ). y ∷ l) (let r : s ≡ s + 0 = omega arith in r)
      (select_none (suc s) n (λ z i. ap f (let r : suc s + z ≡ s + suc z = omega arith in r) ∙ h (suc z) (omega arith) ∙ ne_eqb 0 (suc z) (λ e. omega arith))))
  select_one s (suc n) (suc x) k h =
      rw (ap f (let r : s ≡ s + 0 = omega arith in r) ∙ h 0 (omega arith) ∙ ne_eqb (suc x) 0 (λ e. omega arith))
      (select_one (suc s) n x (omega arith) (λ z i. ap f (let r : suc s + z ≡ s + suc z = omega arith in r) ∙ h (suc z) (omega arith) ∙ eqb-suc-suc x z)
      ∙ ap (λ (y : ℕ). y ∷ []) (let r : suc s + x ≡ s + suc x = omega arith in r))

  module _ (lift : ℕ) (pick : ℕ → Option ℕ) where
    -- the test picks in block j what `pick` says, and no more
    pub record Picks (j : ℕ) : Type 0 where
      pub low : (x : ℕ) → pick j ≡ Some x → x < lift
      pub tests : (z : ℕ) → z < lift → f (j * lift + z) ≡ hit (pick j) z

    select_block : (j : ℕ) → Picks j → select f (range (j * lift) lift) ≡ put (pick j) (j * lift) []
    select_block j p = step (pick j) refl
      where
        step : (o : Option ℕ) → pick j ≡ o → select f (range (j * lift) lift) ≡ put o (j * lift) []
        step None e = select_none (j * lift) lift (λ z h. p.tests z h ∙ ap (λ (o : Option ℕ). hit o z) e)
        step (Some x) e = select_one (j * lift) lift x (p.low x e) (λ z h. p.tests z h ∙ ap (λ (o : Option ℕ). hit o z) e)

    put_append : (o : Option ℕ) (base : ℕ) (l : List ℕ) → put o base [] ++ l ≡ put o base l
    put_append None base l = refl
    put_append (Some x) base l = refl

    select_blocks : (s n : ℕ) → ((j : ℕ) → s ≤ j → j < s + n → Picks j) → select f (range (s * lift) (n * lift)) ≡ gather lift pick (range s n)
    unfolding gather range select
    select_blocks s zero p = ap (λ (k : ℕ). select f (range (s * lift) k)) (zero-mul lift)
    select_blocks s (suc n) p =
        ap (λ (k : ℕ). select f (range (s * lift) k)) (let r : suc n * lift ≡ lift + n * lift = omega (arith, suc-mul n lift) in r)
        ∙ ap (select f) (range_append (s * lift) lift (n * lift))
        ∙ select_append f (range (s * lift) lift) (range (s * lift + lift) (n * lift))
        ∙ ap₂ (λ (a b : List ℕ). a ++ b) (select_block s (p s (omega arith) (omega arith)))
        (ap (λ (k : ℕ). select f (range k (n * lift))) (let r : s * lift + lift ≡ suc s * lift = omega (arith, suc-mul s lift) in r)
        ∙ select_blocks (suc s) n (λ j h k. p j (omega arith) (omega arith)))
        ∙ put_append (pick s) (s * lift) (gather lift pick (range (suc s) n))

    -- THE LAW: what the test selects among the numbers of n blocks
    pub select_gather : (n : ℕ) → ((j : ℕ) → j < n → Picks j) → select f (below (n * lift)) ≡ gather lift pick (below n)
    select_gather n p =
        ap (λ (k : ℕ). select f (range k (n * lift))) (sym (zero-mul lift)) ∙ select_blocks 0 n (λ j h k. p j (omega arith))

-- What more blocks add

module _ (lift : ℕ) (pick : ℕ → Option ℕ) where
  pub gather_append : (p q : List ℕ) → gather lift pick (p ++ q) ≡ gather lift pick p ++ gather lift pick q
  unfolding gather
  gather_append [] q = refl
  gather_append (j ∷ p) q = step (pick j) (gather_append p q)
    where
      step : (o : Option ℕ) → gather lift pick (p ++ q) ≡ gather lift pick p ++ gather lift pick q
          → put o (j * lift) (gather lift pick (p ++ q)) ≡ put o (j * lift) (gather lift pick p) ++ gather lift pick q
      step None e = e
      step (Some x) e = ap (λ (l : List ℕ). (j * lift + x) ∷ l) e

  pub gather_last : (n : ℕ) → gather lift pick (below (n + 1)) ≡ gather lift pick (below n) ++ gather lift pick (n ∷ [])
  gather_last n = ap (gather lift pick) (below_last n) ∙ gather_append (below n) (n ∷ [])

  gather_none : (s n : ℕ) → ((j : ℕ) → s ≤ j → j < s + n → pick j ≡ None) → gather lift pick (range s n) ≡ []
  unfolding gather range
  gather_none s zero h = refl
  gather_none s (suc n) h = rw (h s (omega arith) (omega arith)) (gather_none (suc s) n (λ j p q. h j (omega arith) (omega arith)))

  -- blocks that have no number add nothing
  pub gather_skip : (m n : ℕ) → m ≤ n → ((j : ℕ) → m ≤ j → j < n → pick j ≡ None) → gather lift pick (below n) ≡ gather lift pick (below m)
  gather_skip m n h none_of =
      ap (λ (k : ℕ). gather lift pick (below k)) (let e : n ≡ m + (n - m) = omega arith in e)
      ∙ ap (gather lift pick) (range_append 0 m (n - m))
      ∙ gather_append (below m) (range (0 + m) (n - m))
      ∙ ap (λ (l : List ℕ). gather lift pick (below m) ++ l) (gather_none (0 + m) (n - m) (λ j p q. none_of j (omega arith) (omega arith)))
      ∙ append-nil (gather lift pick (below m))
