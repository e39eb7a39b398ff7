-- Runs of a word added to others, and columns by two runs. Assumes nothing.
use Prim.Native.Nat.{ℕ, suc, ◌+◌, ◌-◌, ◌*◌, ◌%◌, ◌≤◌, ◌<◌}
use mathlib.Core.Path.{◌≡◌, refl, sym, ap, ap₂, subst, ◌∙◌}
use mathlib.Core.Logic.{◌⊎◌, inl, inr, ◌≢◌}
use mathlib.Core.List.{List}
use native.Mathlib.Omega.{arith}
use native.Mathlib.Nat.{mod-eq_of_lt, add-mod_right, suc-mul, mul-le-mul_right}
use lib.ListN.{get_or, set, length-set}
use lib.Seq.{get_or-set_same, get_or-set_other}
use Rattle.graph.proofs.Decide.{by_eq, by_le}
use Rattle.encoding.specs.Work.{column, Bits, Apart, AddedRun, Columns, Added}

-- ONE RUN. A byte that is read lies apart from those that are written
apart_from : (to from n k : ℕ) → (to + n ≤ from) ⊎ (from + n ≤ to) → k < n → to ≤ from + k → from + k < to + k → ⊥
apart_from to from n k (inl h) l p q = omega arith
apart_from to from n k (inr h) l p q = omega arith

pub run_none : (to from : ℕ) (w : List ℕ) → AddedRun to from 0 w w
run_none to from w = record { long = refl; there = λ k h. absurd (omega arith); elsewhere = λ b h. refl }

pub run_bits : {to from n : ℕ} {w v : List ℕ} → AddedRun to from n w v → Bits w → Bits v
run_bits {to} {from} {n} {w} {v} r bits = record { low = low }
  where
    there : (b : ℕ) → to ≤ b → b < to + n → get_or v b 0 < 2
    there b p q = subst (λ (x : ℕ). get_or v x 0 < 2) (let e : to + (b - to) ≡ b = omega arith in e) (omega (arith, r.there (b - to) (omega arith)))

    low : (b : ℕ) → get_or v b 0 < 2
    low b =
        by_le to b
        (λ p. by_le (to + n) b (λ q. omega (arith, r.elsewhere b (λ i j. omega arith), bits.low b)) (there b p))
        (λ p. omega (arith, r.elsewhere b (λ i j. omega arith), bits.low b))

-- one byte more
pub run_more : (to from n k : ℕ) (w v : List ℕ) → Apart w to from n → k < n → AddedRun to from k w v
    → AddedRun to from (k + 1) w (set v (to + k) ((get_or v (to + k) 0 + get_or v (from + k) 0) % 2))
run_more to from n k w v a h r =
    record {
      long = length-set v (to + k) x ∙ r.long;
      there = there;
      elsewhere = λ b out. get_or-set_other v (to + k) b x 0 (λ e. out (omega arith) (omega arith)) ∙ r.elsewhere b (λ p q. out p (omega arith));
    }
  where
    x : ℕ
    x = (get_or v (to + k) 0 + get_or v (from + k) 0) % 2

    here : x ≡ (get_or w (to + k) 0 + get_or w (from + k) 0) % 2
    here = ap₂ (λ (p q : ℕ). (p + q) % 2) (r.elsewhere (to + k) (λ p q. omega arith)) (r.elsewhere (from + k) (apart_from to from n k a.apart h))

    there : (i : ℕ) → i < k + 1 → get_or (set v (to + k) x) (to + i) 0 ≡ (get_or w (to + i) 0 + get_or w (from + i) 0) % 2
    there i l =
        by_eq i k
        (λ e. rw e (get_or-set_same v (to + k) x 0 (omega (arith, a.to_in, r.long)) ∙ here))
        (λ d. get_or-set_other v (to + k) (to + i) x 0 (λ e. d (omega arith)) ∙ r.there i (by_le k i (λ p. absurd (d (omega arith))) (λ p. p)))

-- TWO COLUMNS lie apart
pub columns_apart : (lift i j : ℕ) → i ≢ j → (i * lift + lift ≤ j * lift) ⊎ (j * lift + lift ≤ i * lift)
columns_apart lift i j d =
    by_le (suc i) j
    (λ h. inl (omega (arith, suc-mul i lift, mul-le-mul_right lift h)))
    (λ h. inr (let l : suc j ≤ i = by_le (suc j) i (λ p. p) (λ p. absurd (d (omega arith))) in omega (arith, suc-mul j lift, mul-le-mul_right lift l)))

-- and so do the parts that the two runs take
pub first_apart : (p q lift e : ℕ) → (p + lift ≤ q) ⊎ (q + lift ≤ p) → e < lift → (p + (lift - e) ≤ q + e) ⊎ (q + e + (lift - e) ≤ p)
first_apart p q lift e (inl h) l = inl (omega arith)
first_apart p q lift e (inr h) l = inr (omega arith)

pub second_apart : (p q lift e : ℕ) → (p + lift ≤ q) ⊎ (q + lift ≤ p) → e < lift → (p + (lift - e) + e ≤ q) ⊎ (q + e ≤ p + (lift - e))
second_apart p q lift e (inl h) l = inl (omega arith)
second_apart p q lift e (inr h) l = inr (omega arith)

-- a place of one column is in no part of another
outside : (p q lift d n z : ℕ) → (p + lift ≤ q) ⊎ (q + lift ≤ p) → d + n ≤ lift → z < lift → p + d ≤ q + z → q + z < p + d + n → ⊥
outside p q lift d n z (inl h) k l a b = omega arith
outside p q lift d n z (inr h) k l a b = omega arith

module _ (lift to from e : ℕ) (w u v : List ℕ) (c : Columns lift w to from) (low : e < lift)
    (one : AddedRun (to * lift) (from * lift + e) (lift - e) w u) (two : AddedRun (to * lift + (lift - e)) (from * lift) e u v) where
  -- bit z takes bit z + e up to the end of the column,
  first_part : (z : ℕ) → z < lift - e → column lift v to z ≡ (column lift w to z + column lift w from ((z + e) % lift)) % 2
  first_part z h =
      two.elsewhere (to * lift + z) (λ p q. omega arith)
      ∙ one.there z h
      ∙ ap (λ (x : ℕ). (get_or w (to * lift + z) 0 + get_or w x 0) % 2) (let r = mod-eq_of_lt (let l : z + e < lift = omega arith in l) in omega (arith, r))

  -- and then the bits from its start on
  second_part : (z : ℕ) → lift - e ≤ z → z < lift → column lift v to z ≡ (column lift w to z + column lift w from ((z + e) % lift)) % 2
  second_part z h l =
      let k : ℕ = z - (lift - e) in
      let at : to * lift + (lift - e) + k ≡ to * lift + z = omega arith in
      let wrapped : (z + e) % lift ≡ k = ap (λ (x : ℕ). x % lift) (let q : z + e ≡ k + lift = omega arith in q) ∙ add-mod_right k lift ∙ mod-eq_of_lt (let q : k < lift = omega arith in q) in
      let there : get_or v (to * lift + z) 0 ≡ (get_or u (to * lift + z) 0 + get_or u (from * lift + k) 0) % 2 = rw at at (two.there k (omega arith)) in
      there
      ∙ ap₂ (λ (x y : ℕ). (x + y) % 2) (one.elsewhere (to * lift + z) (λ p q. omega arith))
      (one.elsewhere (from * lift + k) (λ p q. column_outside k (omega arith) p q) ∙ ap (λ (x : ℕ). column lift w from x) (sym wrapped))
    where
      column_outside : (k : ℕ) → k < lift → to * lift ≤ from * lift + k → from * lift + k < to * lift + (lift - e) → ⊥
      column_outside k h p q = outside (to * lift) (from * lift) lift 0 (lift - e) k (columns_apart lift to from c.other) (omega arith) h (omega arith) (omega arith)

  other_part : (j z : ℕ) → z < lift → j ≢ to → column lift v j z ≡ column lift w j z
  other_part j z h d =
      let apart = columns_apart lift to j (λ q. d (sym q)) in
      two.elsewhere (j * lift + z) (outside (to * lift) (j * lift) lift (lift - e) e z apart (omega arith) h)
      ∙ one.elsewhere (j * lift + z) (λ p q. outside (to * lift) (j * lift) lift 0 (lift - e) z apart (omega arith) h (omega arith) (omega arith))

  -- COLUMN `from`, turned by e, is added to column `to`
  pub column_added : Added lift to (λ z. column lift w from ((z + e) % lift)) w v
  column_added =
      record {
        long = two.long ∙ one.long;
        there = λ z h. by_le (lift - e) z (λ l. second_part z l h) (first_part z);
        elsewhere = other_part;
      }
