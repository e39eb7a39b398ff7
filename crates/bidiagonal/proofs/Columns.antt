-- The shifts of a column, one row at a time. Assumes nothing.
use Rattle.std.proofs.Common.{None, get_or, ◌≡◌, ℕ, ◌+◌, ◌-◌, ◌<◌, ◌≤◌, List, [], ◌∷◌, ◌++◌, length, refl, ap, ◌∙◌, arith, append-nil, length-append, length-take, take, ◌≢◌}
use Rattle.graph.specs.Count.{range, below}
use Rattle.graph.proofs.Count.{range_append, below_last}
use Rattle.exponent.specs.declared.block.Block.{Block}
use Rattle.exponent.specs.declared.block.Block.TheVariants.{Zero, Shift, Invalid}
use Rattle.bidiagonal.specs.Shape.{add_shift, shifts_of, third, third_of}

-- a block that is not filled has none
none_added : (b : Block) → ((e : ℕ) → b ≡ Shift e → ⊥) → add_shift b [] ≡ []
none_added Zero n = refl
none_added (Shift e) n = absurd (n e refl)
none_added Invalid n = refl

module _ (block : ℕ → Block) where
  added : (b : Block) (p q : List ℕ) → add_shift b (p ++ q) ≡ add_shift b p ++ q
  added Zero p q = refl
  added (Shift e) p q = refl
  added Invalid p q = refl

  shifts_append : (p q : List ℕ) → shifts_of block (p ++ q) ≡ shifts_of block p ++ shifts_of block q
  unfolding shifts_of
  shifts_append [] q = refl
  shifts_append (i ∷ p) q = ap (add_shift (block i)) (shifts_append p q) ∙ added (block i) (shifts_of block p) (shifts_of block q)

  -- a row more: its shift, or none
  shifts_more : (i : ℕ) → shifts_of block (below (i + 1)) ≡ shifts_of block (below i) ++ add_shift (block i) []
  unfolding shifts_of
  shifts_more i = ap (shifts_of block) (below_last i) ∙ shifts_append (below i) (i ∷ [])

  pub shift_more : (i e : ℕ) → block i ≡ Shift e → shifts_of block (below (i + 1)) ≡ shifts_of block (below i) ++ e ∷ []
  shift_more i e q = shifts_more i ∙ rw q

  pub shift_none : (i : ℕ) → ((e : ℕ) → block i ≡ Shift e → ⊥) → shifts_of block (below (i + 1)) ≡ shifts_of block (below i)
  shift_none i n = shifts_more i ∙ ap (λ (l : List ℕ). shifts_of block (below i) ++ l) (none_added (block i) n) ∙ append-nil _

  -- more rows have no fewer
  shifts_grow : (i n : ℕ) → i ≤ n → length (shifts_of block (below i)) ≤ length (shifts_of block (below n))
  shifts_grow i n h =
      omega (
        arith,
        ap (λ (k : ℕ). length (shifts_of block (below k))) (let e : n ≡ i + (n - i) = omega arith in e),
        ap (λ (l : List ℕ). length (shifts_of block l)) (range_append 0 i (n - i)),
        ap length (shifts_append (below i) (range (0 + i) (n - i))),
        length-append (shifts_of block (below i)) (shifts_of block (range (0 + i) (n - i))),
      )

  -- three shifts, and then one more
  pub four_shifts : (i n k e : ℕ) (three : List ℕ) → i < n → block i ≡ Shift e → take k three ≡ shifts_of block (below i) → k ≡ 3 → length three ≡ 3 → length (shifts_of block (below n)) ≢ 3
  four_shifts i n k e three h q held full whole all =
      omega (
        arith,
        ap length held,
        length-take k three,
        ap length (shift_more i e q),
        length-append (shifts_of block (below i)) (e ∷ []),
        shifts_grow (i + 1) n (omega arith),
      )

-- three shifts, or another number of them
pub third_three : (l : List ℕ) → length l ≡ 3 → third l ≡ third_of (get_or l 0 0) (get_or l 1 0) (get_or l 2 0)
third_three [] h = absurd (omega arith)
third_three (a ∷ []) h = absurd (omega arith)
third_three (a ∷ b ∷ []) h = absurd (omega arith)
third_three (a ∷ b ∷ c ∷ []) h = refl
third_three (a ∷ b ∷ c ∷ d ∷ l) h = absurd (omega arith)

pub third_none : (l : List ℕ) → (length l ≡ 3 → ⊥) → third l ≡ None
third_none [] h = refl
third_none (a ∷ []) h = refl
third_none (a ∷ b ∷ []) h = refl
third_none (a ∷ b ∷ c ∷ []) h = absurd (h refl)
third_none (a ∷ b ∷ c ∷ d ∷ l) h = refl
