-- Laws of a word's bytes: which of them are refused, which are erasures. Assumes nothing.
use Prim.Native.Nat.{ℕ, zero, suc, ◌+◌, ◌≤◌, ◌<◌}
use mathlib.Core.Path.{◌≡◌, refl, sym, ap, ◌∙◌}
use mathlib.Core.Logic.{◌↔◌}
use mathlib.Core.Bool.{Bool, true, false, cond}
use Rattle.std.specs.Prelude.{count_by, ◌==◌}
use Rattle.std.proofs.lemmas.List.Recursion.{is_count_by}
use mathlib.Core.List.{List, ◌++◌}
use native.Mathlib.Omega.{arith}
use lib.Seq.{take-add, take_all}
use borrow.Author.Tests.{lt-ltb, le-ltb, ne_eqb}
use lib.Dec.{eqb}
use lib.ListN.{length, take, drop}
use Rattle.std.specs.Prelude.{sum_by, ◌*◌, ◌-◌}
use Rattle.std.specs.Simd.{first_chunks}
use Rattle.std.proofs.lemmas.List.Sums.{sum_by-cons}
use Rattle.std.proofs.Common.{length-drop}
use Rattle.std.proofs.lemmas.List.{take-append-drop, drop-drop}
use Rattle.graph.specs.Count.{one, count}
use Rattle.graph.specs.Filling.{erasures}
use Rattle.graph.proofs.Count.{count_append, count_le}
use Rattle.graph.proofs.Decide.{both_ways, by_le}
use Rattle.syndrome.specs.declared.byte.Symbol.TheVariants.{Known, Erased, Other}
use Rattle.syndrome.specs.Word.{symbol_of, is_kind, is_erasure, is_other}

module _ (x : ℕ) where
  pub symbol_known : x < 2 → symbol_of x ≡ Known
  symbol_known h = rw (lt-ltb x 2 h)

  pub symbol_erased : x ≡ 2 → symbol_of x ≡ Erased
  symbol_erased e = ap symbol_of e

  pub symbol_other : 2 < x → symbol_of x ≡ Other
  symbol_other h = rw (le-ltb x 2 (omega arith), ne_eqb x 2 (λ e. omega arith))

  -- 0, 1 and 2 are not refused, and no others
  pub not_other : (is_other x ≡ false) ↔ (x ≤ 2)
  not_other = (
    λ e. by_le x 2 (λ h. h) (λ h. both_ways (ap (is_kind Other) (symbol_other h)) e),
    λ h.
        by_le 2 x
        (λ k. ap (is_kind Other) (symbol_erased (let e : x ≡ 2 = omega arith in e)))
        (λ k. ap (is_kind Other) (symbol_known k)),
  )

  -- of these, 0 and 1 are no erasures
  pub not_erasure : x ≤ 2 → (is_erasure x ≡ false) ↔ (x < 2)
  not_erasure h = (
    λ e. by_le 2 x (λ k. both_ways (ap (is_kind Erased) (symbol_erased (let q : x ≡ 2 = omega arith in q))) e) (λ k. k),
    λ k. ap (is_kind Erased) (symbol_known k),
  )

  -- in words: above 2, and equal to 2
  pub other_exactly : (is_other x ≡ true) ↔ (2 < x)
  other_exactly = (
    λ e. by_le x 2 (λ h. both_ways e (not_other.1 h)) (λ h. h),
    λ h. ap (is_kind Other) (symbol_other h),
  )

  pub erasure_exactly : (is_erasure x ≡ true) ↔ (x ≡ 2)
  erasure_exactly = (
    λ e. by_le x 2
        (λ h. by_le 2 x (λ k. omega arith) (λ k. both_ways e (ap (is_kind Erased) (symbol_known k))))
        (λ h. both_ways e (ap (is_kind Erased) (symbol_other h))),
    λ e. ap (is_kind Erased) (symbol_erased e),
  )

pub erasures_append : (p q : List ℕ) → erasures (p ++ q) ≡ erasures p + erasures q
unfolding erasures
erasures_append p q = count_append (λ x. eqb x 2) p q

-- the erasures of a word's first i + j bytes are those of the first i and those of the j after them
pub erasures_add : (i j : ℕ) (word : List ℕ) → erasures (take (i + j) word) ≡ erasures (take i word) + erasures (take j (drop i word))
erasures_add i j word = ap erasures (take-add i j word) ∙ erasures_append (take i word) (take j (drop i word))

-- those of a word are those of its first i bytes and those of the others
pub erasures_parts : (i : ℕ) (word : List ℕ) → i ≤ length word → erasures (take i word) + erasures (take (length word - i) (drop i word)) ≡ erasures word
erasures_parts i word h = sym (erasures_add i (length word - i) word) ∙ ap erasures (take_all (i + (length word - i)) word (omega arith))

pub erasures_le : (word : List ℕ) → erasures word ≤ length word
unfolding erasures
erasures_le word = count_le (λ x. eqb x 2) word

-- std counts the same
pub erasures_counted : (word : List ℕ) → count_by (λ x. x == 2) word ≡ erasures word
unfolding erasures count
erasures_counted word = sym (is_count_by (count (λ x. eqb x 2)) (λ x. eqb x 2) refl (λ x l. added (eqb x 2) (count (λ y. eqb y 2) l)) word)
  where
    added : (t : Bool) (n : ℕ) → one t + n ≡ cond t (1 + n) n
    added true n = refl
    added false n = omega arith

-- those of a word by eights, and of the bytes behind them
pub erasures_chunked : (k : ℕ) (word : List ℕ) → k * 8 ≤ length word → sum_by erasures (first_chunks 8 k word) + erasures (drop (k * 8) word) ≡ erasures word
erasures_chunked zero word h = omega arith
erasures_chunked (suc k) word h =
    let later = erasures_chunked k (drop 8 word) (omega (arith, length-drop 8 word)) in
    let parts : erasures (take 8 word) + erasures (drop 8 word) ≡ erasures word =
    sym (erasures_append (take 8 word) (drop 8 word)) ∙ ap erasures (take-append-drop 8 word) in
    let rest : drop (k * 8) (drop 8 word) ≡ drop (suc k * 8) word =
    drop-drop (k * 8) 8 word ∙ ap (λ (n : ℕ). drop n word) (let e : 8 + k * 8 ≡ suc k * 8 = omega arith in e) in
    omega (arith, sum_by-cons erasures (take 8 word) (first_chunks 8 k (drop 8 word)), later, parts, ap erasures rest)
