-- The greatest byte of a list; data laid behind zeros. Assumes nothing.
use Prim.Native.Nat.{ℕ, ◌+◌, ◌≤◌, ◌<◌, max}
use mathlib.Core.Path.{◌≡◌, sym, ap, ap₂, ◌∙◌}
use mathlib.Core.List.{List, [], ◌++◌, append-nil}
use native.Mathlib.Omega.{arith}
use lib.ListN.{get_or, length, take, drop}
use Rattle.std.proofs.Common.{length-append}
use Rattle.std.proofs.Math.Seq.{take-append_seam}
use Rattle.std.proofs.lemmas.List.{drop_all}
use Rattle.std.proofs.lemmas.List.Edits.{sets, sets-eq}
use Rattle.graph.proofs.Decide.{by_eq, by_le}
use Rattle.encoding.specs.Work.{Greatest}

pub greatest_none : (l : List ℕ) → Greatest 0 l 0
greatest_none l = record { most = λ i h. absurd (omega arith); met = λ h. absurd (omega arith) }

pub greatest_more : (k : ℕ) (l : List ℕ) (x : ℕ) → Greatest k l x → Greatest (k + 1) l (max x (get_or l k 0))
greatest_more k l x g = record { most = most; met = met }
  where
    most : (i : ℕ) → i < k + 1 → get_or l i 0 ≤ max x (get_or l k 0)
    most i h =
        by_eq i k
        (λ e. rw e (omega arith))
        (λ d. omega (arith, g.most i (by_le k i (λ p. absurd (d (omega arith))) (λ p. p))))

    met : 0 < max x (get_or l k 0) → (i : ℕ) × (i < k + 1) × (get_or l i 0 ≡ max x (get_or l k 0))
    met h =
        by_le x (get_or l k 0)
        (λ p. (k, omega arith, omega arith))
        (λ p. let (i, q, e) = g.met (omega arith) in (i, omega arith, omega arith))

-- a run that is set from the end of the first part of a list on, and is as long as the other part
pub laid_whole : (zeros rest info w : List ℕ) (start k : ℕ) → length zeros ≡ start → length info ≡ length rest → length info ≤ k
    → sets w (start + k) (drop k info) ≡ sets (zeros ++ rest) start info → w ≡ zeros ++ info
laid_whole zeros rest info w start k z same h e =
    let none : drop k info ≡ [] = drop_all k info h in
    let whole : start + length info ≡ length (zeros ++ rest) = omega (arith, length-append zeros rest) in
    let front : take start (zeros ++ rest) ≡ zeros = ap (λ (n : ℕ). take n (zeros ++ rest)) (sym z) ∙ take-append_seam zeros rest in
    let back : drop (start + length info) (zeros ++ rest) ≡ [] = drop_all (start + length info) (zeros ++ rest) (omega arith) in
    sym (ap (sets w (start + k)) none) ∙ e ∙ sets-eq info (zeros ++ rest) start (omega arith)
    ∙ ap₂ (λ (p q : List ℕ). p ++ info ++ q) front back ∙ append-nil (zeros ++ info)
