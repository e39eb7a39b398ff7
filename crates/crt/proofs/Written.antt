-- Writing the joined plan: one entry more, and all. Assumes nothing.
use Prim.Native.Nat.{ℕ, ◌+◌, ◌≤◌, ◌<◌}
use mathlib.Core.Path.{◌≡◌, sym, ◌∙◌}
use mathlib.Core.List.{List}
use native.Mathlib.Omega.{arith}
use lib.IntN.{ℤ, pos}
use lib.ListN.{length, set, length-set}
use lib.Seq.{get_or-set_same, get_or-set_other, ext_get_or}
use Rattle.graph.proofs.Decide.{by_eq}
use Rattle.exponent.specs.Plan.{entry_at}
use Rattle.crt.specs.Join.{joined_entry, joined_plan}
use Rattle.crt.specs.Work.{JoinedTo}
use Rattle.crt.proofs.Plans.{joined_length, joined_at}

module _ (first : List ℤ) (P : ℕ) (second : List ℤ) (Q : ℕ) where
  pub joined_more : (list : List ℤ) (k : ℕ) (x : ℤ) → JoinedTo first P second Q list k → k < length first → x ≡ joined_entry P Q (entry_at first P k) (entry_at second Q k)
      → JoinedTo first P second Q (set list k x) (k + 1)
  joined_more list k x j h e =
      record {
        long = length-set list k x ∙ j.long;
        done = λ p l.
            by_eq p k
            (λ q. rw q (get_or-set_same list k x (pos 0) (omega (arith, j.long)) ∙ e))
            (λ q. get_or-set_other list k p x (pos 0) q ∙ j.done p (omega arith));
      }

  pub joined_all : (list : List ℤ) (k : ℕ) → JoinedTo first P second Q list k → length first ≤ k → list ≡ joined_plan first P second Q
  joined_all list k j h =
      ext_get_or (pos 0) list (joined_plan first P second Q) (j.long ∙ sym (joined_length first P second Q)) λ p l.
      j.done p (omega (arith, j.long)) ∙ sym (joined_at first P second Q p (omega (arith, j.long)))
