-- From what an index says at a place to the next filled one. Assumes nothing.
use Rattle.std.proofs.Common.{◌≡◌, ◌≤◌, ℕ, Bool, Option, cond, ltb, arith, Some, None}
use borrow.Author.Tests.{ltb-true, ltb-false}
use Rattle.graph.proofs.Decide.{by_bool}
use Rattle.index.specs.Index.{NextFrom, NextOf}

module _ (test : ℕ → Bool) (i limit : ℕ) where
  pub next_of : (m : ℕ) (o : Option ℕ) → o ≡ cond (ltb m limit) (Some m) None → NextFrom test i limit m → NextOf test i limit o
  next_of m o q n =
      rw q (by_bool (ltb m limit)
      (λ e. rw e (n, ltb-true m limit e))
      (λ e. let h = ltb-false m limit e in rw e (λ k p r. n.none_between k p (omega arith))))

  pub none_left : limit ≤ i → NextOf test i limit None
  none_left h = λ k p r. absurd (omega arith)

  -- nothing passes up to the limit
  pub to_limit : i ≤ limit → NextOf test i limit None → NextFrom test i limit limit
  to_limit h n = record { from_here = h; inside = omega arith; none_between = n; passes = λ q. absurd (omega arith) }
