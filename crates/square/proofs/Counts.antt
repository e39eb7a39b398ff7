-- Counts of the numbers below n: a bound, and how the code's chains make them. Assumes nothing.
use Prim.Native.Nat.{ℕ, zero, suc, ◌≤◌}
use mathlib.Core.Path.{◌≡◌, refl, sym, ◌∙◌}
use mathlib.Core.Bool.{Bool}
use native.Mathlib.Omega.{arith}
use lib.ListN.{length}
use Rattle.std.proofs.Common.{add-one}
use Rattle.std.specs.List.{filter, count_by, range_with_len}
use Rattle.std.proofs.lemmas.Grind.{common_steps}
use Rattle.std.proofs.lemmas.List.Sums.{length-filter}
use Rattle.graph.proofs.Decide.{by_bool}
use Rattle.graph.specs.Count.{range, below, count}
use Rattle.graph.proofs.Count.{length_range, count_le}

module _ (f : ℕ → Bool) where
  pub count_small : (k : ℕ) → count f (below k) ≤ k
  count_small k = omega (arith, count_le f (below k), length_range 0 k)

  -- what a chain over the numbers below n counts
  counted : (a n : ℕ) → count f (range a n) ≡ count_by f (range_with_len a n)
  unfolding count range
  counted a zero = refl
  counted a (suc n) = let e = rw (← add-one) at (counted (suc a) n) in by_bool (f a) (λ t. grind (arith, common_steps, e, t)) (λ t. grind (arith, common_steps, e, t))

  pub length_counted : (n : ℕ) → length (filter f (range_with_len 0 n)) ≡ count f (below n)
  length_counted n = length-filter f (range_with_len 0 n) ∙ sym (counted 0 n)
