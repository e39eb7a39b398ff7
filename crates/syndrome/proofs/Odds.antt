-- Laws of `lowest_odd`: it is the first odd check, or the number of checks, which are few. Assumes nothing.
use Prim.Native.Nat.{ℕ, ◌*◌, ◌≤◌, ◌<◌}
use mathlib.Core.Path.{◌≡◌, sym, ap, ◌∙◌}
use mathlib.Core.Bool.{Bool, false}
use mathlib.Core.List.{List}
use Rattle.std.specs.Prelude.{None, Some}
use native.Mathlib.Omega.{arith}
use native.Mathlib.Nat.{zero-add, mul-le-mul}
use borrow.Author.Tests.{lt-ltb, le-ltb, eqb-true, eqb-false, eq-eqb, ne_eqb}
use lib.Dec.{eqb}
use lib.IntN.{ℤ}
use lib.ListN.{get_or}
use Rattle.refusal.proofs.Place.{first_at, first_none, first_le, before_first, at_first}
use Rattle.graph.specs.Count.{below}
use Rattle.graph.specs.Graph.{Bipartite}
use Rattle.graph.specs.Erasure.{parity}
use Rattle.graph.proofs.Count.{length_range, get_or_range}
use Rattle.exponent.specs.Limits.{WellFormed}
use Rattle.syndrome.specs.Check.{lowest_odd, found}

pub few_checks : (plan : List ℤ) (rows cols lift : ℕ) → WellFormed plan rows cols lift → rows * lift ≤ 786432
few_checks plan rows cols lift w = mul-le-mul w.few_rows w.small_lift

module _ (G : Bipartite) (word : List ℕ) where
  abbrev odd : ℕ → Bool
  odd c = eqb (parity G word c) 1

  -- the test at a place of the list of checks
  at : (c : ℕ) → c < G.checks → odd (get_or (below G.checks) c 0) ≡ odd c
  at c h = ap odd (get_or_range 0 G.checks c h ∙ zero-add c)

  even : (c : ℕ) → parity G word c ≡ 0 → odd c ≡ false
  even c e = ne_eqb (parity G word c) 1 (λ q. omega arith)

  not_odd : (c : ℕ) → odd c ≡ false → parity G word c ≡ 0
  unfolding parity
  not_odd c e = omega (arith, eqb-false (parity G word c) 1 e)

  -- check c is odd, and none before it
  pub odd_at : (c : ℕ) → ((d : ℕ) → d < c → parity G word d ≡ 0) → c < G.checks → parity G word c ≡ 1 → lowest_odd G word ≡ c
  unfolding lowest_odd
  odd_at c before h e =
      first_at odd 0 (below G.checks) c (λ d k. at d (omega arith) ∙ even d (before d k)) (omega (arith, length_range 0 G.checks))
      (at c h ∙ eq-eqb (parity G word c) 1 e)

  -- no check is odd
  pub odd_none : ((c : ℕ) → c < G.checks → parity G word c ≡ 0) → lowest_odd G word ≡ G.checks
  unfolding lowest_odd
  odd_none all =
      first_none odd 0 (below G.checks) (λ c h. let k : c < G.checks = omega (arith, length_range 0 G.checks) in at c k ∙ even c (all c k))
      ∙ length_range 0 G.checks

  odd_le : lowest_odd G word ≤ G.checks
  unfolding lowest_odd
  odd_le = omega (arith, first_le odd 0 (below G.checks), length_range 0 G.checks)

  pub before_odd : (c : ℕ) → c < lowest_odd G word → parity G word c ≡ 0
  unfolding lowest_odd
  before_odd c h = not_odd c (sym (at c (omega (arith, odd_le))) ∙ before_first odd 0 (below G.checks) c h)

  pub at_odd : lowest_odd G word < G.checks → parity G word (lowest_odd G word) ≡ 1
  unfolding lowest_odd
  at_odd h =
      eqb-true (parity G word (lowest_odd G word)) 1
      (sym (at (lowest_odd G word) h) ∙ at_first odd 0 (below G.checks) (omega (arith, length_range 0 G.checks)))

  -- the same of the check that is found
  pub odd_found : (c : ℕ) → ((d : ℕ) → d < c → parity G word d ≡ 0) → c < G.checks → parity G word c ≡ 1 → found G.checks (lowest_odd G word) ≡ Some c
  odd_found c before h e = rw (odd_at c before h e, lt-ltb c G.checks h)

  pub none_found : ((c : ℕ) → c < G.checks → parity G word c ≡ 0) → found G.checks (lowest_odd G word) ≡ None
  none_found all = rw (odd_none all, le-ltb G.checks G.checks (omega arith))
