-- A graph whose bits lie on the points of a grid and whose checks lie on its axis-parallel lines, with at most one check of each
-- direction at a bit, has no simple cycle of 4, 6 or 10 edges, and its cycles of 8 edges go X Y X Y. So where those are ruled out,
-- it passes at 12. Assumes nothing.
use Prim.Native.Nat.{ℕ, zero, suc, ◌<◌}
use mathlib.Core.Path.{◌≡◌, refl, sym}
use mathlib.Core.Logic.{◌≢◌}
use mathlib.Core.List.{List}
use native.Mathlib.Omega.{arith}
use lib.ListN.{get_or}
use Rattle.graph.specs.Graph.{Bipartite, Joined}
use Rattle.graph.specs.Girth.{SimpleCycle, Passes}
use Rattle.grid.proofs.Moves.{Move, two, three, four, five}

-- the graph on a grid: x i b is the coordinate of bit b in the direction i, and way c the direction of check c
pub record OnGrid {K : Type 0} (G : Bipartite) (way : ℕ → K) (x : K → ℕ → ℕ) : Type 0 where
  pub line : {c b d : ℕ} → Joined G c b → Joined G c d → (i : K) → i ≢ way c → x i b ≡ x i d
  pub point : {c b d : ℕ} → Joined G c b → Joined G c d → x (way c) b ≡ x (way c) d → b ≡ d
  pub single : {c d b : ℕ} → Joined G c b → Joined G d b → way c ≡ way d → c ≡ d

-- four checks and four bits of a cycle of 8 edges that goes X Y X Y
pub record Square {K : Type 0} (G : Bipartite) (way : ℕ → K) (x : K → ℕ → ℕ) (c₀ c₁ c₂ c₃ b₀ b₁ b₂ b₃ : ℕ) : Type 0 where
  pub j₀ : Joined G c₀ b₀
  pub j₁ : Joined G c₁ b₁
  pub j₂ : Joined G c₂ b₂
  pub j₃ : Joined G c₃ b₃
  pub k₀ : Joined G c₁ b₀
  pub k₁ : Joined G c₂ b₁
  pub k₂ : Joined G c₃ b₂
  pub k₃ : Joined G c₀ b₃
  pub ways : way c₀ ≢ way c₁
  pub even : way c₀ ≡ way c₂
  pub odd : way c₁ ≡ way c₃
  pub m₀ : Move x (way c₁) b₀ b₁
  pub m₁ : Move x (way c₂) b₁ b₂
  pub m₂ : Move x (way c₃) b₂ b₃
  pub m₃ : Move x (way c₀) b₃ b₀

module _ {K : Type 0} (eq? : Discrete K) (G : Bipartite) (way : ℕ → K) (x : K → ℕ → ℕ) (g : OnGrid G way x)
    (no_square : (c₀ c₁ c₂ c₃ b₀ b₁ b₂ b₃ : ℕ) → Square G way x c₀ c₁ c₂ c₃ b₀ b₁ b₂ b₃ → ⊥) where
  -- one check joins two different bits, and two different checks one bit
  move : (c b d : ℕ) → Joined G c b → Joined G c d → b ≢ d → Move x (way c) b d
  move c b d j k h = record { keeps = λ i q. g.line j k i q; turns = λ q. h (g.point j k q) }

  module _ (n : ℕ) (cs bs : List ℕ) (y : SimpleCycle G n cs bs) where
    abbrev c : ℕ → ℕ
    c k = get_or cs k 0

    abbrev b : ℕ → ℕ
    b k = get_or bs k 0

    step : (k : ℕ) → suc k < n → Move x (way (get_or cs (suc k) 0)) (get_or bs k 0) (get_or bs (suc k) 0)
    step k h = move (c (suc k)) (b k) (b (suc k)) (y.back k h) (y.forth (suc k) h) (y.bits_differ k (suc k) (omega arith) h)

    ways : (k : ℕ) → suc k < n → way (get_or cs k 0) ≢ way (get_or cs (suc k) 0)
    ways k h q = y.checks_differ k (suc k) (omega arith) h (g.single (y.forth k (omega arith)) (y.back k h) q)

    module _ (m : ℕ) (e : n ≡ suc (suc m)) (last : Joined G (get_or cs 0 0) (get_or bs (suc m) 0)) where
      round : Move x (way (get_or cs 0 0)) (get_or bs (suc m) 0) (get_or bs 0 0)
      round = move (c 0) (b (suc m)) (b 0) last (y.forth 0 (omega arith)) (λ q. y.bits_differ 0 (suc m) (omega arith) (omega arith) (sym q))

      round_ways : way (get_or cs (suc m) 0) ≢ way (get_or cs 0 0)
      round_ways q = y.checks_differ 0 (suc m) (omega arith) (omega arith) (sym (g.single (y.forth (suc m) (omega arith)) last q))

  pub passes_12 : Passes G 12
  unfolding Passes
  passes_12 zero cs bs y = absurd (omega (arith, y.least))
  passes_12 (suc zero) cs bs y = absurd (omega (arith, y.least))
  passes_12 (suc (suc zero)) cs bs y = absurd (two eq? x (step 2 cs bs y 0 (omega arith)) (round 2 cs bs y 0 refl y.closes) (round_ways 2 cs bs y 0 refl y.closes))
  passes_12 (suc (suc (suc zero))) cs bs y =
      let m = step 3 cs bs y in
      let d = ways 3 cs bs y in
      absurd (three eq? x (m 0 (omega arith)) (m 1 (omega arith)) (round 3 cs bs y 1 refl y.closes) (d 1 (omega arith)) (d 0 (omega arith)))
  passes_12 (suc (suc (suc (suc zero)))) cs bs y =
      let m = step 4 cs bs y in
      let d = ways 4 cs bs y in
      let z = round 4 cs bs y 2 refl y.closes in
      absurd (no_square (get_or cs 0 0) (get_or cs 1 0) (get_or cs 2 0) (get_or cs 3 0) (get_or bs 0 0) (get_or bs 1 0) (get_or bs 2 0) (get_or bs 3 0) (record {
        j₀ = y.forth 0 (omega arith);
        j₁ = y.forth 1 (omega arith);
        j₂ = y.forth 2 (omega arith);
        j₃ = y.forth 3 (omega arith);
        k₀ = y.back 0 (omega arith);
        k₁ = y.back 1 (omega arith);
        k₂ = y.back 2 (omega arith);
        k₃ = y.closes;
        ways = d 0 (omega arith);
        even = four eq? x z (m 0 (omega arith)) (m 1 (omega arith)) (m 2 (omega arith)) (d 0 (omega arith)) (round_ways 4 cs bs y 2 refl y.closes);
        odd = four eq? x (m 0 (omega arith)) (m 1 (omega arith)) (m 2 (omega arith)) z (d 1 (omega arith)) (d 0 (omega arith));
        m₀ = m 0 (omega arith);
        m₁ = m 1 (omega arith);
        m₂ = m 2 (omega arith);
        m₃ = z;
      }))
  passes_12 (suc (suc (suc (suc (suc zero))))) cs bs y =
      let m = step 5 cs bs y in
      let d = ways 5 cs bs y in
      absurd (five eq? x (m 0 (omega arith)) (m 1 (omega arith)) (m 2 (omega arith)) (m 3 (omega arith)) (round 5 cs bs y 3 refl y.closes)
      (d 1 (omega arith)) (d 2 (omega arith)) (d 3 (omega arith)) (round_ways 5 cs bs y 3 refl y.closes) (d 0 (omega arith)))
  passes_12 (suc (suc (suc (suc (suc (suc n)))))) cs bs y = omega arith
