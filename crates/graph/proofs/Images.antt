-- A map of checks and of bits that keeps edges and sends different numbers to different ones keeps simple cycles. Assumes nothing.
use Prim.Native.Nat.{ℕ, zero, suc, pred, ◌<◌}
use mathlib.Core.Path.{◌≡◌, refl, sym, ◌∙◌}
use mathlib.Core.Logic.{◌≢◌}
use mathlib.Core.List.{List, [], ◌∷◌, map}
use native.Mathlib.Omega.{arith}
use lib.ListN.{length, get_or, length-map}
use Rattle.graph.specs.Graph.{Bipartite, Joined}
use Rattle.graph.specs.Girth.{SimpleCycle}

get_or_map : (f : ℕ → ℕ) (l : List ℕ) (i : ℕ) → i < length l → get_or (map f l) i 0 ≡ f (get_or l i 0)
get_or_map f [] i h = absurd (omega arith)
get_or_map f (x ∷ l) zero h = refl
get_or_map f (x ∷ l) (suc i) h = get_or_map f l i (omega arith)

module _ (G H : Bipartite) (f g : ℕ → ℕ) (keeps : (c b : ℕ) → Joined G c b → Joined H (f c) (g b)) (f-same : (x y : ℕ) → f x ≡ f y → x ≡ y) (g-same : (x y : ℕ) → g x ≡ g y → x ≡ y) where
  pub map_cycle : (n : ℕ) (cs bs : List ℕ) → SimpleCycle G n cs bs → SimpleCycle H n (map f cs) (map g bs)
  map_cycle n cs bs y =
      record {
        least = y.least;
        n_checks = length-map cs f ∙ y.n_checks;
        n_bits = length-map bs g ∙ y.n_bits;
        forth = λ k h. edge k k (omega (arith, y.n_checks)) (omega (arith, y.n_bits)) (y.forth k h);
        back = λ k h. edge (suc k) k (omega (arith, y.n_checks)) (omega (arith, y.n_bits)) (y.back k h);
        closes = edge 0 (pred n) (omega (arith, y.n_checks, y.least)) (omega (arith, y.n_bits, y.least)) y.closes;
        checks_differ = λ i j h k. differ f f-same cs i j (omega (arith, y.n_checks)) (omega (arith, y.n_checks)) (y.checks_differ i j h k);
        bits_differ = λ i j h k. differ g g-same bs i j (omega (arith, y.n_bits)) (omega (arith, y.n_bits)) (y.bits_differ i j h k);
      }
    where
      edge : (i j : ℕ) → i < length cs → j < length bs → Joined G (get_or cs i 0) (get_or bs j 0) → Joined H (get_or (map f cs) i 0) (get_or (map g bs) j 0)
      edge i j p q e = rw (get_or_map f cs i p, get_or_map g bs j q) (keeps (get_or cs i 0) (get_or bs j 0) e)

      differ : (h : ℕ → ℕ) → ((x y : ℕ) → h x ≡ h y → x ≡ y) → (l : List ℕ) (i j : ℕ) → i < length l → j < length l → get_or l i 0 ≢ get_or l j 0 → get_or (map h l) i 0 ≢ get_or (map h l) j 0
      differ h same l i j p q d e = d (same (get_or l i 0) (get_or l j 0) (sym (get_or_map h l i p) ∙ e ∙ get_or_map h l j q))
