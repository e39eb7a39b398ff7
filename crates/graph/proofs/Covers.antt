-- A map of checks and of bits that keeps edges, and that sends two neighbours of one vertex to different ones, keeps closed walks: where
-- its target passes, its source does. Assumes nothing.
use Prim.Native.Nat.{ℕ}
use mathlib.Core.Path.{◌≡◌, refl, ap, ◌∙◌}
use mathlib.Core.List.{List, [], ◌∷◌, map}
use native.Mathlib.Omega.{arith}
use lib.ListN.{length-map}
use Rattle.graph.specs.Graph.{Bipartite, Joined}
use Rattle.graph.specs.Girth.{Passes}
use Rattle.graph.specs.Walks.{Node, check, bit, Adj, Walk}
use Rattle.graph.proofs.Lists.{last}
use Rattle.graph.proofs.Walks.{check_inj, bit_inj}
use Rattle.graph.proofs.Closed.{passes_walks}

module _ (G H : Bipartite) (f g : ℕ → ℕ) (keeps : (c b : ℕ) → Joined G c b → Joined H (f c) (g b))
    (checks_apart : (c d b : ℕ) → Joined G c b → Joined G d b → f c ≡ f d → c ≡ d)
    (bits_apart : (a b c : ℕ) → Joined G c a → Joined G c b → g a ≡ g b → a ≡ b) where
  image : Node → Node
  image (check c) = check (f c)
  image (bit b) = bit (g b)

  image_adj : (u v : Node) → Adj G u v → Adj H (image u) (image v)
  unfolding Adj image
  image_adj (check c) (check d) a = a
  image_adj (check c) (bit b) a = keeps c b a
  image_adj (bit b) (check c) a = keeps c b a
  image_adj (bit a) (bit b) h = h

  image_apart : (u v w : Node) → Adj G u v → Adj G v w → image u ≡ image w → u ≡ w
  unfolding Adj image
  image_apart (check c) (check d) w h k e = absurd h
  image_apart (check c) (bit b) (check d) h k e = ap check (checks_apart c d b h k (check_inj (f c) (f d) e))
  image_apart (check c) (bit b) (bit d) h k e = absurd k
  image_apart (bit a) (bit b) w h k e = absurd h
  image_apart (bit a) (check c) (check d) h k e = absurd k
  image_apart (bit a) (check c) (bit b) h k e = ap bit (bits_apart a b c h k (bit_inj (g a) (g b) e))

  image_walk : (l : List Node) → Walk G l → Walk H (map image l)
  image_walk [] w = tt
  image_walk (u ∷ []) w = (tt, tt)
  image_walk (u ∷ v ∷ []) w = ((image_adj u v w.0.0, tt), (tt, tt))
  image_walk (u ∷ v ∷ x ∷ l) w = ((image_adj u v w.0.0, λ e. w.0.1 (image_apart u v x w.0.0 w.1.0.0 e)), image_walk (v ∷ x ∷ l) w.1)

  image_last : (u : Node) (l : List Node) → last (image u) (map image l) ≡ image (last u l)
  image_last u [] = refl
  image_last u (v ∷ l) = image_last v l

  -- THE LAW
  pub cover_passes : (t : ℕ) → Passes H t → Passes G t
  unfolding image
  cover_passes t passes =
      (passes_walks G t).1 λ b l y.
      omega (
        arith,
        length-map l image,
        (passes_walks H t).0 passes (g b) (map image l)
            (record {
              walk = image_walk (bit b ∷ l) y.walk;
              back = image_last (bit b) l ∙ ap image y.back;
              moves = omega (arith, length-map l image, y.moves);
            }),
      )
