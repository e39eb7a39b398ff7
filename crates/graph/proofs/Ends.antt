-- Walks from one vertex that are too short to close a cycle: their ends tell them apart, and from the ends of walks of n edges. So both
-- together are not more than the vertices. Assumes nothing.
use Prim.Native.Nat.{ℕ, ◌+◌, ◌*◌, ◌≤◌, ◌<◌}
use mathlib.Core.Path.{◌≡◌, sym, ap}
use mathlib.Core.Logic.{◌≢◌}
use mathlib.Core.List.{List, [], ◌∷◌, ◌++◌, map}
use native.Mathlib.Omega.{arith}
use lib.ListN.{length, length-append, length-map}
use Rattle.graph.specs.Count.{Mem, Nodup}
use Rattle.graph.specs.Graph.{Bipartite}
use Rattle.graph.specs.Girth.{Passes}
use Rattle.graph.proofs.Count.{few_below}
use Rattle.graph.proofs.Lists.{last, mem_either, nodup_append, each_image, nodup_image}
use Rattle.graph.specs.Walks.{Node, check, bit, Adj, Walk}
use Rattle.graph.proofs.Walks.{diverge}
use Rattle.graph.proofs.Cycles.{passes_none}

module _ (G : Bipartite) where
  -- the vertices of the graph
  abbrev pub Inside : Node → Type 0
  Inside (check c) = c < G.checks
  Inside (bit b) = b < G.bits

  -- a number for each vertex: the bits first
  abbrev number : Node → ℕ
  number (check c) = G.bits + c
  number (bit b) = b

  number_below : (u : Node) → Inside u → number u < G.checks + G.bits
  number_below (check c) h = omega arith
  number_below (bit b) h = omega arith

  number_same : (u v : Node) → Inside u → Inside v → number u ≡ number v → u ≡ v
  number_same (check c) (check d) h k e = ap check (omega arith)
  number_same (check c) (bit b) h k e = absurd (omega arith)
  number_same (bit b) (check c) h k e = absurd (omega arith)
  number_same (bit a) (bit b) h k e = ap bit e

  adj_inside : (u v : Node) → Adj G u v → Inside v
  unfolding Adj
  adj_inside (check c) (check d) a = absurd a
  adj_inside (check c) (bit b) a = a.bit_in
  adj_inside (bit b) (check c) a = a.check_in
  adj_inside (bit a) (bit b) h = absurd h

  last_inside : (u : Node) (l : List Node) → Inside u → Walk G (u ∷ l) → Inside (last u l)
  last_inside u [] h w = h
  last_inside u (v ∷ l) h w = last_inside v l (adj_inside u v w.0.0) w.1

  -- bit e is the end of a walk of n edges from u
  pub record Reached (n : ℕ) (u : Node) (e : ℕ) : Type 0 where
    pub along : List Node
    pub walk : Walk G (u ∷ along)
    pub long : length along ≡ n
    pub ends : last u along ≡ bit e

  -- walks L of fewer than n edges from u, and ends E of walks of n edges
  module _ (n : ℕ) (u : Node) (L : List (List Node)) (E : List ℕ) (passes : Passes G (2 * n)) (root : Inside u) (short : (l : List Node) → Mem l L → Walk G (u ∷ l) × (length l < n)) (reached : (e : ℕ) → Mem e E → Reached n u e) where
    abbrev end : List Node → ℕ
    end l = number (last u l)

    -- two different walks to one vertex would close a cycle that is too short
    one_way : (l m : List Node) → Walk G (u ∷ l) → Walk G (u ∷ m) → length l + length m < 2 * n → end l ≡ end m → l ≢ m → ⊥
    one_way l m wl wm few e differ =
        passes_none G (2 * n) (length l + length m) passes few
        (diverge G u l m wl wm (number_same (last u l) (last u m) (last_inside u l root wl) (last_inside u m root wm) e) differ)

    ends_apart : Nodup L → Nodup (map end L)
    ends_apart d = nodup_image end L d (λ l m i j e differ. one_way l m (short l i).0 (short m j).0 (omega (arith, (short l i).1, (short m j).1)) e differ)

    not_reached : (x : ℕ) → Mem x (map end L) → Mem x E → ⊥
    not_reached =
        each_image end (λ x. Mem x E → ⊥) L (λ l m i.
        let r = reached (end l) i in
        one_way l r.along (short l m).0 r.walk (omega (arith, (short l m).1, r.long)) (sym (ap number r.ends)) (λ e. omega (arith, ap length e, (short l m).1, r.long)))

    ends_below : (x : ℕ) → Mem x (map end L ++ E) → x < G.checks + G.bits
    ends_below =
        mem_either (λ x. x < G.checks + G.bits) (map end L) E
        (each_image end (λ x. x < G.checks + G.bits) L (λ l m. number_below (last u l) (last_inside u l root (short l m).0)))
        (λ e m. let r = reached e m in omega (arith, ap number r.ends, number_below (last u r.along) (last_inside u r.along root r.walk)))

    pub few_walks : Nodup L → Nodup E → length L + length E ≤ G.checks + G.bits
    few_walks d f =
        omega (
          arith,
          length-map L end,
          length-append (map end L) E,
          few_below (G.checks + G.bits) (map end L ++ E) (nodup_append (map end L) E (ends_apart d) f not_reached) ends_below,
        )
