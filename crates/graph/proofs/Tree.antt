-- The tree bound: in a graph without short cycles whose bits have three checks or more, a stopping set is empty or large.
-- Assumes nothing.
use Prim.Native.Nat.{ℕ, zero, suc, ◌+◌, ◌*◌, ◌-◌, ◌^◌, ◌≤◌, ◌<◌}
use mathlib.Core.Path.{◌≡◌, refl, sym, ap, subst, ◌∙◌}
use mathlib.Core.Logic.{inl, inr, ◌≢◌}
use mathlib.Core.Bool.{Bool, true}
use mathlib.Core.List.{List, [], ◌∷◌, ◌++◌}
use native.Mathlib.Omega.{arith}
use lib.ListN.{length, get_or, length-append}
use Rattle.graph.specs.Count.{below, count, Mem, Nodup}
use Rattle.graph.specs.Graph.{Bipartite, Joined, bits_of, checks_of}
use Rattle.graph.specs.Girth.{Passes}
use Rattle.graph.specs.Stopping.{Stopping, ThreeChecks, Least, girth_6, girth_8, girth_10, girth_12, girth_14, girth_16, girth_18}
use Rattle.graph.proofs.Lists.{get_or_mem, last, mem_append, mem_either, nodup_append}
use Rattle.graph.proofs.Count.{crowd, another, TwoOthers, two_others, nodup_range}
use Rattle.graph.proofs.Neighbours.{below_mem, bit_joined, joined_bit, check_joined, joined_check, bits_nodup, checks_nodup}
use Rattle.graph.specs.Walks.{Node, check, bit, Adj, Walk}
use Rattle.graph.proofs.Walks.{check_inj, bit_inj, Cycle, fork}
use Rattle.graph.proofs.Cycles.{passes_none}

-- bit x is reached from p over v, by a walk of fewer than n edges
record Reach (G : Bipartite) (p v : Node) (n x : ℕ) : Type 0 where
  way : List Node
  walk : Walk G (p ∷ v ∷ way)
  ends : last v way ≡ bit x
  short : length (v ∷ way) < n

-- a bit of S
abbrev Inside : Bipartite → (ℕ → Bool) → ℕ → Type 0
Inside G S x = (x < G.bits) × (S x ≡ true)

-- distinct bits of S that are reached so
record Grown (G : Bipartite) (S : ℕ → Bool) (p v : Node) (n : ℕ) (xs : List ℕ) : Type 0 where
  distinct : Nodup xs
  reach : (x : ℕ) → Mem x xs → Reach G p v n x
  inside : (x : ℕ) → Mem x xs → Inside G S x

longer : {G : Bipartite} {p v : Node} {n x k : ℕ} (q : Node) → n < k → Adj G q p → q ≢ v → Reach G p v n x → Reach G q p k x
longer {v = v} q h a d r = record { way = v ∷ r.way; walk = ((a, d), r.walk); ends = r.ends; short = omega arith }

module _ (G : Bipartite) (S : ℕ → Bool) (m : ℕ) (none : Cycle G m → ⊥) where
  -- two branches have no bit in common
  apart : (r u v : Node) (n k : ℕ) (xs ys : List ℕ) → Grown G S r u n xs → Grown G S r v k ys → u ≢ v → n + k ≤ m + 2 → (x : ℕ) → Mem x xs → Mem x ys → ⊥
  apart r u v n k xs ys g h d f x i j =
      let a : Reach G r u n x = g.reach x i in
      let b : Reach G r v k x = h.reach x j in
      none (fork G r (u ∷ a.way) v b.way m a.walk b.walk d (a.ends ∙ sym b.ends) (omega arith))

  -- a branch does not come back to its root
  away : (r : ℕ) (u : Node) (n : ℕ) (xs : List ℕ) → Grown G S (bit r) u n xs → n ≤ m + 1 → ¬ Mem r xs
  away r u n xs g k i =
      let a : Reach G (bit r) u n r = g.reach r i in
      none (fork G (bit r) [] u a.way m (tt, tt) a.walk tt (sym a.ends) (omega arith))

module _ (G : Bipartite) (S : ℕ → Bool) where
  -- a full binary tree of depth d
  abbrev Tree : Node → Node → ℕ → ℕ → Type 0
  Tree p v n d = (xs : List ℕ) × Grown G S p v n xs × (suc (length xs) ≡ 2 ^ d)

module _ (G : Bipartite) (S : ℕ → Bool) (stops : Stopping G S) where
  -- a check that touches S touches another bit of S
  twig : (c b : ℕ) → Joined G c b → S b ≡ true → (a : ℕ) × Joined G c a × (S a ≡ true) × (a ≢ b)
  unfolding Stopping
  twig c b j s =
      let r = another S (bits_of G c) b (bits_nodup G c) (stops c j.check_in) (joined_bit G c b j) s in
      (r.0, bit_joined G c r.0 j.check_in r.1, r.2, r.3)

  -- from bit b over check c into the trees below
  branch : (d : ℕ) → ((c b : ℕ) → Joined G c b → S b ≡ true → Tree G S (check c) (bit b) (2 * d) d) → (b c : ℕ) → Joined G c b → S b ≡ true → Tree G S (bit b) (check c) (suc (2 * d)) d
  unfolding Adj
  branch d under b c j s =
      let t : (a : ℕ) × Joined G c a × (S a ≡ true) × (a ≢ b) = twig c b j s in
      let g : Tree G S (check c) (bit t.0) (2 * d) d = under c t.0 t.1 t.2 in
      (g.0, record { distinct = g.1.distinct; reach = λ x i. longer (bit b) (omega arith) j (λ e. t.3 (sym (bit_inj b t.0 e))) (g.1.reach x i); inside = g.1.inside }, g.2)

module _ (G : Bipartite) (S : ℕ → Bool) (m : ℕ) (none : Cycle G m → ⊥) where
  -- bit b, reached from check c, with the branches over two other checks
  knot : (d c b c₁ c₂ : ℕ) → Joined G c b → S b ≡ true → c₁ ≢ c → c₂ ≢ c → c₁ ≢ c₂ → 4 * d ≤ m → Tree G S (bit b) (check c₁) (suc (2 * d)) d → Tree G S (bit b) (check c₂) (suc (2 * d)) d → Tree G S (check c) (bit b) (2 * suc d) (suc d)
  unfolding Adj
  knot d c b c₁ c₂ j s d₁ d₂ d₁₂ h g₁ g₂ = (b ∷ xs, record { distinct = (fresh, distinct); reach = reach; inside = inside }, rw length-append (omega (arith, g₁.2, g₂.2)))
    where
      xs : List ℕ
      xs = g₁.0 ++ g₂.0

      fresh : ¬ Mem b xs
      fresh i =
          elim (mem_append b g₁.0 g₂.0 i) [
            | inl k ↦ away G S m none b (check c₁) (suc (2 * d)) g₁.0 g₁.1 (omega arith) k
            | inr k ↦ away G S m none b (check c₂) (suc (2 * d)) g₂.0 g₂.1 (omega arith) k
          ]

      distinct : Nodup xs
      distinct = nodup_append g₁.0 g₂.0 g₁.1.distinct g₂.1.distinct (apart G S m none (bit b) (check c₁) (check c₂) (suc (2 * d)) (suc (2 * d)) g₁.0 g₂.0 g₁.1 g₂.1 (λ e. d₁₂ (check_inj c₁ c₂ e)) (omega arith))

      up : (e x : ℕ) → e ≢ c → Reach G (bit b) (check e) (suc (2 * d)) x → Reach G (check c) (bit b) (2 * suc d) x
      up e x k r = longer (check c) (omega arith) j (λ q. k (sym (check_inj c e q))) r

      reach : (x : ℕ) → Mem x (b ∷ xs) → Reach G (check c) (bit b) (2 * suc d) x
      reach x (inl e) = record { way = []; walk = ((j, tt), (tt, tt)); ends = ap bit (sym e); short = omega arith }
      reach x (inr i) = mem_either (Reach G (check c) (bit b) (2 * suc d)) g₁.0 g₂.0 (λ x i. up c₁ x d₁ (g₁.1.reach x i)) (λ x i. up c₂ x d₂ (g₂.1.reach x i)) x i

      inside : (x : ℕ) → Mem x (b ∷ xs) → Inside G S x
      inside x (inl e) = rw e (j.bit_in, s)
      inside x (inr i) = mem_either (Inside G S) g₁.0 g₂.0 g₁.1.inside g₂.1.inside x i

module _ (G : Bipartite) (S : ℕ → Bool) (stops : Stopping G S) (three : ThreeChecks G) (m : ℕ) (none : Cycle G m → ⊥) where
  grow : (d : ℕ) → 4 * d ≤ m + 4 → (c b : ℕ) → Joined G c b → S b ≡ true → Tree G S (check c) (bit b) (2 * d) d
  unfolding Adj ThreeChecks
  grow zero h c b j s = ([], record { distinct = tt; reach = λ x i. absurd i; inside = λ x i. absurd i }, refl)
  grow (suc d) h c b j s = join (branch G S stops d (grow d (omega arith)) b)
    where
      join : ((c : ℕ) → Joined G c b → S b ≡ true → Tree G S (bit b) (check c) (suc (2 * d)) d) → Tree G S (check c) (bit b) (2 * suc d) (suc d)
      join under =
          let t : TwoOthers c (checks_of G b) = two_others c (checks_of G b) (checks_nodup G b) (three b j.bit_in) (joined_check G c b j) in
          let j₁ : Joined G t.x b = check_joined G t.x b j.bit_in t.x_in in
          let j₂ : Joined G t.y b = check_joined G t.y b j.bit_in t.y_in in
          knot G S m none d c b t.x t.y j s t.x_other t.y_other t.differ (omega arith) (under t.x j₁ s) (under t.y j₂ s)

  -- the trees on both sides of a check that touches S
  both_sides : (d e : ℕ) → 4 * d ≤ m + 4 → 4 * e ≤ m + 4 → 2 * d + 2 * e ≤ m + 2 → (b : ℕ) → b < G.bits → S b ≡ true → 2 ^ d + 2 ^ e ≤ count S (below G.bits) + 2
  unfolding ThreeChecks
  both_sides d e hd he h b k s =
      let c : ℕ = get_or (checks_of G b) 0 0 in
      let j : Joined G c b = check_joined G c b k (get_or_mem (checks_of G b) 0 0 (omega (arith, three b k))) in
      let t : (a : ℕ) × Joined G c a × (S a ≡ true) × (a ≢ b) = twig G S stops c b j s in
      sides c t.0 (λ q. t.3 (sym q)) (grow d hd c t.0 t.1 t.2) (grow e he c b j s)
    where
      sides : (c a : ℕ) → b ≢ a → Tree G S (check c) (bit a) (2 * d) d → Tree G S (check c) (bit b) (2 * e) e → 2 ^ d + 2 ^ e ≤ count S (below G.bits) + 2
      sides c a n g₁ g₂ =
          let xs : List ℕ = g₁.0 in
          let ys : List ℕ = g₂.0 in
          let distinct : Nodup (xs ++ ys) = nodup_append xs ys g₁.1.distinct g₂.1.distinct (apart G S m none (check c) (bit a) (bit b) (2 * d) (2 * e) xs ys g₁.1 g₂.1 (λ q. n (sym (bit_inj a b q))) h) in
          let within : (x : ℕ) → Mem x (xs ++ ys) → Inside G S x = mem_either (Inside G S) xs ys g₁.1.inside g₂.1.inside in
          let fits : length (xs ++ ys) ≤ count S (below G.bits) = crowd (xs ++ ys) S (below G.bits) (nodup_range 0 G.bits) distinct (λ x i. (below_mem x G.bits (within x i).0, (within x i).1)) in
          omega (arith, length-append xs ys, g₁.2, g₂.2)

-- THE TREE BOUND. Half the girth is d + e, halved again: 3 = 2 + 1, 4 = 2 + 2, 5 = 3 + 2, 6 = 3 + 3, and so on.
pub tree_bound : (G : Bipartite) (S : ℕ → Bool) (d e : ℕ) → e ≤ d → d ≤ e + 1 → 1 ≤ e → Passes G (2 * (d + e)) → ThreeChecks G → Stopping G S → (b : ℕ) → b < G.bits → S b ≡ true → 2 ^ d + 2 ^ e ≤ count S (below G.bits) + 2
tree_bound G S d e h k p passes three stops b i s =
    let m : ℕ = 2 * (d + e) - 1 in
    both_sides G S stops three m (passes_none G (2 * (d + e)) m passes (omega arith)) d e (omega arith) (omega arith) (omega arith) b i s

-- a girth of the table, as the two depths of the trees
record Depths (t n : ℕ) : Type 0 where
  d : ℕ
  e : ℕ
  whole : t ≡ 2 * (d + e)
  bits : n + 2 ≡ 2 ^ d + 2 ^ e
  ordered : e ≤ d
  near : d ≤ e + 1
  some : 1 ≤ e

trees : (d e : ℕ) → e ≤ d → d ≤ e + 1 → 1 ≤ e → 2 ≤ 2 ^ d + 2 ^ e → Depths (2 * (d + e)) (2 ^ d + 2 ^ e - 2)
trees d e h k p q = record { d = d; e = e; whole = refl; bits = omega arith; ordered = h; near = k; some = p }

depths : {t n : ℕ} → Least t n → Depths t n
depths girth_6 = trees 2 1 (omega arith) (omega arith) (omega arith) (omega arith)
depths girth_8 = trees 2 2 (omega arith) (omega arith) (omega arith) (omega arith)
depths girth_10 = trees 3 2 (omega arith) (omega arith) (omega arith) (omega arith)
depths girth_12 = trees 3 3 (omega arith) (omega arith) (omega arith) (omega arith)
depths girth_14 = trees 4 3 (omega arith) (omega arith) (omega arith) (omega arith)
depths girth_16 = trees 4 4 (omega arith) (omega arith) (omega arith) (omega arith)
depths girth_18 = trees 5 4 (omega arith) (omega arith) (omega arith) (omega arith)

-- a stopping set that is not empty has at least as many bits as the table says
pub stopping_least : (G : Bipartite) (S : ℕ → Bool) {t n : ℕ} → Least t n → Passes G t → ThreeChecks G → Stopping G S → (b : ℕ) → b < G.bits → S b ≡ true → n ≤ count S (below G.bits)
stopping_least G S l passes three stops b h s =
    let q = depths l in
    omega (arith, tree_bound G S q.d q.e q.ordered q.near q.some (subst (Passes G) q.whole passes) three stops b h s, q.bits)
