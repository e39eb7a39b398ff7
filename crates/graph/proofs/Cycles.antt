-- From a closed walk to a simple cycle as lists of checks and bits. Assumes nothing.
use Prim.Native.Nat.{ℕ, zero, suc, ◌+◌, ◌*◌, ◌≤◌, ◌<◌}
use mathlib.Core.Path.{◌≡◌, refl, sym, ap, subst, ◌∙◌}
use mathlib.Core.Logic.{◌≢◌, inl, inr}
use mathlib.Core.List.{List, [], ◌∷◌, ◌++◌}
use Rattle.std.specs.Prelude.{Option, None, Some}
use Rattle.std.proofs.lemmas.Option.{none-some}
use native.Mathlib.Omega.{arith}
use lib.ListN.{length, get_or, length-append}
use Rattle.graph.specs.Count.{Mem, Nodup}
use Rattle.graph.specs.Graph.{Bipartite, Joined}
use Rattle.graph.specs.Girth.{SimpleCycle, Passes, IsGirth}
use Rattle.graph.proofs.Lists.{last, nodup_turn, last_append, nodup_get_or}
use Rattle.graph.specs.Walks.{Node, check, bit, Adj, Walk}
use Rattle.graph.proofs.Walks.{Cycle, walk_left, last_adj}

-- the numbers of a list's vertices of one kind
abbrev pub add : Option ℕ → List ℕ → List ℕ
add None l = l
add (Some x) l = x ∷ l

unfoldable pub numbers : (Node → Option ℕ) → List Node → List ℕ
numbers kind [] = []
numbers kind (n ∷ l) = add (kind n) (numbers kind l)

module _ (kind : Node → Option ℕ) (make : ℕ → Node) (made : (n : Node) (x : ℕ) → kind n ≡ Some x → make x ≡ n) where
  mem_add : (x : ℕ) (n : Node) (l : List Node) (rest : List ℕ) → (Mem x rest → Mem (make x) l) → (o : Option ℕ) → kind n ≡ o → Mem x (add o rest) → Mem (make x) (n ∷ l)
  mem_add x n l rest later None e m = inr (later m)
  mem_add x n l rest later (Some y) e (inl q) = inl (ap make q ∙ made n y e)
  mem_add x n l rest later (Some y) e (inr m) = inr (later m)

  mem_numbers : (x : ℕ) (l : List Node) → Mem x (numbers kind l) → Mem (make x) l
  unfolding numbers
  mem_numbers x [] m = m
  mem_numbers x (n ∷ l) m = mem_add x n l (numbers kind l) (mem_numbers x l) (kind n) refl m

  nodup_add : (n : Node) (l : List Node) → Nodup (n ∷ l) → Nodup (numbers kind l) → (o : Option ℕ) → kind n ≡ o → Nodup (add o (numbers kind l))
  nodup_add n l d h None e = h
  nodup_add n l d h (Some y) e = (λ m. d.0 (subst (λ (u : Node). Mem u l) (made n y e) (mem_numbers y l m)), h)

  nodup_numbers : (l : List Node) → Nodup l → Nodup (numbers kind l)
  unfolding numbers
  nodup_numbers [] d = tt
  nodup_numbers (n ∷ l) d = nodup_add n l d (nodup_numbers l d.1) (kind n) refl

-- the checks and the bits of a list
abbrev pub check_of : Node → Option ℕ
check_of (check c) = Some c
check_of (bit b) = None

abbrev pub bit_of : Node → Option ℕ
bit_of (check c) = None
bit_of (bit b) = Some b

abbrev pub checks_among : List Node → List ℕ
checks_among = numbers check_of

abbrev pub bits_of : List Node → List ℕ
bits_of = numbers bit_of

check_made : (n : Node) (x : ℕ) → check_of n ≡ Some x → check x ≡ n
check_made (check c) x e = let same : c ≡ x = cc in ap check (sym same)
check_made (bit b) x e = absurd (none-some x e)

bit_made : (n : Node) (x : ℕ) → bit_of n ≡ Some x → bit x ≡ n
bit_made (check c) x e = absurd (none-some x e)
bit_made (bit b) x e = let same : b ≡ x = cc in ap bit (sym same)

pub both : (l : List Node) → length l ≡ length (checks_among l) + length (bits_of l)
unfolding numbers
both [] = refl
both (check c ∷ l) = omega (arith, both l)
both (bit b ∷ l) = omega (arith, both l)

-- the checks cs and the bits bs in turn, and then the check z
abbrev pub front : List ℕ → ℕ → ℕ
front [] z = z
front (c ∷ cs) z = c

unfoldable pub Ring : Bipartite → ℕ → List ℕ → List ℕ → Type 0
Ring G z [] [] = Unit {0}
Ring G z [] (b ∷ bs) = ⊥
Ring G z (c ∷ cs) [] = ⊥
Ring G z (c ∷ cs) (b ∷ bs) = Joined G c b × Joined G (front cs z) b × Ring G z cs bs

ring_of : (G : Bipartite) (z c : ℕ) (l : List Node) → Walk G (check c ∷ l) → Adj G (last (check c) l) (check z) → Ring G z (c ∷ checks_among l) (bits_of l)
unfolding Adj Ring numbers
ring_of G z c [] w a = absurd a
ring_of G z c (check d ∷ l) w a = absurd w.0.0
ring_of G z c (bit b ∷ []) w a = (w.0.0, a, tt)
ring_of G z c (bit b ∷ bit d ∷ l) w a = absurd w.1.0.0
ring_of G z c (bit b ∷ check d ∷ l) w a = (w.0.0, w.1.0.0, ring_of G z d l w.1.1 a)

module _ (G : Bipartite) (z : ℕ) where
  ring_length : (cs bs : List ℕ) → Ring G z cs bs → length cs ≡ length bs
  unfolding Ring
  ring_length [] [] r = refl
  ring_length [] (b ∷ bs) r = absurd r
  ring_length (c ∷ cs) [] r = absurd r
  ring_length (c ∷ cs) (b ∷ bs) r = ap suc (ring_length cs bs r.2)

  ring_forth : (cs bs : List ℕ) → Ring G z cs bs → (k : ℕ) → k < length cs → Joined G (get_or cs k 0) (get_or bs k 0)
  unfolding Ring
  ring_forth [] bs r k h = absurd (omega arith)
  ring_forth (c ∷ cs) [] r k h = absurd r
  ring_forth (c ∷ cs) (b ∷ bs) r zero h = r.0
  ring_forth (c ∷ cs) (b ∷ bs) r (suc k) h = ring_forth cs bs r.2 k (omega arith)

  ring_back : (cs bs : List ℕ) → Ring G z cs bs → (k : ℕ) → suc k < length cs → Joined G (get_or cs (suc k) 0) (get_or bs k 0)
  unfolding Ring
  ring_back [] bs r k h = absurd (omega arith)
  ring_back (c ∷ cs) [] r k h = absurd r
  ring_back (c ∷ []) (b ∷ bs) r k h = absurd (omega arith)
  ring_back (c ∷ d ∷ cs) (b ∷ bs) r zero h = r.1
  ring_back (c ∷ d ∷ cs) (b ∷ bs) r (suc k) h = ring_back (d ∷ cs) bs r.2 k (omega arith)

  ring_closes : (c : ℕ) (cs bs : List ℕ) → Ring G z (c ∷ cs) bs → Joined G z (get_or bs (length cs) 0)
  unfolding Ring
  ring_closes c cs [] r = absurd r
  ring_closes c [] (b ∷ bs) r = r.1
  ring_closes c (d ∷ cs) (b ∷ bs) r = ring_closes d cs bs r.2

-- what a short cycle of the graph gives: a simple cycle as the document writes it
pub record Short (G : Bipartite) (m : ℕ) : Type 0 where
  pub n : ℕ
  pub cs : List ℕ
  pub bs : List ℕ
  pub cycle : SimpleCycle G n cs bs
  pub fits : 2 * n ≤ m

module _ (G : Bipartite) where
  -- a closed walk that starts at the check c, its vertices distinct: its checks and its bits form a simple cycle
  pub walk_cycle : (c : ℕ) (l : List Node) → Walk G (check c ∷ l) → Adj G (last (check c) l) (check c) → Nodup (check c ∷ l) → 3 ≤ length (check c ∷ l)
      → SimpleCycle G (length (checks_among (check c ∷ l))) (checks_among (check c ∷ l)) (bits_of (check c ∷ l))
  unfolding numbers
  walk_cycle c l w a d long =
      let cs : List ℕ = c ∷ checks_among l in
      let bs : List ℕ = bits_of l in
      let r : Ring G c cs bs = ring_of G c c l w a in
      let e : length cs ≡ length bs = ring_length G c cs bs r in
      let s : length (check c ∷ l) ≡ length cs + length bs = both (check c ∷ l) in
      record {
        least = omega arith;
        n_checks = refl;
        n_bits = sym e;
        forth = ring_forth G c cs bs r;
        back = ring_back G c cs bs r;
        closes = ring_closes G c c (checks_among l) bs r;
        checks_differ = nodup_get_or cs 0 (nodup_numbers check_of check check_made (check c ∷ l) d);
        bits_differ = λ i j h k. nodup_get_or bs 0 (nodup_numbers bit_of bit bit_made (check c ∷ l) d) i j h (omega arith);
      }

  from_check : (m c : ℕ) (l : List Node) → Walk G (check c ∷ l) → Adj G (last (check c) l) (check c) → Nodup (check c ∷ l)
      → 3 ≤ length (check c ∷ l) → length (check c ∷ l) ≤ m → Short G m
  from_check m c l w a d long short =
      let y = walk_cycle c l w a d long in
      record {
        n = length (checks_among (check c ∷ l));
        cs = checks_among (check c ∷ l);
        bs = bits_of (check c ∷ l);
        cycle = y;
        fits = omega (arith, both (check c ∷ l), y.n_bits);
      }

  pub short_cycle : {m : ℕ} → Cycle G m → Short G m
  unfolding Adj
  short_cycle {m} y = go y.start y.rest y.closed y.distinct y.long y.short
    where
      go : (u : Node) (l : List Node) → Walk G (u ∷ l ++ u ∷ []) → Nodup (u ∷ l) → 3 ≤ length (u ∷ l) → length (u ∷ l) ≤ m → Short G m
      go (check c) l w d h k = from_check m c l (walk_left G (check c ∷ l) (check c ∷ []) w) (last_adj G (check c) l (check c) [] w) d h k
      go (bit b) [] w d h k = absurd (omega arith)
      go (bit b) (bit a ∷ l) w d h k = absurd w.0.0
      go (bit b) (check c ∷ l) w d h k = from_check m c (l ++ bit b ∷ []) w.1 (rw last_append w.0.0) (nodup_turn (bit b) (check c ∷ l) d) (rw length-append (omega arith)) (rw length-append (omega arith))

  -- a graph that passes t has no cycle of fewer than t edges
  pub passes_none : (t m : ℕ) → Passes G t → m < t → Cycle G m → ⊥
  unfolding Passes
  passes_none t m p h y = let s : Short G m = short_cycle y in omega (arith, p s.n s.cs s.bs s.cycle)

  -- there is one girth at most: of two shortest cycles neither is shorter than the other
  pub one_girth : {g h : ℕ} → IsGirth G g → IsGirth G h → g ≡ h
  unfolding Passes
  one_girth a b =
      let p = a.none_shorter b.n b.checks b.bits b.cycle in
      let q = b.none_shorter a.n a.checks a.bits a.cycle in
      omega (arith, p, q, a.edges, b.edges)

-- no two checks join the same two bits: girth 6 at least
pub passes_6 : (G : Bipartite) → ((c d a b : ℕ) → Joined G c a → Joined G d a → Joined G d b → Joined G c b → c ≢ d → a ≢ b → ⊥) → Passes G 6
unfolding Passes
passes_6 G apart zero cs bs y = absurd (omega (arith, y.least))
passes_6 G apart (suc zero) cs bs y = absurd (omega (arith, y.least))
passes_6 G apart (suc (suc zero)) cs bs y =
    absurd (apart (get_or cs 0 0) (get_or cs 1 0) (get_or bs 0 0) (get_or bs 1 0) (y.forth 0 (omega arith)) (y.back 0 (omega arith)) (y.forth 1 (omega arith)) y.closes (y.checks_differ 0 1 (omega arith) (omega arith)) (y.bits_differ 0 1 (omega arith) (omega arith)))
passes_6 G apart (suc (suc (suc n))) cs bs y = omega arith

-- and back: at 6 no two checks join the same two bits
pub passes_apart : (G : Bipartite) → Passes G 6 → (c d a b : ℕ) → Joined G c a → Joined G d a → Joined G d b → Joined G c b → c ≢ d → a ≢ b → ⊥
unfolding Passes
passes_apart G passes c d a b ca da db cb cd ab = omega (arith, passes 2 (c ∷ d ∷ []) (a ∷ b ∷ []) square)
  where
    forth : (k : ℕ) → k < 2 → Joined G (get_or (c ∷ d ∷ []) k 0) (get_or (a ∷ b ∷ []) k 0)
    forth zero h = ca
    forth (suc zero) h = db
    forth (suc (suc k)) h = absurd (let z : ⊥ = omega arith in z)

    back : (k : ℕ) → suc k < 2 → Joined G (get_or (c ∷ d ∷ []) (suc k) 0) (get_or (a ∷ b ∷ []) k 0)
    back zero h = da
    back (suc k) h = absurd (let z : ⊥ = omega arith in z)

    differ : (x y : ℕ) → x ≢ y → (i j : ℕ) → i < j → j < 2 → get_or (x ∷ y ∷ []) i 0 ≢ get_or (x ∷ y ∷ []) j 0
    differ x y n zero zero h k = absurd (let z : ⊥ = omega arith in z)
    differ x y n zero (suc zero) h k = n
    differ x y n (suc i) (suc zero) h k = absurd (let z : ⊥ = omega arith in z)
    differ x y n i (suc (suc j)) h k = absurd (let z : ⊥ = omega arith in z)
    differ x y n (suc i) zero h k = absurd (let z : ⊥ = omega arith in z)

    square : SimpleCycle G 2 (c ∷ d ∷ []) (a ∷ b ∷ [])
    square =
        record {
          least = omega arith;
          n_checks = refl;
          n_bits = refl;
          forth = forth;
          back = back;
          closes = cb;
          checks_differ = differ c d cd;
          bits_differ = differ a b ab;
        }
