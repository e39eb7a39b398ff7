-- Laws of filling words: the filled word is the one solution where there is one, and a damaged codeword is always filled back but for U.
-- Assumes nothing.
use Prim.Native.Nat.{ℕ, zero, suc, ◌+◌, ◌%◌, ◌≤◌, ◌<◌}
use mathlib.Core.Path.{◌≡◌, refl, sym, ap, ◌∙◌, fun_ext}
use mathlib.Core.Logic.{◌↔◌, ◌≢◌, inl, inr}
use mathlib.Core.Bool.{Bool, true, false, cond}
use mathlib.Core.List.{List, [], ◌∷◌, map}
use native.Mathlib.Omega.{arith}
use borrow.Author.Tests.{eqb-true, eqb-false, eq-eqb, ne_eqb}
use lib.Dec.{eqb}
use lib.ListN.{length, get_or, set, length-set, get_or-eq_default}
use lib.Seq.{get_or-set_same, get_or-set_other, ext_get_or}
use Rattle.graph.specs.Count.{below, one, count, Mem}
use Rattle.graph.specs.Graph.{Bipartite, bits_of}
use Rattle.graph.specs.Stopping.{Stopping}
use Rattle.graph.specs.Erasure.{erased, total, parity, Damaged, any, only, peel, peels, largest, Solution}
use Rattle.graph.specs.Filling.{Derived, forced, fill_round, fill_rounds, filled_word, odd_check, clash, erasures, filled_count, left_count}
use Rattle.graph.proofs.Decide.{both_ways, by_bool, by_eq, by_le, and_left, and_right, and_both, same_bool}
use Rattle.graph.proofs.Count.{count_mono, count_mem, count_none, get_or_map_below, length_map_below}
use Rattle.graph.proofs.Peeling.{any_true, any_false, only_mem, only_once, erased_low, peel_within, peel_keeps, largest_stopping, largest_contains, filled_and_left}

-- Sums over the bits of a check, where two words have the same parity outside a set

module _ (v p : List ℕ) (S : ℕ → Bool) (same : (b : ℕ) → S b ≡ false → get_or v b 0 % 2 ≡ get_or p b 0 % 2) where
  pub total_none : (l : List ℕ) → count S l ≡ 0 → total v l % 2 ≡ total p l % 2
  unfolding count total
  total_none [] h = refl
  total_none (x ∷ l) h =
      by_bool (S x)
      (λ e. absurd (omega (arith, ap one e)))
      (λ e. omega (arith, total_none l (omega (arith, ap one e)), same x e))

  -- where b is the only bit of the set in the list, the sums differ by what they have there
  pub total_one : (b : ℕ) (l : List ℕ) → count S l ≡ 1 → Mem b l → S b ≡ true → get_or p b 0 ≡ 2
      → total v l % 2 ≡ (total p l + get_or v b 0) % 2
  unfolding count total
  total_one b [] h m s z = absurd m
  total_one b (x ∷ l) h (inl q) s z = rw (← q) (omega (arith, total_none l (omega (arith, ap one (sym (ap S q) ∙ s)))))
  total_one b (x ∷ l) h (inr m) s z =
      by_bool (S x)
      (λ e. absurd (omega (arith, ap one e, count_mem S b l m s)))
      (λ e. omega (arith, total_one b l (omega (arith, ap one e)) m s z, same x e))

-- Rounds

module _ (G : Bipartite) (w : List ℕ) where
  -- where a check below n has b as its only erasure, the forced value is the parity of such a check; else it is 2
  forced_some : (n b : ℕ) → any n (λ c. only G (erased w) c b) ≡ true
      → (c : ℕ) × (c < n) × (only G (erased w) c b ≡ true) × (forced G w n b ≡ parity G w c)
  unfolding any forced
  forced_some zero b e = both_ways {t = false} e refl
  forced_some (suc n) b e =
      by_bool (only G (erased w) n b)
      (λ q. (n, omega arith, q, rw q))
      (λ q. let r = forced_some n b (rw q at e) in (r.0, omega arith, r.2, rw q r.3))

  forced_none : (n b : ℕ) → any n (λ c. only G (erased w) c b) ≡ false → forced G w n b ≡ 2
  unfolding any forced
  forced_none zero b e = refl
  forced_none (suc n) b e =
      by_bool (only G (erased w) n b)
      (λ q. both_ways {t = true} refl (rw q at e))
      (λ q. rw q (forced_none n b (rw q at e)))

  forced_le : (n b : ℕ) → forced G w n b ≤ 2
  unfolding parity
  forced_le n b =
      by_bool (any n (λ c. only G (erased w) c b))
      (λ e. omega (arith, (forced_some n b e).3))
      (λ e. omega (arith, forced_none n b e))

  length_round : length (fill_round G w) ≡ length w
  unfolding fill_round
  length_round = length_map_below _ (length w)

  round_at : (b : ℕ) → b < length w → get_or (fill_round G w) b 0 ≡ cond (erased w b) (forced G w G.checks b) (get_or w b 0)
  unfolding fill_round
  round_at b h = get_or_map_below 0 _ (length w) b h

  round_known : (b : ℕ) → erased w b ≡ false → get_or (fill_round G w) b 0 ≡ get_or w b 0
  round_known b e =
      by_le (length w) b
      (λ h. get_or-eq_default (fill_round G w) 0 (omega (arith, length_round)) ∙ sym (get_or-eq_default w 0 h))
      (λ h. round_at b h ∙ rw e refl)

  round_erased : (b : ℕ) → erased w b ≡ true → get_or (fill_round G w) b 0 ≡ forced G w G.checks b
  round_erased b e = round_at b (erased_low w b e) ∙ rw e refl

  -- the erasures after a round on the word are those that a round leaves of the set of its erasures
  erased_round : (b : ℕ) → erased (fill_round G w) b ≡ peel G (erased w) b
  unfolding peel parity
  erased_round b =
      by_bool (erased w b)
      (λ e.
      by_bool (any G.checks (λ c. only G (erased w) c b))
      (λ q. ne_eqb (get_or (fill_round G w) b 0) 2 (λ z. omega (arith, round_erased b e, (forced_some G.checks b q).3)) ∙ rw (e, q) refl)
      (λ q. eq-eqb (get_or (fill_round G w) b 0) 2 (round_erased b e ∙ forced_none G.checks b q) ∙ rw (e, q) refl))
      (λ e. ap (λ (x : ℕ). eqb x 2) (round_known b e) ∙ rw e refl)

erased_rounds : (G : Bipartite) (w : List ℕ) (k : ℕ) → erased (fill_rounds G k w) ≡ peels G k (erased w)
unfolding fill_rounds peels
erased_rounds G w zero = refl
erased_rounds G w (suc k) = fun_ext (erased_round G (fill_rounds G k w)) ∙ ap (peel G) (erased_rounds G w k)

-- what the filled word leaves erased is U
pub erased_filled_word : (G : Bipartite) (w : List ℕ) → erased (filled_word G w) ≡ largest G w
unfolding filled_word largest
erased_filled_word G w = erased_rounds G w (length w)

-- Odd checks without an erasure

module _ (G : Bipartite) (w : List ℕ) (c : ℕ) where
  pub odd_check_law : count (erased w) (bits_of G c) ≡ 0 → parity G w c ≡ 1 → odd_check G w c ≡ true
  unfolding odd_check
  odd_check_law h o = and_both _ _ (eq-eqb _ 0 h) (eq-eqb _ 1 o)

  odd_parts : odd_check G w c ≡ true → (count (erased w) (bits_of G c) ≡ 0) × (parity G w c ≡ 1)
  unfolding odd_check
  odd_parts e = (
    eqb-true _ 0 (and_left _ (eqb (parity G w c) 1) e),
    eqb-true _ 1 (and_right (eqb (count (erased w) (bits_of G c)) 0) _ e),
  )

  pub not_odd_check : (count (erased w) (bits_of G c) ≡ 0 → parity G w c ≢ 1) → odd_check G w c ≡ false
  not_odd_check n = by_bool (odd_check G w c) (λ e. let r = odd_parts e in absurd (n r.0 r.1)) (λ e. e)

-- Words on the way

-- p has the known bytes of w, and 0, 1 or 2 at its erasures
pub record Completes (w p : List ℕ) : Type 0 where
  pub kept : (b : ℕ) → erased w b ≡ false → get_or p b 0 ≡ get_or w b 0
  pub small : (b : ℕ) → erased w b ≡ true → get_or p b 0 ≤ 2

module _ (G : Bipartite) (w : List ℕ) where
  pub derived_start : Derived G w w
  derived_start =
      record {
        same_length = refl;
        within = λ b e. e;
        keeps = (largest_stopping G w).within;
        agrees = λ v sol b e. ap (λ (x : ℕ). x % 2) (sol.known b e);
      }

  module _ (p : List ℕ) (good : Derived G w p) (c : ℕ) (low : c < G.checks) where
    -- a check with at most one erasure touches no bit of U
    untouched : count (erased p) (bits_of G c) ≤ 1 → count (largest G w) (bits_of G c) ≡ 0
    unfolding Stopping
    untouched few =
        by_eq (count (largest G w) (bits_of G c)) 1
        (λ q. absurd ((largest_stopping G w).stops c low q))
        (λ q. omega (arith, count_mono (largest G w) (erased p) (bits_of G c) (λ x _. good.keeps x)))

    -- an odd check without an erasure leaves no solution
    pub odd_none : count (erased p) (bits_of G c) ≡ 0 → parity G p c ≡ 1 → (v : List ℕ) → Solution G w v → ⊥
    unfolding parity
    odd_none h odd v sol =
        omega (arith, sol.even c low (untouched (omega arith)), total_none v p (erased p) (good.agrees v sol) (bits_of G c) h)

    -- the only erasure of a check is not in U, and every solution has the check's parity there
    module _ (once : count (erased p) (bits_of G c) ≡ 1) (b : ℕ) (m : Mem b (bits_of G c)) where
      outside : largest G w b ≡ false
      outside =
          by_bool (largest G w b)
          (λ e. absurd (omega (arith, count_mem (largest G w) b (bits_of G c) m e, untouched (omega arith))))
          (λ e. e)

      pub forced_value : erased p b ≡ true → (v : List ℕ) → Solution G w v → get_or v b 0 ≡ parity G p c
      unfolding parity
      forced_value e v sol =
          omega (
            arith,
            sol.even c low (untouched (omega arith)),
            sol.filled b (good.within b e) outside,
            total_one v p (erased p) (good.agrees v sol) b (bits_of G c) once m e (eqb-true (get_or p b 0) 2 e),
          )

      -- so it may be filled with any byte of that parity
      pub derived_set : (x : ℕ) → erased p b ≡ true → x % 2 ≡ parity G p c → Derived G w (set p b x)
      derived_set x e par =
          record {
            same_length = length-set p b x ∙ good.same_length;
            within = λ a l. by_eq a b (λ q. good.within a (rw q e)) (λ q. good.within a (rw (other a q) at l));
            keeps = λ a s. by_eq a b (λ q. both_ways (rw q at s) outside) (λ q. rw (other a q) (good.keeps a s));
            agrees = λ v sol a k.
                by_eq a b
                (λ q. rw (q, get_or-set_same p b x 0 (erased_low p b e)) (omega (arith, forced_value e v sol)))
                (λ q. rw (other a q) (good.agrees v sol a (rw (other a q) at k)));
          }
        where
          other : (a : ℕ) → a ≢ b → get_or (set p b x) a 0 ≡ get_or p a 0
          other a q = get_or-set_other p b a x 0 q

  derived_round : (p : List ℕ) → Derived G w p → Derived G w (fill_round G p)
  unfolding parity
  derived_round p good =
      record {
        same_length = length_round G p ∙ good.same_length;
        within = λ b l. good.within b (peel_within G (erased p) b (sym (erased_round G p b) ∙ l));
        keeps = λ b s. erased_round G p b ∙ peel_keeps G (erased p) (largest G w) (largest_stopping G w).stops good.keeps b s;
        agrees = λ v sol b k.
            by_bool (erased p b)
            (λ e.
            by_bool (any G.checks (λ c. only G (erased p) c b))
            (λ q.
            let r = forced_some G p G.checks b q in
            let once = only_once G (erased p) r.0 b r.2 in
            let value = forced_value p good r.0 r.1 once b (only_mem G (erased p) r.0 b r.2) e v sol in
            omega (arith, round_erased G p b e, r.3))
            (λ q. both_ways (eq-eqb (get_or (fill_round G p) b 0) 2 (round_erased G p b e ∙ forced_none G p G.checks b q)) k))
            (λ e. rw (round_known G p b e) (good.agrees v sol b e));
      }

  derived_rounds : (k : ℕ) → Derived G w (fill_rounds G k w)
  unfolding fill_rounds
  derived_rounds zero = derived_start
  derived_rounds (suc k) = derived_round (fill_rounds G k w) (derived_rounds k)

  pub derived_filled_word : Derived G w (filled_word G w)
  unfolding filled_word
  derived_filled_word = derived_rounds (length w)

  -- Solutions

  -- two solutions are equal
  pub unique : (v v' : List ℕ) → Solution G w v → Solution G w v' → v ≡ v'
  unique v v' sol sol' =
      ext_get_or 0 v v' (sol.same_length ∙ sym sol'.same_length) λ b h.
      by_bool (largest G w b)
      (λ s. sol.left b s ∙ sym (sol'.left b s))
      (λ s.
      by_bool (erased w b)
      (λ l.
      let k : erased (filled_word G w) b ≡ false = ap (λ (f : ℕ → Bool). f b) (erased_filled_word G w) ∙ s in
      omega (arith, sol.filled b l s, sol'.filled b l s, derived_filled_word.agrees v sol b k, derived_filled_word.agrees v' sol' b k))
      (λ l. sol.known b l ∙ sym (sol'.known b l)))

  -- a clash on the way leaves no solution
  pub clash_none : (p : List ℕ) → Derived G w p → clash G p ≡ true → (v : List ℕ) → Solution G w v → ⊥
  unfolding clash
  clash_none p good e =
      let r = any_true G.checks (odd_check G p) e in
      let odd = odd_parts G p r.0 r.2 in
      odd_none p good r.0 r.1 odd.0 odd.1

  -- where no check has exactly one erasure, the erasures are U,
  pub left_largest : (p : List ℕ) → Derived G w p → Stopping G (erased p) → erased p ≡ largest G w
  left_largest p good stop =
      fun_ext λ b. same_bool _ _ (largest_contains G w (erased p) (record { within = good.within; stops = stop }) b) (good.keeps b)

  -- and where besides there is no clash, that word is a solution
  pub solves : (p : List ℕ) → Derived G w p → Completes w p → Stopping G (erased p) → clash G p ≡ false → Solution G w p
  unfolding clash parity
  solves p good tidy stop ok =
      let left = left_largest p good stop in
      record {
        same_length = good.same_length;
        known = tidy.kept;
        left = λ b s. eqb-true (get_or p b 0) 2 (good.keeps b s);
        filled = λ b l s.
            by_eq (get_or p b 0) 2
            (λ e. absurd (eqb-false (get_or p b 0) 2 (ap (λ (f : ℕ → Bool). f b) left ∙ s) e))
            (λ e. omega (arith, tidy.small b l));
        even = λ c low h.
            by_eq (parity G p c) 1
            (λ odd.
            both_ways (odd_check_law G p c (ap (λ (f : ℕ → Bool). count f (bits_of G c)) left ∙ h) odd) (any_false G.checks (odd_check G p) ok c low))
            (λ odd. omega arith);
      }

  rounds_complete : (k : ℕ) → Completes w (fill_rounds G k w)
  unfolding fill_rounds
  rounds_complete zero = record { kept = λ b e. refl; small = λ b e. omega (arith, eqb-true (get_or w b 0) 2 e) }
  rounds_complete (suc k) =
      let p : List ℕ = fill_rounds G k w in
      let tidy = rounds_complete k in
      record {
        kept = λ b e. round_known G p b (ap (λ (x : ℕ). eqb x 2) (tidy.kept b e) ∙ e) ∙ tidy.kept b e;
        small = λ b e.
            by_bool (erased p b)
            (λ l. omega (arith, round_erased G p b l, forced_le G p G.checks b))
            (λ l. omega (arith, round_known G p b l, tidy.small b e));
      }

  pub filled_word_stops : Stopping G (erased (filled_word G w))
  filled_word_stops = rw (erased_filled_word G w) (largest_stopping G w).stops

  pub filled_word_solves : clash G (filled_word G w) ≡ false → Solution G w (filled_word G w)
  unfolding filled_word
  filled_word_solves ok = solves (filled_word G w) derived_filled_word (rounds_complete (length w)) filled_word_stops ok

  -- v is the solution exactly where it is the filled word and that has no clash
  pub solution_exactly : (v : List ℕ) → Solution G w v ↔ ((clash G (filled_word G w) ≡ false) × (v ≡ filled_word G w))
  solution_exactly v = (
    λ sol.
        by_bool (clash G (filled_word G w))
        (λ e. absurd (clash_none (filled_word G w) derived_filled_word e v sol))
        (λ e. (e, unique v (filled_word G w) sol (filled_word_solves e))),
    λ r. rw r.1 (filled_word_solves r.0),
  )

  -- the filled word has a clash exactly where no values fit (refusal 20)
  pub no_solution : (clash G (filled_word G w) ≡ true) ↔ ((v : List ℕ) → Solution G w v → ⊥)
  no_solution = (
    clash_none (filled_word G w) derived_filled_word,
    λ none. by_bool (clash G (filled_word G w)) (λ e. e) (λ e. absurd (none (filled_word G w) (filled_word_solves e))),
  )

  -- any way to fill forced erasures until none is left ends at the filled word, or at a clash
  module _ (p : List ℕ) (good : Derived G w p) where
    pub ends_filled : Completes w p → Stopping G (erased p) → clash G p ≡ false → (clash G (filled_word G w) ≡ false) × (p ≡ filled_word G w)
    ends_filled tidy stop ok = (solution_exactly p).0 (solves p good tidy stop ok)

    pub ends_clash : clash G p ≡ true → clash G (filled_word G w) ≡ true
    ends_clash e = no_solution.1 (clash_none p good e)

-- Damaged codewords

module _ (G : Bipartite) (v w : List ℕ) (d : Damaged G v w) where
  -- a damaged codeword has no clash, and is filled back but for U;
  pub recovers : (clash G (filled_word G w) ≡ false) × ((b : ℕ) → largest G w b ≡ false → get_or (filled_word G w) b 0 ≡ get_or v b 0)
  unfolding parity
  recovers =
      let r = (solution_exactly G w u).0 sol in
      (r.0, λ b s. ap (λ (l : List ℕ). get_or l b 0) (sym r.1) ∙ outside b s)
    where
      put : ℕ → ℕ
      put b = cond (largest G w b) 2 (get_or v b 0)

      u : List ℕ
      u = map put (below (length v))

      at : (b : ℕ) → b < length v → get_or u b 0 ≡ put b
      at b h = get_or_map_below 0 put (length v) b h

      outside : (b : ℕ) → largest G w b ≡ false → get_or u b 0 ≡ get_or v b 0
      outside b s =
          by_le (length v) b
          (λ h. get_or-eq_default u 0 (omega (arith, length_map_below put (length v))) ∙ sym (get_or-eq_default v 0 h))
          (λ h. at b h ∙ rw s refl)

      bit : (b : ℕ) → get_or v b 0 < 2
      bit b =
          by_le (length v) b
          (λ h. omega (arith, get_or-eq_default v 0 h))
          (λ h. d.codeword.known b (omega (arith, d.codeword.same_length)))

      sol : Solution G w u
      sol =
          record {
            same_length = length_map_below put (length v) ∙ sym d.same_length;
            known = λ b l.
                by_bool (largest G w b)
                (λ s. both_ways ((largest_stopping G w).within b s) l)
                (λ s. outside b s ∙ d.kept b l);
            left = λ b s. at b (omega (arith, erased_low w b ((largest_stopping G w).within b s), d.same_length)) ∙ rw s refl;
            filled = λ b l s. omega (arith, outside b s, bit b);
            even = λ c low h.
                total_none u v (largest G w) (λ b s. ap (λ (x : ℕ). x % 2) (outside b s)) (bits_of G c) h ∙ d.codeword.even c low;
          }

  -- where U is empty, it is filled back whole
  pub recovers_whole : ((b : ℕ) → largest G w b ≡ false)
      → (clash G (filled_word G w) ≡ false) × (filled_word G w ≡ v) × (filled_count G w ≡ erasures w) × (left_count G w ≡ 0)
  unfolding left_count
  recovers_whole empty =
      let none = count_none (largest G w) (below (length w)) (λ b _. empty b) in (
        recovers.0,
        ext_get_or 0 (filled_word G w) v ((derived_filled_word G w).same_length ∙ d.same_length) (λ b _. recovers.1 b (empty b)),
        omega (arith, filled_and_left G w),
        none,
      )
