-- Laws of a round of bit flipping: what is computed is a round; a codeword stays; and where no two checks share two bits, a codeword with
-- one error comes back. Assumes nothing.
use Prim.Native.Nat.{ℕ, ◌-◌, ◌%◌, ◌<◌}
use mathlib.Core.Path.{◌≡◌, refl, sym, ap, subst, ◌∙◌}
use mathlib.Core.Logic.{◌≢◌, inl, inr}
use mathlib.Core.Bool.{Bool, true, false, not, ◌&&◌, and-false}
use mathlib.Core.List.{List, [], ◌∷◌}
use native.Mathlib.Omega.{arith}
use borrow.Author.Tests.{eqb-true, eq-eqb, ne_eqb, ltb-true, lt-ltb}
use lib.Dec.{eqb}
use lib.ListN.{length, get_or, get_or-eq_default}
use lib.Seq.{ext_get_or}
use Rattle.graph.specs.Count.{below, one, count, member, Mem}
use Rattle.graph.specs.Graph.{Bipartite, Joined, bits_of, checks_of}
use Rattle.graph.specs.Girth.{Passes}
use Rattle.graph.specs.Stopping.{ThreeChecks}
use Rattle.graph.specs.Erasure.{erased, parity, Codeword}
use Rattle.graph.specs.Errors.{differs, wrong, errors}
use Rattle.graph.specs.Flipping.{TwoOdd, Round, odd_checks, flips, flipped_bit, flipped_word, flipped_count}
use Rattle.graph.proofs.Decide.{by_bool, by_eq, by_le, and_right, and_both, same_bool}
use Rattle.graph.proofs.Count.{nodup_range, length_select, member_mem, mem_member, count_same, count_select, count_some, count_none, count_is, crowd, another, get_or_map_below, length_map_below}
use Rattle.graph.proofs.Neighbours.{mem_below, below_mem, bit_joined, joined_bit, check_joined, joined_check, bits_nodup, checks_nodup}
use Rattle.graph.proofs.Cycles.{passes_apart}
use Rattle.graph.proofs.Errors.{same, unlike, total_differs}

-- a check has a bit once, or not at all
pub bit_once : (G : Bipartite) (c b : ℕ) → c < G.checks → b < G.bits → count (λ x. eqb x b) (bits_of G c) ≡ one (G.joins c b)
bit_once G c b h k =
    count_is b (bits_of G c) (bits_nodup G c)
    ∙ ap one
    (same_bool (member b (bits_of G c)) (G.joins c b)
    (λ e. (bit_joined G c b h (member_mem b (bits_of G c) e)).edge)
    (λ e. mem_member b (bits_of G c) (joined_bit G c b (record { check_in = h; bit_in = k; edge = e }))))

-- odd checks, counted among all checks
pub odd_count : (G : Bipartite) (w : List ℕ) (b : ℕ) → odd_checks G w b ≡ count (λ c. G.joins c b && eqb (parity G w c) 1) (below G.checks)
unfolding odd_checks checks_of
odd_count G w b = count_select (λ c. eqb (parity G w c) 1) (λ c. G.joins c b) (below G.checks)

-- TWO OR MORE ODD CHECKS, and the test
module _ (G : Bipartite) (w : List ℕ) (b : ℕ) where
  odd : ℕ → Bool
  odd c = eqb (parity G w c) 1

  flips_two : b < G.bits → flips G w b ≡ true → TwoOdd G w b
  unfolding odd_checks odd
  flips_two h e =
      let many = ltb-true _ (odd_checks G w b) e in
      let (c, m, p) = count_some odd (checks_of G b) (omega arith) in
      let (d, n, q, apart) = another odd (checks_of G b) c (checks_nodup G b) (omega arith) m p in
      record {
        c = d;
        d = c;
        differ = apart;
        joins_c = check_joined G d b h n;
        joins_d = check_joined G c b h m;
        odd_c = eqb-true (parity G w d) 1 q;
        odd_d = eqb-true (parity G w c) 1 p;
      }

  two_flips : TwoOdd G w b → flips G w b ≡ true
  unfolding odd_checks odd
  two_flips t = lt-ltb _ (odd_checks G w b) (omega (arith, crowd (t.c ∷ t.d ∷ []) odd (checks_of G b) (checks_nodup G b) distinct both))
    where
      distinct : (Mem t.c (t.d ∷ []) → ⊥) × ((Mem t.d [] → ⊥) × Unit {0})
      distinct = (each, (λ m. m, tt))
        where
          each : Mem t.c (t.d ∷ []) → ⊥
          each (inl e) = t.differ e
          each (inr m) = m

      both : (x : ℕ) → Mem x (t.c ∷ t.d ∷ []) → Mem x (checks_of G b) × (odd x ≡ true)
      both x (inl e) = rw e (joined_check G t.c b t.joins_c, eq-eqb (parity G w t.c) 1 t.odd_c)
      both x (inr (inl e)) = rw e (joined_check G t.d b t.joins_d, eq-eqb (parity G w t.d) 1 t.odd_d)
      both x (inr (inr m)) = absurd m

-- the flipped word, bit by bit
flipped_bit_law : (G : Bipartite) (w : List ℕ) (b : ℕ) (t : Bool) → flips G w b ≡ t → b < length w → get_or (flipped_word G w) b 0 ≡ flipped_bit t (get_or w b 0)
unfolding flipped_word
flipped_bit_law G w b t e h = get_or_map_below 0 (λ b. flipped_bit (flips G w b) (get_or w b 0)) (length w) b h ∙ ap (λ (t : Bool). flipped_bit t (get_or w b 0)) e

flipped_length : (G : Bipartite) (w : List ℕ) → length (flipped_word G w) ≡ length w
unfolding flipped_word
flipped_length G w = length_map_below (λ b. flipped_bit (flips G w b) (get_or w b 0)) (length w)

flipped_is : (G : Bipartite) (w v : List ℕ) → length w ≡ length v → ((b : ℕ) → b < length w → flipped_bit (flips G w b) (get_or w b 0) ≡ get_or v b 0) → flipped_word G w ≡ v
flipped_is G w v len alike =
    ext_get_or 0 (flipped_word G w) v (flipped_length G w ∙ len) λ b h.
    let k : b < length w = omega (arith, flipped_length G w) in
    flipped_bit_law G w b (flips G w b) refl k ∙ alike b k

-- WHAT IS COMPUTED IS A ROUND
module _ (G : Bipartite) (w : List ℕ) (len : length w ≡ G.bits) (known : (b : ℕ) → b < length w → get_or w b 0 < 2) where
  pub flipped_round : Round G w (flipped_word G w) (flipped_count G w)
  unfolding flipped_count errors
  flipped_round =
      record {
        same_length = flipped_length G w;
        turned = λ b t. flipped_bit_law G w b true (two_flips G w b t) (omega (arith, len, t.joins_c.bit_in));
        others = λ b n.
            by_le (length w) b
            (λ h. get_or-eq_default (flipped_word G w) 0 (omega (arith, flipped_length G w)) ∙ sym (get_or-eq_default w 0 h))
            (λ h.
            by_bool (flips G w b)
            (λ e. absurd (n (flips_two G w b (omega (arith, len)) e)))
            (λ e. flipped_bit_law G w b false e h));
        number =
            ap (λ (n : ℕ). count (wrong w (flipped_word G w)) (below n)) (flipped_length G w)
            ∙ count_same (wrong w (flipped_word G w)) (flips G w) (below (length w)) (λ b m. told b (mem_below b (length w) m));
      }
    where
      told : (b : ℕ) → b < length w → wrong w (flipped_word G w) b ≡ flips G w b
      told b h =
          by_bool (flips G w b)
          (λ e.
          let x = flipped_bit_law G w b true e h in
          let low = known b h in
          and_both _ _ (ap not (ne_eqb (get_or (flipped_word G w) b 0) 2 (λ q. omega arith))) (ap not (ne_eqb (get_or w b 0) (get_or (flipped_word G w) b 0) (λ q. omega arith))) ∙ sym e)
          (λ e. rw (eq-eqb (get_or w b 0) (get_or (flipped_word G w) b 0) (sym (flipped_bit_law G w b false e h))) (and-false (not (erased (flipped_word G w) b))) ∙ sym e)

-- A CODEWORD STAYS
module _ (G : Bipartite) (v : List ℕ) (code : Codeword G v) where
  none_flips : (b : ℕ) → b < length v → flips G v b ≡ false
  none_flips b h =
      by_bool (flips G v b)
      (λ e. let t = flips_two G v b (omega (arith, code.same_length)) e in absurd (omega (arith, t.odd_c, code.even t.c t.joins_c.check_in)))
      (λ e. e)

  pub codeword_stays : (flipped_word G v ≡ v) × (flipped_count G v ≡ 0)
  unfolding flipped_count
  codeword_stays = (
    flipped_is G v v refl (λ b h. ap (λ (t : Bool). flipped_bit t (get_or v b 0)) (none_flips b h)),
    count_none (flips G v) (below (length v)) (λ b m. none_flips b (mem_below b (length v) m)),
  )

-- ONE ERROR
module _ (G : Bipartite) (v w : List ℕ) (code : Codeword G v) (len : length w ≡ length v) (known : (b : ℕ) → b < length w → get_or w b 0 < 2) (single : errors v w ≡ 1) where
  found : (a : ℕ) × Mem a (below (length w)) × (wrong v w a ≡ true)
  unfolding errors
  found = count_some (wrong v w) (below (length w)) (omega (arith, single))

  -- its place
  a : ℕ
  a = found.0

  a_in : a < length w
  unfolding a
  a_in = mem_below found.0 (length w) found.1

  a_low : a < G.bits
  a_low = omega (arith, a_in, len, code.same_length)

  a_differs : differs v w a ≡ true
  unfolding a
  a_differs = and_right (not (erased w found.0)) (differs v w found.0) found.2

  others_same : (b : ℕ) → b < length w → b ≢ a → differs v w b ≡ false
  unfolding a errors
  others_same b h n =
      by_bool (differs v w b)
      (λ e. absurd (omega (arith, single, crowd (found.0 ∷ b ∷ []) (wrong v w) (below (length w)) (nodup_range 0 (length w)) distinct (both e))))
      (λ e. e)
    where
      distinct : (Mem found.0 (b ∷ []) → ⊥) × ((Mem b [] → ⊥) × Unit {0})
      distinct = (each, (λ m. m, tt))
        where
          each : Mem found.0 (b ∷ []) → ⊥
          each (inl e) = n (sym e)
          each (inr m) = m

      both : differs v w b ≡ true → (x : ℕ) → Mem x (found.0 ∷ b ∷ []) → Mem x (below (length w)) × (wrong v w x ≡ true)
      both e x (inl q) = rw q (found.1, found.2)
      both e x (inr (inl q)) = rw q (below_mem b (length w) h, and_both _ _ (ap not (ne_eqb (get_or w b 0) 2 (λ r. omega (arith, known b h)))) e)
      both e x (inr (inr m)) = absurd m

  differs_is : (b : ℕ) → b < length w → differs v w b ≡ eqb b a
  differs_is b h =
      by_eq b a
      (λ e. subst (λ (x : ℕ). differs v w x ≡ true) (sym e) a_differs ∙ sym (eq-eqb b a e))
      (λ e. others_same b h e ∙ sym (ne_eqb b a e))

  -- the odd checks are those of bit a
  odd_joins : (c : ℕ) → c < G.checks → eqb (parity G w c) 1 ≡ G.joins c a
  unfolding parity
  odd_joins c h =
      let low : (b : ℕ) → Mem b (bits_of G c) → b < length w = λ b m. omega (arith, (bit_joined G c b h m).bit_in, len, code.same_length) in
      let sums = total_differs v w (bits_of G c) (λ b m. (code.known b (bit_joined G c b h m).bit_in, known b (low b m))) in
      let places = count_same (differs v w) (λ x. eqb x a) (bits_of G c) (λ b m. differs_is b (low b m)) in
      let p : parity G w c ≡ one (G.joins c a) % 2 = omega (arith, sums, places, code.even c h, bit_once G c a h a_low) in
      by_bool (G.joins c a)
      (λ e. eq-eqb (parity G w c) 1 (omega (arith, p, ap one e)) ∙ sym e)
      (λ e. ne_eqb (parity G w c) 1 (λ q. omega (arith, p, ap one e)) ∙ sym e)

  module _ (passes : Passes G 6) (three : ThreeChecks G) where
    a_flips : flips G w a ≡ true
    unfolding checks_of ThreeChecks
    a_flips =
        lt-ltb 1 (odd_checks G w a)
        (omega (
          arith,
          three a a_low,
          odd_count G w a,
          count_same _ (λ c. G.joins c a) (below G.checks) (λ c m. ap (λ (t : Bool). G.joins c a && t) (odd_joins c (mem_below c G.checks m)) ∙ twice (G.joins c a)),
          length_select (λ c. G.joins c a) (below G.checks),
        ))
      where
        twice : (t : Bool) → (t && t) ≡ t
        twice true = refl
        twice false = refl

    -- another bit with two odd checks would share them with bit a
    others_stay : (b : ℕ) → b < length w → b ≢ a → flips G w b ≡ false
    others_stay b h n =
        by_bool (flips G w b)
        (λ e.
        let t = flips_two G w b (omega (arith, len, code.same_length)) e in
        let to-a : (c : ℕ) → Joined G c b → parity G w c ≡ 1 → Joined G c a =
        λ c j q. record { check_in = j.check_in; bit_in = a_low; edge = sym (odd_joins c j.check_in) ∙ eq-eqb (parity G w c) 1 q } in
        absurd (passes_apart G passes t.c t.d a b (to-a t.c t.joins_c t.odd_c) (to-a t.d t.joins_d t.odd_d) t.joins_d t.joins_c t.differ (λ q. n (sym q))))
        (λ e. e)

    -- ONE ERROR IS PUT RIGHT
    pub one_restored : (flipped_word G w ≡ v) × (flipped_count G w ≡ 1)
    unfolding flipped_count
    one_restored = (
      flipped_is G w v len (λ b h.
          by_eq b a
          (λ e. ap (λ (t : Bool). flipped_bit t (get_or w b 0)) (ap (flips G w) e ∙ a_flips) ∙ turned_back b h e)
          (λ e. ap (λ (t : Bool). flipped_bit t (get_or w b 0)) (others_stay b h e) ∙ sym (same v w b (others_same b h e)))),
      count_same (flips G w) (λ x. eqb x a) (below (length w)) (λ b m.
          by_eq b a
          (λ e. ap (flips G w) e ∙ a_flips ∙ sym (eq-eqb b a e))
          (λ e. others_stay b (mem_below b (length w) m) e ∙ sym (ne_eqb b a e)))
          ∙ count_is a (below (length w)) (nodup_range 0 (length w))
          ∙ ap one (mem_member a (below (length w)) (below_mem a (length w) a_in)),
    )
      where
        turned_back : (b : ℕ) → b < length w → b ≡ a → 1 - get_or w b 0 ≡ get_or v b 0
        turned_back b h e = omega (arith, known b h, code.known b (omega (arith, len, code.same_length)), unlike v w b (subst (λ (x : ℕ). differs v w x ≡ true) (sym e) a_differs))
