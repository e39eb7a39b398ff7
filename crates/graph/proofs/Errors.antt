-- Where two codewords differ is a stopping set, so few erasures and errors leave at most one codeword that fits. Assumes nothing.
use Prim.Native.Nat.{ℕ, ◌+◌, ◌%◌, ◌≤◌, ◌<◌}
use mathlib.Core.Path.{◌≡◌, refl, sym, ap, ◌∙◌}
use mathlib.Core.Logic.{◌≢◌, inl, inr}
use mathlib.Core.Bool.{true, false, not, ◌||◌, and-false}
use mathlib.Core.List.{List, [], ◌∷◌}
use native.Mathlib.Omega.{arith}
use borrow.Author.Tests.{eqb-true, eqb-false, eq-eqb, ne_eqb, not-false}
use lib.ListN.{length, get_or}
use lib.Seq.{ext_get_or}
use Rattle.graph.specs.Count.{below, one, count, Mem}
use Rattle.graph.specs.Graph.{Bipartite, bits_of}
use Rattle.graph.specs.Girth.{Passes}
use Rattle.graph.specs.Stopping.{Stopping, ThreeChecks, Least}
use Rattle.graph.specs.Erasure.{erased, total, parity, Codeword, largest, Solution}
use Rattle.graph.specs.Filling.{filled_word, clash, erasures}
use Rattle.graph.specs.Errors.{differs, wrong, errors}
use Rattle.graph.proofs.Decide.{both_ways, by_bool}
use Rattle.graph.proofs.Count.{count_mono, count_none, count_or}
use Rattle.graph.proofs.Neighbours.{bit_joined}
use Rattle.graph.proofs.Tree.{stopping_least}
use Rattle.graph.proofs.Peeling.{erasures_count}
use Rattle.graph.proofs.Filling.{filled_word_solves}
use Rattle.graph.proofs.Recovery.{few_filled}

pub same : (u v : List ℕ) (b : ℕ) → differs u v b ≡ false → get_or u b 0 ≡ get_or v b 0
same u v b e = eqb-true (get_or u b 0) (get_or v b 0) (not-false _ e)

pub unlike : (u v : List ℕ) (b : ℕ) → differs u v b ≡ true → get_or u b 0 ≢ get_or v b 0
unlike u v b e q = both_ways e (ap not (eq-eqb (get_or u b 0) (get_or v b 0) q))

-- sums of bits differ in parity by the number of places where the words differ
pub total_differs : (u v l : List ℕ) → ((b : ℕ) → Mem b l → (get_or u b 0 < 2) × (get_or v b 0 < 2)) → total u l % 2 ≡ (total v l + count (differs u v) l) % 2
unfolding total count
total_differs u v [] h = refl
total_differs u v (x ∷ l) h =
    let rest = total_differs u v l (λ b m. h b (inr m)) in
    let low = h x (inl refl) in
    by_bool (differs u v x)
    (λ e. omega (arith, unlike u v x e, ap one e))
    (λ e. omega (arith, same u v x e, ap one e))

-- where two codewords differ is a stopping set
pub difference_stops : (G : Bipartite) (u v : List ℕ) → Codeword G u → Codeword G v → Stopping G (differs u v)
unfolding Stopping parity
difference_stops G u v code-u code-v c h e =
    let bits = total_differs u v (bits_of G c) (λ b m. let low = (bit_joined G c b h m).bit_in in (code-u.known b low, code-v.known b low)) in
    omega (arith, code-u.even c h, code-v.even c h)

-- a place where two words differ is lost in what was read, or wrong for one of them
fits_neither : (u v r : List ℕ) (b : ℕ) → differs u v b ≡ true → (erased r b || (wrong u r b || wrong v r b)) ≡ true
fits_neither u v r b e =
    by_bool (erased r b)
    (λ l. rw l)
    (λ l.
    rw l
    (by_bool (differs u r b)
    (λ p. rw p)
    (λ p. rw p (ap not (ne_eqb _ _ λ q. unlike u v b e (same u r b p ∙ sym q))))))

differing : (u v r : List ℕ) → count (differs u v) (below (length r)) ≤ erasures r + (errors u r + errors v r)
unfolding errors
differing u v r =
    let l : List ℕ = below (length r) in
    omega (
      arith,
      erasures_count r,
      count_mono (differs u v) (λ b. erased r b || (wrong u r b || wrong v r b)) l (λ b m. fits_neither u v r b),
      count_or (erased r) (λ b. wrong u r b || wrong v r b) l,
      count_or (wrong u r) (wrong v r) l,
    )

module _ (G : Bipartite) {t n : ℕ} (least : Least t n) (passes : Passes G t) (three : ThreeChecks G)
    (u v r : List ℕ) (code-u : Codeword G u) (code-v : Codeword G v) (len : length r ≡ length v) where
  -- AT MOST ONE codeword fits what was read, where erasures and both words' errors are fewer than the least stopping set has bits
  pub at_most_one : erasures r + (errors u r + errors v r) < n → u ≡ v
  at_most_one few =
      ext_get_or 0 u v (code-u.same_length ∙ sym code-v.same_length) λ b h.
      by_bool (differs u v b)
      (λ e.
      let low : b < G.bits = omega (arith, code-u.same_length) in
      let many = stopping_least G (differs u v) least passes three (difference_stops G u v code-u code-v) b low e in
      absurd (omega (arith, differing u v r, ap (λ (k : ℕ). count (differs u v) (below k)) (len ∙ code-v.same_length))))
      (same u v b)

  -- so where one fits without an error, another does not with fewer than that
  pub no_error : errors u r ≡ 0 → erasures r + errors v r < n → errors v r ≡ 0
  no_error fits few = ap (λ (x : List ℕ). errors x r) (sym (at_most_one (omega arith))) ∙ fits

-- a word fits itself without an error
pub errors_self : (w : List ℕ) → errors w w ≡ 0
unfolding errors
errors_self w = count_none (wrong w w) (below (length w)) (λ b m. rw (eq-eqb (get_or w b 0) (get_or w b 0) refl) (and-false (not (erased w b))))

-- a solution without an erasure left is a codeword, and fits without an error
module _ (G : Bipartite) (w p : List ℕ) (len : length w ≡ G.bits) (bytes : (b : ℕ) → get_or w b 0 ≤ 2) (sol : Solution G w p) (all : (b : ℕ) → largest G w b ≡ false) where
  solution_codeword : Codeword G p
  solution_codeword =
      record {
        same_length = sol.same_length ∙ len;
        known = λ b h.
            by_bool (erased w b)
            (λ e. sol.filled b e (all b))
            (λ e. omega (arith, sol.known b e, bytes b, eqb-false (get_or w b 0) 2 e));
        even = λ c h. sol.even c h (count_none (largest G w) (bits_of G c) (λ b m. all b));
      }

  solution_fits : errors p w ≡ 0
  unfolding errors
  solution_fits =
      count_none (wrong p w) (below (length w)) λ b m.
      by_bool (erased w b) (λ e. rw e) (λ e. rw e (ap not (eq-eqb _ _ (sol.known b e))))

-- NO VALUES FIT a word with few erasures and errors, but some error
pub errors_clash : (G : Bipartite) {t n : ℕ} → Least t n → Passes G t → ThreeChecks G → (v w : List ℕ) → Codeword G v → length w ≡ length v → ((b : ℕ) → get_or w b 0 ≤ 2)
    → 1 ≤ errors v w → erasures w + errors v w < n → clash G (filled_word G w) ≡ true
errors_clash G least passes three v w code len bytes some few =
    let long : length w ≡ G.bits = len ∙ code.same_length in
    let all = few_filled G least passes three w long (omega arith) in
    by_bool (clash G (filled_word G w))
    (λ e. e)
    (λ e.
    let sol = filled_word_solves G w e in
    let filled = solution_codeword G w (filled_word G w) long bytes sol all in
    absurd (omega (arith, no_error G least passes three (filled_word G w) v w filled code len (solution_fits G w (filled_word G w) long bytes sol all) few)))
