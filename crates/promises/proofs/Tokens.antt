-- Tokens in words: the comparer's tests find the next token and the first wrong one, as row 21 says it, in both forms. Assumes nothing.
use Prim.Native.Nat.{ℕ, ◌+◌, ◌-◌, ◌%◌, ◌≤◌, ◌<◌}
use mathlib.Core.Path.{◌≡◌, refl, sym, ap, subst, ◌∙◌}
use mathlib.Core.Logic.{◌↔◌}
use mathlib.Core.Bool.{true, false}
use mathlib.Core.List.{List, [], ◌∷◌, ◌++◌}
use Rattle.std.specs.Prelude.{Some}
use native.Mathlib.Omega.{arith}
use borrow.Author.Tests.{lt-ltb, le-ltb, eqb-true, eq-eqb, ne_eqb}
use lib.Dec.{eqb}
use lib.ListN.{length, get_or, take, drop, length-append, get_or-eq_default}
use lib.Seq.{drop-cons, get_or-drop, get_or-take}
use Rattle.graph.proofs.Decide.{by_bool, by_le, both_ways}
use Rattle.decimal.specs.Decimal.{digit, decimal}
use Rattle.decimal.proofs.Digits.{decimal_ends}
use Rattle.tokens.specs.declared.Form.{Form}
use Rattle.tokens.specs.declared.Form.TheVariants.{Padded, Unpadded}
use Rattle.tokens.specs.Tokens.{blank, between, start, token_at, stop, Item, numeral, line_end, right, behind, mismatch}
use Rattle.tokens.proofs.Runs.{feed_unpadded, no_feed, start_le, token_end, token_stop, token_more, token_at_le, token_part, same_exactly, number_none}
use Rattle.tokens.proofs.ByPlace.{start_from, before_start, at_start, start_is, start_none, in_token, behind_token, token_is}
use Rattle.promises.specs.TurnedAway.{IsBlank, tab, line_feed, carriage_return, space, Between, IsToken, run, feed, NextToken, Says, FirstWrong, wrong, extra, early, go_on}

-- BLANK BYTES
blank_found : {b : ℕ} → IsBlank b → blank b ≡ true
unfolding blank
blank_found tab = refl
blank_found line_feed = refl
blank_found carriage_return = refl
blank_found space = refl

blank_is : (b : ℕ) → blank b ≡ true → IsBlank b
unfolding blank
blank_is b e =
    by_bool (eqb b 9) (λ t. subst IsBlank (sym (eqb-true b 9 t)) tab) λ p.
    by_bool (eqb b 10) (λ t. subst IsBlank (sym (eqb-true b 10 t)) line_feed) λ q.
    by_bool (eqb b 13) (λ t. subst IsBlank (sym (eqb-true b 13 t)) carriage_return) λ r.
    subst IsBlank (sym (eqb-true b 32 (rw (p, q, r) at e))) space

other_byte : (b : ℕ) → blank b ≡ false → IsBlank b → ⊥
other_byte b e h = both_ways (blank_found h) e

no_blank : (b : ℕ) → (IsBlank b → ⊥) → blank b ≡ false
no_blank b h = by_bool (blank b) (λ e. absurd (h (blank_is b e))) (λ e. e)

-- WHAT STANDS BETWEEN TOKENS
between_found : (form : Form) (b : ℕ) → Between form b → between form b ≡ true
unfolding between
between_found Padded b h = blank_found h
between_found Unpadded b h = sym (no_feed Unpadded b h.1) ∙ blank_found h.0

between_is : (form : Form) (b : ℕ) → between form b ≡ true → Between form b
unfolding between
between_is Padded b e = blank_is b e
between_is Unpadded b e =
    by_bool (eqb b 10) (λ t. both_ways (rw t at e) refl) (λ t. (blank_is b (rw t at e), λ q. both_ways (eq-eqb b 10 q) t))

-- and what does not: a byte that is not blank and, in the unpadded form, a line feed
kept_byte : (form : Form) (b : ℕ) → blank b ≡ false → between form b ≡ false
kept_byte form b e = sym (no_feed form b (λ q. other_byte b e (subst IsBlank (sym q) line_feed))) ∙ e

kept_feed : (b : ℕ) → b ≡ 10 → between Unpadded b ≡ false
kept_feed b e = sym (feed_unpadded Unpadded b refl e)

kept_blank : (b : ℕ) → between Padded b ≡ false → blank b ≡ false
unfolding between
kept_blank b e = e

-- no number is written as a line feed
feed_no_number : (n : ℕ) → 10 ∷ [] ≡ decimal n → ⊥
feed_no_number n e = go (decimal_ends n).0 (e ∙ (decimal_ends n).1)
  where
    go : (hs : List ℕ) → 10 ∷ [] ≡ hs ++ digit (n % 10) ∷ [] → ⊥
    go [] q = let d : 10 ≡ digit (n % 10) = cc in omega arith
    go (h ∷ hs) q = omega (arith, ap length q, length-append hs (digit (n % 10) ∷ []))

-- THE NEXT TOKEN, by places of the text
module _ (text : List ℕ) where
  blank_feed : (k : ℕ) → get_or text k 0 ≡ 10 → IsBlank (get_or text k 0)
  blank_feed k e = rw e line_feed

  first_byte : (first end : ℕ) (b : ℕ) → first < end → take (end - first) (drop first text) ≡ b ∷ [] → get_or text first 0 ≡ b
  first_byte first end b h e =
      let z : first + 0 ≡ first = omega arith in
      ap (λ (k : ℕ). get_or text k 0) (sym z) ∙ sym (get_or-drop first text 0 0) ∙ sym (get_or-take (end - first) (drop first text) 0 0 (omega arith)) ∙ ap (λ (l : List ℕ). get_or l 0 0) e

  one_byte : (first : ℕ) → first < length text → take (first + 1 - first) (drop first text) ≡ get_or text first 0 ∷ []
  one_byte first h =
      let z : first + 1 - first ≡ 1 = omega arith in
      rw (z, drop-cons text first 0 h)

  module _ (form : Form) where
    run_at : (at : ℕ) → at ≤ length text → start form text at < length text → blank (get_or text (start form text at) 0) ≡ false → NextToken form text at (start form text at) (stop form text at)
    run_at at h l e =
        let s = start form text at in
        record {
          onward = start_from form text at;
          between = λ k p q. between_is form (get_or text k 0) (before_start form text at k p q);
          token = run form (stop form text at) (omega (arith, ap length (token_more text s l e))) (λ k p q. other_byte (get_or text k 0) (in_token text s k p q))
              (λ q. blank_is (get_or text (stop form text at) 0) (behind_token text s (omega arith) q));
          inside = token_at_le text s (omega arith);
        }

    module _ (at first end : ℕ) (t : NextToken form text at first end) where
      begun : (form : Form) (end : ℕ) → IsToken text first form end → (first < end) × (between form (get_or text first 0) ≡ false)
      begun f e (run form end longer bytes whole) = (longer, kept_byte form (get_or text first 0) (no_blank (get_or text first 0) (bytes first (omega arith) longer)))
      begun f e (feed q) = (omega arith, kept_feed (get_or text first 0) q)

      inner : first < length text
      inner = omega (arith, (begun form end t.token).0, t.inside)

      starts : start form text at ≡ first
      starts = start_is form text at first t.onward inner (λ k p q. between_found form (get_or text k 0) (t.between k p q)) (begun form end t.token).1

      -- the token is right exactly where it says what is expected, and then reading goes on behind it
      right_exactly : (x : Item) → ((right form text at x ≡ true) ↔ Says text first end x) × (right form text at x ≡ true → behind form text at x ≡ end)
      right_exactly x = by_token form end x t.token starts t.inside
        where
          by_token : (form : Form) (end : ℕ) (x : Item) → IsToken text first form end → start form text at ≡ first → end ≤ length text
              → ((right form text at x ≡ true) ↔ Says text first end x) × (right form text at x ≡ true → behind form text at x ≡ end)
          by_token f e (numeral n) (run form end longer bytes whole) q inside =
              let ends = token_is text first end (omega arith) inside (λ k p q. no_blank (get_or text k 0) (bytes k p q)) (λ q. blank_found (whole q)) in
              let same_bytes = ap (token_at text) q ∙ sym (token_part text first end (sym ends)) in
              ((λ r. sym same_bytes ∙ (same_exactly _ _).0 r, λ says. (same_exactly _ _).1 (same_bytes ∙ says)), λ r. rw q ends)
          by_token f e line_end (run form end longer bytes whole) q inside =
              let no-feed-here : get_or text first 0 ≡ 10 → ⊥ = λ b. bytes first (omega arith) longer (blank_feed first b) in
              let wrong-here : right form text at line_end ≡ true → ⊥ = λ r. no-feed-here (eqb-true (get_or text first 0) 10 (rw q at r)) in
              ((λ r. absurd (wrong-here r), λ says. absurd (no-feed-here (first_byte first end 10 longer says))), λ r. absurd (wrong-here r))
          by_token f e (numeral n) (feed b) q inside =
              let none-there = ap (token_at text) q ∙ token_stop text first (omega arith) (blank_found (blank_feed first b)) in
              let wrong-here : right Unpadded text at (numeral n) ≡ true → ⊥ = λ r. both_ways r (sym (number_none _ n (ap length none-there))) in
              let one = one_byte first (omega arith) ∙ ap (λ (k : ℕ). k ∷ []) b in
              ((λ r. absurd (wrong-here r), λ says. absurd (feed_no_number n (sym one ∙ says))), λ r. absurd (wrong-here r))
          by_token f e line_end (feed b) q inside =
              ((λ r. one_byte first (omega arith) ∙ ap (λ (k : ℕ). k ∷ []) b, λ says. rw q (eq-eqb (get_or text first 0) 10 b)), λ r. rw q)

      right_not : (x : Item) → (Says text first end x → ⊥) → right form text at x ≡ false
      right_not x h = by_bool (right form text at x) (λ e. absurd (h ((right_exactly x).0.0 e))) (λ e. e)

    -- where the text has come to its end, no token is right
    none_right : (at : ℕ) (x : Item) → start form text at ≡ length text → right form text at x ≡ false
    none_right at (numeral n) e = sym (number_none _ n (ap length (ap (token_at text) e ∙ token_end text (length text) (omega arith))))
    none_right at line_end e = rw e (ne_eqb (get_or text (length text) 0) 10 (λ q. omega (arith, sym (get_or-eq_default text 0 {n = length text} (omega arith)) ∙ q)))

    -- THE COMPARER finds the first wrong token, or none
    pub found_wrong : (items : List Item) (at place : ℕ) → FirstWrong form text at items place → at ≤ length text → mismatch form text at items ≡ Some place
    unfolding mismatch
    found_wrong l a p (wrong at first end x xs t differ) h = rw (right_not at first end t x differ, starts at first end t)
    found_wrong l a p (extra at first end t) h = rw (starts at first end t, lt-ltb first (length text) (inner at first end t))
    found_wrong l a p (early at x xs all) h =
        let e = start_none form text at h (λ k p q. between_found form (get_or text k 0) (all k p q)) in
        rw (none_right at x e, e)
    found_wrong l a p (go_on at first end x xs place t says rest) h =
        let exactly = right_exactly at first end t x in
        let r = exactly.0.1 says in
        rw (r, exactly.1 r) (found_wrong xs end place rest t.inside)

  -- where a token comes
  token_comes : (form : Form) (at : ℕ) → at ≤ length text → start form text at < length text → (end : ℕ) × NextToken form text at (start form text at) end
  token_comes Padded at h l = (stop Padded text at, run_at Padded at h l (kept_blank _ (at_start Padded text at h l)))
  token_comes Unpadded at h l = by_byte (at_start Unpadded text at h l)
    where
      by_byte : between Unpadded (get_or text (start Unpadded text at) 0) ≡ false → (end : ℕ) × NextToken Unpadded text at (start Unpadded text at) end
      by_byte e =
          by_bool (eqb (get_or text (start Unpadded text at) 0) 10)
          (λ t. (
            start Unpadded text at + 1,
            record {
              onward = start_from Unpadded text at;
              between = λ k p q. between_is Unpadded (get_or text k 0) (before_start Unpadded text at k p q);
              token = feed (eqb-true _ _ t);
              inside = omega arith;
            },
          ))
          (λ t. (stop Unpadded text at, run_at Unpadded at h l (no_feed Unpadded _ (λ q. both_ways (eq-eqb _ _ q) t) ∙ e)))

  module _ (form : Form) where
    pub wrong_found : (items : List Item) (at place : ℕ) → at ≤ length text → mismatch form text at items ≡ Some place → FirstWrong form text at items place
    unfolding mismatch
    wrong_found [] at place h e =
        by_le (length text) (start form text at)
        (λ k. absurd (let f = rw (le-ltb (start form text at) (length text) k) at e in let z : ◌≡◌ {A = ℕ} 0 1 = cc in omega arith))
        (λ k.
        let f = rw (lt-ltb (start form text at) (length text) k) at e in
        let q : start form text at ≡ place = cc in
        let t = token_comes form at h k in
        subst (FirstWrong form text at []) q (extra at (start form text at) t.0 t.1))
    wrong_found (x ∷ xs) at place h e =
        by_le (length text) (start form text at)
        (λ k.
        let s : start form text at ≡ length text = omega (arith, start_le form text at h) in
        let f = rw (none_right form at x s) at e in
        let q : length text ≡ place = cc in
        subst (FirstWrong form text at (x ∷ xs)) q (early at x xs (λ k p q. between_is form (get_or text k 0) (before_start form text at k p (omega arith)))))
        (λ k.
        let t = token_comes form at h k in
        let exactly = right_exactly form at (start form text at) t.0 t.1 x in
        by_bool (right form text at x)
        (λ r.
        go_on at (start form text at) t.0 x xs place t.1 (exactly.0.0 r)
        (wrong_found xs t.0 place t.1.inside (rw (exactly.1 r) at (rw r at e))))
        (λ r.
        let f = rw r at e in
        let q : start form text at ≡ place = cc in
        subst (FirstWrong form text at (x ∷ xs)) q
        (wrong at (start form text at) t.0 x xs t.1 (λ says. both_ways (exactly.0.1 says) r))))
