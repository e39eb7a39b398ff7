-- Where a token starts and ends, by places of the text: bytes between tokens up to its first byte, its bytes, and a blank byte or the end
-- behind them. Assumes nothing.
use Prim.Native.Nat.{ℕ, suc, ◌+◌, ◌-◌, ◌≤◌, ◌<◌}
use mathlib.Core.Path.{◌≡◌, refl, sym, ap, ◌∙◌}
use mathlib.Core.Bool.{Bool, true, false, not}
use mathlib.Core.List.{List, [], ◌∷◌}
use native.Mathlib.Omega.{arith}
use borrow.Author.Tests.{not-true, not-false}
use lib.ListN.{length, get_or, drop, length-drop}
use lib.Seq.{get_or-drop}
use Rattle.refusal.specs.Place.{first_place}
use Rattle.refusal.proofs.Place.{first_at, first_none, before_first, at_first}
use Rattle.graph.proofs.Decide.{by_bool, by_le}
use Rattle.tokens.specs.declared.Form.{Form}
use Rattle.tokens.specs.Tokens.{blank, between, blanks, token, start, token_at}

-- a run of bytes between tokens, or of a token, ends at the first place of another kind
abbrev other : Form → ℕ → Bool
other form b = not (between form b)

blanks_first : (form : Form) (xs : List ℕ) → blanks form xs ≡ first_place (other form) xs
unfolding blanks first_place
blanks_first form [] = refl
blanks_first form (b ∷ xs) = by_bool (between form b) (λ e. rw e (ap suc (blanks_first form xs))) (λ e. rw e)

token_first : (xs : List ℕ) → length (token xs) ≡ first_place blank xs
unfolding token first_place
token_first [] = refl
token_first (b ∷ xs) = by_bool (blank b) (λ e. rw e) (λ e. rw e (ap suc (token_first xs)))

module _ (text : List ℕ) where
  byte_at : (at k : ℕ) → at ≤ k → get_or (drop at text) (k - at) 0 ≡ get_or text k 0
  byte_at at k h = get_or-drop at text (k - at) 0 ∙ ap (λ (i : ℕ). get_or text i 0) (let e : at + (k - at) ≡ k = omega arith in e)

  -- a token's bytes are not blank, and the byte behind them is
  pub in_token : (s k : ℕ) → s ≤ k → k < s + length (token_at text s) → blank (get_or text k 0) ≡ false
  unfolding token_at
  in_token s k h l =
      ap blank (sym (byte_at s k h)) ∙ before_first blank 0 (drop s text) (k - s) (omega (arith, token_first (drop s text)))

  pub behind_token : (s : ℕ) → s ≤ length text → s + length (token_at text s) < length text → blank (get_or text (s + length (token_at text s)) 0) ≡ true
  unfolding token_at
  behind_token s h l =
      let e = token_first (drop s text) in
      let n = first_place blank (drop s text) in
      let q : s + length (token (drop s text)) - s ≡ n = omega arith in
      ap blank (sym (byte_at s (s + length (token (drop s text))) (omega arith)) ∙ ap (λ (i : ℕ). get_or (drop s text) i 0) q)
      ∙ at_first blank 0 (drop s text) (omega (arith, length-drop s text))

  pub token_is : (s end : ℕ) → s ≤ end → end ≤ length text → ((k : ℕ) → s ≤ k → k < end → blank (get_or text k 0) ≡ false) → (end < length text → blank (get_or text end 0) ≡ true)
      → s + length (token_at text s) ≡ end
  unfolding token_at
  token_is s end h l bytes stops =
      by_le (length text) end
      (λ g.
      let w = first_none blank 0 (drop s text) (λ i q. ap blank (get_or-drop s text i 0) ∙ bytes (s + i) (omega arith) (omega (arith, length-drop s text))) in
      omega (arith, token_first (drop s text), length-drop s text))
      (λ g.
      let w = first_at blank 0 (drop s text) (end - s) (λ i q. ap blank (get_or-drop s text i 0) ∙ bytes (s + i) (omega arith) (omega arith))
      (omega (arith, length-drop s text)) (ap blank (byte_at s end h) ∙ stops g) in
      omega (arith, token_first (drop s text)))

module _ (form : Form) (text : List ℕ) where
  -- bytes before the start stand between tokens, and the byte there is not
  pub before_start : (at k : ℕ) → at ≤ k → k < start form text at → between form (get_or text k 0) ≡ true
  unfolding start
  before_start at k h l =
      not-false _ (ap (other form) (sym (byte_at text at k h)) ∙ before_first (other form) 0 (drop at text) (k - at) (omega (arith, blanks_first form (drop at text))))

  pub at_start : (at : ℕ) → at ≤ length text → start form text at < length text → between form (get_or text (start form text at) 0) ≡ false
  unfolding start
  at_start at h l =
      let e = blanks_first form (drop at text) in
      let n = first_place (other form) (drop at text) in
      let q : at + blanks form (drop at text) - at ≡ n = omega arith in
      not-true _ (ap (other form) (sym (byte_at text at (at + blanks form (drop at text)) (omega arith)) ∙ ap (λ (i : ℕ). get_or (drop at text) i 0) q)
      ∙ at_first (other form) 0 (drop at text) (omega (arith, length-drop at text)))

  -- and the other way round
  pub start_is : (at first : ℕ) → at ≤ first → first < length text → ((k : ℕ) → at ≤ k → k < first → between form (get_or text k 0) ≡ true) → between form (get_or text first 0) ≡ false
      → start form text at ≡ first
  unfolding start
  start_is at first h l before e =
      let w = first_at (other form) 0 (drop at text) (first - at)
      (λ i q. ap (other form) (get_or-drop at text i 0) ∙ ap not (before (at + i) (omega arith) (omega arith)))
      (omega (arith, length-drop at text))
      (ap (other form) (byte_at text at first h) ∙ ap not e) in
      omega (arith, blanks_first form (drop at text))

  pub start_none : (at : ℕ) → at ≤ length text → ((k : ℕ) → at ≤ k → k < length text → between form (get_or text k 0) ≡ true) → start form text at ≡ length text
  unfolding start
  start_none at h all =
      let w = first_none (other form) 0 (drop at text) (λ i q. ap (other form) (get_or-drop at text i 0) ∙ ap not (all (at + i) (omega arith) (omega (arith, length-drop at text)))) in
      omega (arith, blanks_first form (drop at text), length-drop at text)

  pub start_from : (at : ℕ) → at ≤ start form text at
  unfolding start
  start_from at = omega arith
