-- Laws of tokens: blank bytes, a token byte by byte, and a token that is a number. Assumes nothing.
use Rattle.std.specs.Prelude.{Ok, Err}
use Prim.Native.Nat.{ℕ, suc, ◌+◌, ◌-◌, ◌/◌, ◌%◌, ◌≤◌, ◌<◌, zero-le}
use mathlib.Core.Path.{◌≡◌, refl, sym, ap, ◌∙◌}
use mathlib.Core.Logic.{◌↔◌}
use mathlib.Core.Bool.{Bool, true, false, cond}
use mathlib.Core.List.{List, [], ◌∷◌, ◌++◌}
use native.Mathlib.Omega.{arith}
use native.Mathlib.Numerals.{add-one}
use lib.Dec.{eqb}
use lib.ListN.{length, get_or, take, drop, drop_of_length-le, length-drop, get_or-eq_default}
use lib.Seq.{drop-cons, take-suc, length-take-le}
use borrow.Author.Tests.{eqb-true, eq-eqb, ne_eqb}
use Rattle.graph.proofs.Decide.{by_bool, both_ways}
use Rattle.decimal.specs.Decimal.{digit, decimal}
use Rattle.decimal.proofs.Digits.{decimal_small, decimal_step, decimal_ends}
use Rattle.tokens.specs.declared.Form.{Form}
use Rattle.tokens.specs.declared.Form.TheVariants.{Padded, Unpadded}
use Rattle.tokens.specs.Tokens.{blank, between, blanks, token, token_at, start, same, numeral, line_end}
use Rattle.tokens.specs.Steps.{expect_at}

-- a line feed is a token in the unpadded form; of other bytes the forms say the same
pub feed_unpadded : (form : Form) (b : ℕ) → form ≡ Unpadded → b ≡ 10 → false ≡ between form b
unfolding between
feed_unpadded form b e h = rw (e, h)

pub no_feed : (form : Form) (b : ℕ) → (b ≡ 10 → ⊥) → blank b ≡ between form b
unfolding between
no_feed Padded b h = refl
no_feed Unpadded b h = rw (ne_eqb b 10 h)

-- where the next token starts
module _ (form : Form) (text : List ℕ) (i : ℕ) where
  pub start_end : length text ≤ i → start form text i ≡ i
  unfolding start blanks
  start_end h = rw (drop_of_length-le text h) (omega arith)

  pub start_here : i < length text → between form (get_or text i 0) ≡ false → start form text i ≡ i
  unfolding start blanks
  start_here h e = rw (drop-cons text i 0 h, e) (omega arith)

  pub start_next : i < length text → between form (get_or text i 0) ≡ true → start form text (i + 1) ≡ start form text i
  unfolding start blanks
  start_next h e = rw (drop-cons text i 0 h, e, add-one i) (omega arith)

-- the token at a place
module _ (text : List ℕ) (i : ℕ) where
  pub token_end : length text ≤ i → token_at text i ≡ []
  unfolding token_at token
  token_end h = rw (drop_of_length-le text h)

  pub token_stop : i < length text → blank (get_or text i 0) ≡ true → token_at text i ≡ []
  unfolding token_at token
  token_stop h e = rw (drop-cons text i 0 h, e)

  pub token_more : i < length text → blank (get_or text i 0) ≡ false → token_at text i ≡ get_or text i 0 ∷ token_at text (i + 1)
  unfolding token_at token
  token_more h e = rw (drop-cons text i 0 h, e, add-one i)

blanks_le : (form : Form) (xs : List ℕ) → blanks form xs ≤ length xs
unfolding blanks
blanks_le form [] = zero-le
blanks_le form (b ∷ bs) = go (between form b) (blanks_le form bs)
  where
    go : (t : Bool) → blanks form bs ≤ length bs → cond t (suc (blanks form bs)) 0 ≤ suc (length bs)
    go true h = omega arith
    go false h = omega arith

pub start_le : (form : Form) (text : List ℕ) (at : ℕ) → at ≤ length text → start form text at ≤ length text
unfolding start
start_le form text at h = omega (arith, blanks_le form (drop at text), length-drop at text)

token_le : (xs : List ℕ) → length (token xs) ≤ length xs
unfolding token
token_le [] = zero-le
token_le (b ∷ bs) = go (blank b) (token_le bs)
  where
    go : (t : Bool) → length (token bs) ≤ length bs → length (cond t [] (b ∷ token bs)) ≤ suc (length bs)
    go true h = zero-le
    go false h = omega arith

pub token_at_le : (text : List ℕ) (s : ℕ) → s ≤ length text → s + length (token_at text s) ≤ length text
unfolding token_at
token_at_le text s h = omega (arith, token_le (drop s text), length-drop s text)

take_token : (xs : List ℕ) → take (length (token xs)) xs ≡ token xs
unfolding token
take_token [] = refl
take_token (b ∷ bs) = go (blank b) (take_token bs)
  where
    go : (t : Bool) → take (length (token bs)) bs ≡ token bs → take (length (cond t [] (b ∷ token bs))) (b ∷ bs) ≡ cond t [] (b ∷ token bs)
    go true h = refl
    go false h = ap (λ (l : List ℕ). b ∷ l) h

-- a token is the part of the text from its first byte to its end
pub token_part : (text : List ℕ) (s e : ℕ) → e ≡ s + length (token_at text s) → take (e - s) (drop s text) ≡ token_at text s
unfolding token_at
token_part text s e p = let q : e - s ≡ length (token (drop s text)) = omega arith in ap (λ (n : ℕ). take n (drop s text)) q ∙ take_token (drop s text)

-- two runs of bytes are the same
pub same_exactly : (xs ys : List ℕ) → (same xs ys ≡ true) ↔ (xs ≡ ys)
unfolding same
same_exactly [] [] = (λ e. refl, λ e. refl)
same_exactly [] (y ∷ ys) = (λ e. both_ways e refl, λ e. absurd (let z : ◌≡◌ {A = ℕ} 0 1 = cc in omega arith))
same_exactly (x ∷ xs) [] = (λ e. both_ways e refl, λ e. absurd (let z : ◌≡◌ {A = ℕ} 0 1 = cc in omega arith))
same_exactly (x ∷ xs) (y ∷ ys) = (
  λ e. by_bool (eqb x y)
      (λ t. let p = eqb-true x y t in let q = (same_exactly xs ys).0 (rw t at e) in cc)
      (λ t. both_ways (rw t at e) refl),
  λ e. let p : x ≡ y = cc in let q : xs ≡ ys = cc in rw (eq-eqb x y p) ((same_exactly xs ys).1 q),
)

-- the last byte, and what stands before it
same_nil : (ys : List ℕ) (y : ℕ) → same [] (ys ++ y ∷ []) ≡ false
unfolding same
same_nil [] y = refl
same_nil (b ∷ ys) y = refl

same_nil' : (xs : List ℕ) (x : ℕ) → same (xs ++ x ∷ []) [] ≡ false
unfolding same
same_nil' [] x = refl
same_nil' (a ∷ xs) x = refl

cond_same : (t : Bool) → cond t false false ≡ false
cond_same true = refl
cond_same false = refl

cond_swap : (s t b : Bool) → cond s (cond t b false) false ≡ cond t (cond s b false) false
cond_swap true true b = refl
cond_swap true false b = refl
cond_swap false true b = refl
cond_swap false false b = refl

pub same_snoc : (xs ys : List ℕ) (x y : ℕ) → same (xs ++ x ∷ []) (ys ++ y ∷ []) ≡ cond (eqb x y) (same xs ys) false
unfolding same
same_snoc [] [] x y = refl
same_snoc [] (b ∷ ys) x y = rw (same_nil ys y) (cond_same (eqb x b) ∙ sym (cond_same (eqb x y)))
same_snoc (a ∷ xs) [] x y = rw (same_nil' xs x) (cond_same (eqb a y) ∙ sym (cond_same (eqb x y)))
same_snoc (a ∷ xs) (b ∷ ys) x y = rw (same_snoc xs ys x y) (cond_swap (eqb a b) (eqb x y) (same xs ys))

same_empty : (xs : List ℕ) → same xs [] ≡ eqb (length xs) 0
unfolding same
same_empty [] = refl
same_empty (x ∷ xs) = sym (ne_eqb (suc (length xs)) 0 (omega arith))

pub number_none : (w : List ℕ) (n : ℕ) → length w ≡ 0 → false ≡ same w (decimal n)
number_none w n e = let q : w ≡ [] = nil w e in rw (q, (decimal_ends n).1) (sym (same_nil (decimal_ends n).0 (digit (n % 10))))
  where
    nil : (l : List ℕ) → length l ≡ 0 → l ≡ []
    nil [] h = refl
    nil (x ∷ l) h = absurd (omega arith)

-- THE FIRST i BYTES, by the last of them
module _ (w : List ℕ) (i n : ℕ) (h : i ≤ length w) (more : 0 < i) where
  split_last : take i w ≡ take (i - 1) w ++ get_or w (i - 1) 0 ∷ []
  split_last = let e : i ≡ suc (i - 1) = omega arith in ap (λ (k : ℕ). take k w) e ∙ take-suc w (i - 1) 0 (omega arith)

  by_last : (hs : List ℕ) → decimal n ≡ hs ++ digit (n % 10) ∷ []
      → same (take i w) (decimal n) ≡ cond (eqb (get_or w (i - 1) 0) (digit (n % 10))) (same (take (i - 1) w) hs) false
  by_last hs e =
      ap (λ (l : List ℕ). same l (decimal n)) split_last ∙ ap (same (take (i - 1) w ++ get_or w (i - 1) 0 ∷ [])) e
      ∙ same_snoc (take (i - 1) w) hs (get_or w (i - 1) 0) (digit (n % 10))

  pub number_wrong : (get_or w (i - 1) 0 ≡ digit (n % 10) → ⊥) → false ≡ same (take i w) (decimal n)
  number_wrong ne = sym (by_last (decimal_ends n).0 (decimal_ends n).1 ∙ ap (λ (t : Bool). cond t (same (take (i - 1) w) (decimal_ends n).0) false) (ne_eqb _ _ ne))

  pub number_one : get_or w (i - 1) 0 ≡ digit (n % 10) → n < 10 → eqb (i - 1) 0 ≡ same (take i w) (decimal n)
  number_one e s =
      let m : n ≡ n % 10 = omega arith in
      let d : decimal n ≡ [] ++ digit (n % 10) ∷ [] = decimal_small n s ∙ ap (λ (k : ℕ). digit k ∷ []) m in
      sym (by_last [] d ∙ ap (λ (t : Bool). cond t (same (take (i - 1) w) []) false) (eq-eqb _ _ e)
      ∙ same_empty (take (i - 1) w) ∙ ap (λ (k : ℕ). eqb k 0) (length-take-le (i - 1) w (omega arith)))

  pub number_more : get_or w (i - 1) 0 ≡ digit (n % 10) → 10 ≤ n → same (take (i - 1) w) (decimal (n / 10)) ≡ same (take i w) (decimal n)
  number_more e s = sym (by_last (decimal (n / 10)) (decimal_step n s) ∙ ap (λ (t : Bool). cond t (same (take (i - 1) w) (decimal (n / 10))) false) (eq-eqb _ _ e))

-- what the next token is, from its first byte s, its end e and the comparison r
module _ (form : Form) (text : List ℕ) (at n s e : ℕ) (r : Bool) (p : s ≡ start form text at) (q : e ≡ s + length (token_at text s)) (c : r ≡ same (take (e - s) (drop s text)) (decimal n)) where
  told : same (token_at text (start form text at)) (decimal n) ≡ r
  told = ap (λ (k : ℕ). same (token_at text k) (decimal n)) (sym p) ∙ ap (λ (w : List ℕ). same w (decimal n)) (sym (token_part text s e q)) ∙ sym c

  pub expect_right : r ≡ true → Ok (record { at = e }) ≡ expect_at form text at (numeral n)
  unfolding expect_at
  expect_right h = rw (told, h) (ap (λ (k : ℕ). Ok (record { at = k })) (q ∙ ap (λ (k : ℕ). k + length (token_at text k)) p))

  pub expect_wrong : r ≡ false → Err s ≡ expect_at form text at (numeral n)
  unfolding expect_at
  expect_wrong h = rw (told, h) (ap (λ (k : ℕ). Err k) p)

-- or a line feed, by the byte there
module _ (form : Form) (text : List ℕ) (at s : ℕ) (p : s ≡ start form text at) where
  pub feed_found : get_or text s 0 ≡ 10 → Ok (record { at = s + 1 }) ≡ expect_at form text at line_end
  unfolding expect_at
  feed_found h = rw (sym p, eq-eqb (get_or text s 0) 10 h)

  pub feed_missing : (get_or text s 0 ≡ 10 → ⊥) → Err s ≡ expect_at form text at line_end
  unfolding expect_at
  feed_missing h = rw (sym p, ne_eqb (get_or text s 0) 10 h)

  pub feed_past : length text ≤ s → Err s ≡ expect_at form text at line_end
  feed_past h = feed_missing (λ e. absurd (omega (arith, sym (get_or-eq_default text 0 h) ∙ e)))

pub token_in : (form : Form) (text : List ℕ) (at s e : ℕ) → s ≡ start form text at → e ≡ s + length (token_at text s) → at ≤ length text → e ≤ length text
token_in form text at s e p q h =
    let b : s ≤ length text = omega (arith, start_le form text at h) in
    omega (arith, token_at_le text s b)
