-- Laws of the request: a token's number digit by digit, kept at 65,536, and the number of the next token. Assumes nothing.
use Prim.Native.Nat.{ℕ, zero, suc, ◌+◌, ◌-◌, ◌*◌, ◌≤◌, ◌<◌, min}
use mathlib.Core.Path.{◌≡◌, refl, sym, ap, ◌∙◌}
use mathlib.Core.Bool.{Bool, true, false, cond, ◌||◌}
use mathlib.Core.List.{List, [], ◌∷◌, ◌++◌}
use native.Mathlib.Numerals.{add-one}
use native.Mathlib.Omega.{arith}
use lib.Dec.{ltb, leb-suc-suc}
use lib.ListN.{length, get_or, take, drop, replicate, drop_of_length-le}
use lib.Seq.{drop-cons}
use borrow.Author.Tests.{lt-ltb, le-ltb}
use Rattle.refusal.specs.Place.{first_place, somewhere}
use Rattle.graph.proofs.Decide.{by_le}
use Rattle.tokens.specs.declared.Form.TheVariants.{Padded}
use Rattle.tokens.specs.Tokens.{start, stop, token_at}
use Rattle.tokens.proofs.Runs.{token_part}
use Rattle.planning.specs.declared.request.Request.{Request}
use Rattle.planning.specs.Request.{no_digit, value_from, number_of, request_in}

-- the number of digits of value n and the bytes after them
abbrev pub number_from : ℕ → List ℕ → ℕ
number_from n bytes = cond (somewhere no_digit bytes || ltb 65535 (value_from n bytes)) 0 (value_from n bytes)

pub number_start : (token : List ℕ) → number_from 0 token ≡ number_of token
unfolding number_of
number_start token = refl

somewhere_next : (b : ℕ) (bytes : List ℕ) → no_digit b ≡ false → somewhere no_digit (b ∷ bytes) ≡ somewhere no_digit bytes
unfolding first_place
somewhere_next b bytes e = rw e (leb-suc-suc (suc (first_place no_digit bytes)) (length bytes))

somewhere_here : (b : ℕ) (bytes : List ℕ) → no_digit b ≡ true → somewhere no_digit (b ∷ bytes) ≡ true
unfolding first_place
somewhere_here b bytes e = rw e (lt-ltb 0 (suc (length bytes)) (omega arith))

-- a byte that is no digit
number_wrong : (n b : ℕ) (bytes : List ℕ) → no_digit b ≡ true → number_from n (b ∷ bytes) ≡ 0
number_wrong n b bytes e = ap (λ (t : Bool). cond (t || ltb 65535 (value_from n (b ∷ bytes))) 0 (value_from n (b ∷ bytes))) (somewhere_here b bytes e)

-- a digit
number_digit : (n b : ℕ) (bytes : List ℕ) → no_digit b ≡ false → number_from n (b ∷ bytes) ≡ number_from (n * 10 + (b - 48)) bytes
unfolding value_from
number_digit n b bytes e =
    let v = value_from (n * 10 + (b - 48)) bytes in
    ap (λ (t : Bool). cond (t || ltb 65535 v) 0 v) (somewhere_next b bytes e)

-- values only grow, so that what is above 65,535 may be kept at 65,536
value_grows : (n : ℕ) (bytes : List ℕ) → n ≤ value_from n bytes
unfolding value_from
value_grows n [] = omega arith
value_grows n (b ∷ bytes) = omega (arith, value_grows (n * 10 + (b - 48)) bytes)

or_true : (t : Bool) → (t || true) ≡ true
or_true true = refl
or_true false = refl

number_large : (n : ℕ) (bytes : List ℕ) → 65535 < n → number_from n bytes ≡ 0
number_large n bytes h =
    let v = value_from n bytes in
    let e : ltb 65535 v ≡ true = lt-ltb 65535 v (omega (arith, value_grows n bytes)) in
    ap (λ (t : Bool). cond (somewhere no_digit bytes || t) 0 v) e ∙ ap (λ (t : Bool). cond t 0 v) (or_true (somewhere no_digit bytes))

number_kept : (n : ℕ) (bytes : List ℕ) → number_from (min n 65536) bytes ≡ number_from n bytes
number_kept n bytes =
    by_le n 65535
    (λ h. ap (λ (k : ℕ). number_from k bytes) (omega arith))
    (λ h. number_large (min n 65536) bytes (omega arith) ∙ sym (number_large n bytes h))

-- the same of what is left of a token from place i on
module _ (token : List ℕ) (i n : ℕ) (e : number_from n (drop i token) ≡ number_of token) where
  module _ (h : i < length token) where
    pub wrong_at : no_digit (get_or token i 0) ≡ true → 0 ≡ number_of token
    wrong_at t = sym (number_wrong n (get_or token i 0) (drop (suc i) token) t) ∙ ap (number_from n) (sym (drop-cons token i 0 h)) ∙ e

    pub digit_at : no_digit (get_or token i 0) ≡ false → (m : ℕ) → m ≡ min (n * 10 + (get_or token i 0 - 48)) 65536 → number_from m (drop (i + 1) token) ≡ number_of token
    digit_at t m p =
        let d = n * 10 + (get_or token i 0 - 48) in
        ap (λ (k : ℕ). number_from k (drop (i + 1) token)) p
        ∙ ap (λ (k : ℕ). number_from (min d 65536) (drop k token)) (add-one i)
        ∙ number_kept d (drop (suc i) token)
        ∙ sym (number_digit n (get_or token i 0) (drop (suc i) token) t)
        ∙ ap (number_from n) (sym (drop-cons token i 0 h))
        ∙ e

  module _ (h : length token ≤ i) where
    none_left : number_from n [] ≡ number_of token
    none_left = ap (number_from n) (sym (drop_of_length-le token h)) ∙ e

    pub large_end : 65535 < n → 0 ≡ number_of token
    large_end g = sym (number_large n [] g) ∙ none_left

    pub small_end : n ≤ 65535 → n ≡ number_of token
    unfolding value_from first_place
    small_end g = sym (ap (λ (t : Bool). cond t 0 n) (le-ltb 65535 n g)) ∙ none_left

-- the next token from a place on, from its first byte s and its end e
module _ (text : List ℕ) (at s e n : ℕ) (p : s ≡ start Padded text at) (q : e ≡ s + length (token_at text s)) where
  pub next_stop : e ≡ stop Padded text at
  next_stop = q ∙ ap (λ (k : ℕ). k + length (token_at text k)) p

  pub next_number : n ≡ number_of (take (e - s) (drop s text)) → n ≡ number_of (token_at text (start Padded text at))
  next_number r = r ∙ ap number_of (token_part text s e q) ∙ ap (λ (k : ℕ). number_of (token_at text k)) p

pub request_is : (text : List ℕ) (J P at : ℕ) → J ≡ number_of (token_at text (start Padded text 0)) → at ≡ stop Padded text 0 → P ≡ number_of (token_at text (start Padded text at))
    → ◌≡◌ {A = Request} (record { order = J; lift = P }) (request_in text)
unfolding request_in
request_is text J P at j s p =
    let q : P ≡ number_of (token_at text (start Padded text (stop Padded text 0))) = p ∙ ap (λ (k : ℕ). number_of (token_at text (start Padded text k))) s in
    λ i. record { order = j i; lift = q i }

-- THE LAW: leading zeros do not change a number
leading_zero : (token : List ℕ) → number_of (48 ∷ token) ≡ number_of token
leading_zero token = sym (number_start (48 ∷ token)) ∙ number_digit 0 48 token refl ∙ number_start token

pub leading_zeros : (k : ℕ) (token : List ℕ) → number_of (replicate k 48 ++ token) ≡ number_of token
leading_zeros zero token = refl
leading_zeros (suc k) token = leading_zero (replicate k 48 ++ token) ∙ leading_zeros k token
