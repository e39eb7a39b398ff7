-- The request (document 01, "alist text"): J and P, the first two tokens in the first 256 bytes of the input.
use Rattle.std.specs.Prelude.{ℕ, ◌+◌, ◌-◌, ◌*◌, Bool, cond, ◌||◌, List, [], ◌∷◌, ltb, take}
use Rattle.refusal.specs.Place.{somewhere}
use Rattle.exponent.specs.Limits.{outside}
use Rattle.tokens.specs.declared.Form.TheVariants.{Padded}
use Rattle.tokens.specs.Tokens.{start, stop, token_at}
use Rattle.planning.specs.declared.request.Request.{Request}

-- a byte other than a digit: '0' is 48, '9' is 57
abbrev pub no_digit : ℕ → Bool
no_digit b = outside 48 57 b

-- the value of digits that follow digits of value n
unfoldable pub value_from : ℕ → List ℕ → ℕ
value_from n [] = n
value_from n (b ∷ digits) = value_from (n * 10 + (b - 48)) digits

-- the number of a token: one above 65,535 or one with a byte other than a digit counts as 0, and so does a missing one, which
-- has no bytes
unfoldable pub number_of : List ℕ → ℕ
number_of token = cond (somewhere no_digit token || ltb 65535 (value_from 0 token)) 0 (value_from 0 token)

-- the numbers of the first two tokens
unfoldable pub request_in : List ℕ → Request
request_in text = record { order = number_of (token_at text (start Padded text 0)); lift = number_of (token_at text (start Padded text (stop Padded text 0))) }

unfoldable pub request_of : List ℕ → Request
request_of input = request_in (take 256 input)
