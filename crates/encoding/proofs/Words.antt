-- The bytes of an encoded word: its parity bits, and the data bits behind them. Assumes nothing.
use Prim.Native.Nat.{ℕ, ◌+◌, ◌-◌, ◌*◌, ◌/◌, ◌%◌, ◌≤◌, ◌<◌}
use mathlib.Core.Path.{◌≡◌, sym, ap, ap₂, ◌∙◌}
use mathlib.Core.Bool.{cond}
use mathlib.Core.List.{List, ◌++◌, map}
use native.Mathlib.Omega.{arith}
use native.Mathlib.Nat.{mod-lt, add-mul, div-add-mod'}
use lib.Dec.{ltb}
use lib.IntN.{ℤ}
use lib.ListN.{length, get_or, length-append, get_or-append, get_or-eq_default}
use lib.Seq.{get_or-append-add, ext_get_or}
use Rattle.graph.specs.Count.{below}
use Rattle.graph.proofs.Decide.{by_bool, by_le}
use Rattle.graph.proofs.Count.{get_or_map_below, length_map_below}
use Rattle.exponent.proofs.Numbers.{number_low, block_of_law, place_of, block_low}
use Rattle.encoding.specs.Encoded.{last_bit, front_bit, parity_bit, data_bit, encoded_word, Carries}
use Rattle.encoding.specs.Work.{column}
use Rattle.encoding.proofs.Data.{last_bit_same, front_bit_same}

-- columns before a column, and those from it on
pub parts : (a c lift : ℕ) → a ≤ c → a * lift + (c - a) * lift ≡ c * lift
parts a c lift h = sym (add-mul a (c - a) lift) ∙ ap (λ (n : ℕ). n * lift) (let e : a + (c - a) ≡ c = omega arith in e)

-- what a word that carries data bits, and nothing behind them, has from their start on
pub carried_byte : (start : ℕ) (info v : List ℕ) → length v ≡ start + length info → Carries start info v
    → (n : ℕ) → start ≤ n → get_or v n 0 ≡ get_or info (n - start) 0
carried_byte start info v long carries n h =
    by_le (length info) (n - start)
    (λ l. get_or-eq_default v 0 (omega arith) ∙ sym (get_or-eq_default info 0 l))
    (λ l. ap (λ (x : ℕ). get_or v x 0) (let e : n ≡ start + (n - start) = omega arith in e) ∙ carries.carried (n - start) l)

-- and its data columns
pub carried_column : (rows lift : ℕ) (info v : List ℕ) → length v ≡ rows * lift + length info → Carries (rows * lift) info v
    → (j z : ℕ) → rows ≤ j → column lift v j z ≡ data_bit rows lift info j z
carried_column rows lift info v long carries j z h =
    let apart = parts rows j lift h in
    carried_byte (rows * lift) info v long carries (j * lift + z) (omega arith)
    ∙ ap (λ (d : ℕ). get_or info d 0) (let e : j * lift + z - rows * lift ≡ (j - rows) * lift + z = omega arith in e)

pub parity_low : (plan : List ℤ) (rows cols lift third : ℕ) (bit : ℕ → ℕ → ℕ) (k z : ℕ) → parity_bit plan rows cols lift third bit k z < 2
unfolding front_bit last_bit
parity_low plan rows cols lift third bit k z = by_bool (ltb k (rows - 1)) (λ e. rw e (omega arith)) (λ e. rw e (omega arith))

module _ (plan : List ℤ) (rows cols lift third : ℕ) (some_lift : 0 < lift) (info : List ℕ) where
  -- the parity bits that the data bits give
  abbrev parity_of : ℕ → ℕ → ℕ
  parity_of = parity_bit plan rows cols lift third (data_bit rows lift info)

  -- those that data columns give which hold these data bits
  pub same_parity : (bit : ℕ → ℕ → ℕ) → ((j z : ℕ) → rows ≤ j → z < lift → bit j z ≡ data_bit rows lift info j z)
      → (k z : ℕ) → parity_bit plan rows cols lift third bit k z ≡ parity_bit plan rows cols lift third (data_bit rows lift info) k z
  same_parity bit same k z =
      ap₂ (cond (ltb k (rows - 1)))
      (front_bit_same plan rows cols lift some_lift third bit (data_bit rows lift info) same k z)
      (last_bit_same plan rows cols lift some_lift third bit (data_bit rows lift info) same z)

  abbrev parity_at : ℕ → ℕ
  parity_at n = parity_of (n / lift) (n % lift)

  abbrev parities : List ℕ
  parities = map parity_at (below (rows * lift))

  parities_length : length parities ≡ rows * lift
  parities_length = length_map_below parity_at (rows * lift)

  pub encoded_length : length (encoded_word plan rows cols lift third info) ≡ rows * lift + length info
  unfolding encoded_word
  encoded_length = length-append parities info ∙ omega (arith, parities_length)

  pub encoded_front : (n : ℕ) → n < rows * lift → get_or (encoded_word plan rows cols lift third info) n 0 ≡ parity_bit plan rows cols lift third (data_bit rows lift info) (n / lift) (n % lift)
  unfolding encoded_word
  encoded_front n h = get_or-append parities info 0 n (omega (arith, parities_length)) ∙ get_or_map_below 0 parity_at (rows * lift) n h

  pub encoded_column : (k z : ℕ) → k < rows → z < lift → column lift (encoded_word plan rows cols lift third info) k z ≡ parity_bit plan rows cols lift third (data_bit rows lift info) k z
  encoded_column k z h l =
      encoded_front (k * lift + z) (number_low k z rows lift h l)
      ∙ ap₂ parity_of (block_of_law lift some_lift k z l) (place_of lift some_lift k z l)

  pub encoded_carries : Carries (rows * lift) info (encoded_word plan rows cols lift third info)
  unfolding encoded_word
  encoded_carries =
      record { carried = λ d h. ap (λ (n : ℕ). get_or (parities ++ info) (n + d) 0) (sym parities_length) ∙ get_or-append-add parities info d 0 }

  -- IT IS the only word of its length with these data bits and parity bits
  pub encoded_is : (v : List ℕ) → length v ≡ rows * lift + length info → Carries (rows * lift) info v
      → ((k z : ℕ) → k < rows → z < lift → column lift v k z ≡ parity_bit plan rows cols lift third (data_bit rows lift info) k z)
      → v ≡ encoded_word plan rows cols lift third info
  encoded_is v long carries solved =
      let F : List ℕ = encoded_word plan rows cols lift third info in
      ext_get_or 0 v F (long ∙ sym encoded_length) λ n h.
      by_le (rows * lift) n
      (λ l. carried_byte (rows * lift) info v long carries n l ∙ sym (carried_byte (rows * lift) info F encoded_length encoded_carries n l))
      (λ l.
      ap (λ (x : ℕ). get_or v x 0) (sym (div-add-mod' n lift))
      ∙ solved (n / lift) (n % lift) (block_low lift some_lift n rows l) (mod-lt n some_lift)
      ∙ sym (encoded_front n l))
