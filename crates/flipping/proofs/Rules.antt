-- Laws of the round's refusals: their numbers rise, and what is then answered and left. Assumes nothing.
use Rattle.std.specs.Prelude.{Result, Ok}
use Rattle.refusal.specs.Answer.{outcome}
use Prim.Native.Nat.{ℕ, ◌<◌}
use mathlib.Core.Path.{◌≡◌, refl, sym, ap, ◌∙◌}
use mathlib.Core.Logic.{◌↔◌}
use mathlib.Core.Bool.{Bool, true, false, not}
use mathlib.Core.List.{List, []}
use Rattle.std.specs.Prelude.{Option, None}
use borrow.Author.Tests.{eqb-true, eq-eqb, not-false}
use lib.Dec.{eqb}
use lib.IntN.{ℤ}
use Rattle.refusal.specs.declared.Refusal.{Refusal}
use Rattle.refusal.specs.declared.Refusal.TheVariants.{ColumnWeight}
use Rattle.refusal.specs.Lowest.{lowest, rising}
use Rattle.refusal.specs.Lent.{lent}
use Rattle.refusal.proofs.Lowest.{lowest_next, lowest_accepted}
use Rattle.graph.specs.Graph.{Bipartite}
use Rattle.graph.specs.Flipping.{flipped_word, flipped_count}
use Rattle.std.specs.List.{list_any, range_with_len}
use Rattle.std.proofs.lemmas.List.Elements.{All-from_get_or}
use Rattle.std.proofs.lemmas.List.Folds.{list_any_at, list_any_none}
use Rattle.std.proofs.lemmas.List.FromFn.{length-range_with_len, get_or-range_with_len}
use native.Mathlib.Omega.{arith}
use lib.ListN.{length, get_or}
use Rattle.graph.specs.Erasure.{any}
use Rattle.graph.proofs.Decide.{both_ways, by_bool}
use Rattle.graph.proofs.Peeling.{any_true, any_false, any_none}
use Rattle.exponent.specs.Limits.{plan_rules}
use Rattle.exponent.specs.Tanner.{tanner, column_weight}
use Rattle.syndrome.specs.Word.{byte_rules, word_rules}
use Rattle.syndrome.specs.Check.{check_rules}
use Rattle.syndrome.proofs.Rules.{check_accepted}
use Rattle.flipping.specs.Flip.{other_weight, flip_rules, flip_answer, flip_word}
use Rattle.flipping.specs.Work.{Given}

-- computed, whatever the plan and the word are
pub rules_rise : (plan : List ℤ) (rows cols lift : ℕ) (word : List ℕ) → rising (flip_rules plan rows cols lift word) ≡ true
unfolding flip_rules check_rules word_rules plan_rules byte_rules
rules_rise plan rows cols lift word = refl

-- some number of a range passes: as std says it
pub any_listed : (n : ℕ) (test : ℕ → Bool) → list_any test (range_with_len 0 n) ≡ any n test
any_listed n test =
    by_bool (any n test)
    (λ t. let (k, h, e) = any_true n test t in list_any_at test numbers k 0 (omega (arith, numbers_length)) (at k h ∙ e) ∙ sym t)
    (λ f.
    list_any_none test numbers (All-from_get_or (λ k. test k ≡ false) numbers 0 λ k h. let l : k < n = omega (arith, numbers_length) in at k l ∙ any_false n test f k l)
    ∙ sym f)
  where
    numbers : List ℕ
    numbers = range_with_len 0 n

    numbers_length : length numbers ≡ n
    numbers_length = length-range_with_len 0 n

    at : (k : ℕ) → k < n → test (get_or numbers k 0) ≡ test k
    at k h = ap test (get_or-range_with_len 0 n k 0 h ∙ omega arith)

-- no column has another weight exactly where each has three filled blocks
pub all_three : (plan : List ℤ) (rows cols lift : ℕ) → (other_weight plan rows cols lift ≡ false) ↔ ((j : ℕ) → j < cols → column_weight plan rows cols lift j ≡ 3)
unfolding other_weight
all_three plan rows cols lift =
    let other : ℕ → Bool = λ j. not (eqb (column_weight plan rows cols lift j) 3) in (
      λ e j h. eqb-true (column_weight plan rows cols lift j) 3 (not-false _ (any_false cols other e j h)),
      λ three. any_none cols other (λ j h t. both_ways t (ap not (eq-eqb (column_weight plan rows cols lift j) 3 (three j h)))),
    )

module _ (plan : List ℤ) (rows cols lift : ℕ) (word : List ℕ) where
  abbrev G : Bipartite
  G = tanner plan rows cols lift

  -- what is answered and left
  pub record Answers (r : Result ℕ Refusal) (left : List ℕ) : Type 0 where
    pub answered : r ≡ flip_answer plan rows cols lift word
    pub leaves : left ≡ flip_word plan rows cols lift word

  answers : (o : Option Refusal) → lowest (flip_rules plan rows cols lift word) ≡ o → Answers (outcome o (flipped_count G word)) (lent o (flipped_word G word) word)
  unfolding flip_answer flip_word
  answers o e =
      record {
        answered = sym (ap (λ (x : Option Refusal). outcome x (flipped_count G word)) e);
        leaves = sym (ap (λ (x : Option Refusal). lent x (flipped_word G word) word) e);
      }

  module _ (valid : lowest (check_rules plan rows cols lift word) ≡ None) where
    pub not_refused : other_weight plan rows cols lift ≡ false → Answers (Ok (flipped_count (tanner plan rows cols lift) word)) (flipped_word (tanner plan rows cols lift) word)
    unfolding flip_rules lowest
    not_refused e = answers None (lowest_accepted (check_rules plan rows cols lift word) _ valid ∙ lowest_next (other_weight plan rows cols lift) ColumnWeight [] e)

  pub given : lowest (check_rules plan rows cols lift word) ≡ None → other_weight plan rows cols lift ≡ false
      → Given plan (record { rows = rows; cols = cols; lift = lift }) word
  given e t =
      let w = (check_accepted plan rows cols lift word).0 e in
      record { formed = w.0; whole = w.1; known = w.2; three = (all_three plan rows cols lift).0 t }
