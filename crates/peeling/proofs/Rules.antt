-- Laws of the decoder's refusals: their numbers rise, those of the word go before 20, and what is then answered and left.
-- Assumes nothing.
use Rattle.std.specs.Prelude.{Ok, Err}
use Prim.Native.Nat.{ℕ}
use mathlib.Core.Path.{sym, ◌≡◌, refl, ap, ◌∙◌}
use mathlib.Core.Bool.{true, false}
use mathlib.Core.List.{List, []}
use Rattle.std.specs.Prelude.{Option, None, Some}
use lib.IntN.{ℤ}
use Rattle.refusal.specs.declared.Refusal.{Refusal}
use Rattle.refusal.specs.declared.Refusal.TheVariants.{NoSolution}
use Rattle.refusal.specs.Lowest.{lowest, rising}
use Rattle.refusal.specs.Answer.{outcome}
use Rattle.refusal.specs.Lent.{lent}
use Rattle.refusal.proofs.Lowest.{lowest_here, lowest_next, lowest_accepted, lowest_refused}
use Rattle.graph.specs.Graph.{Bipartite}
use Rattle.graph.specs.Filling.{filled_word, clash}
use Rattle.graph.proofs.Decide.{by_bool}
use Rattle.exponent.specs.Limits.{plan_rules}
use Rattle.exponent.specs.Tanner.{tanner}
use Rattle.exponent.specs.declared.plan.Plan.{Plan}
use Rattle.exponent.specs.Plan.{shape_of}
use Rattle.syndrome.proofs.Rules.{word_accepted}
use Rattle.syndrome.specs.Word.{byte_rules, word_rules}
use Rattle.peeling.specs.Fill.{Fillable, fill_rules, counts, filling, filled_or, fill_answer, fill_word}

-- computed, whatever the plan and the word are
pub rules_rise : (plan : List ℤ) (rows cols lift : ℕ) (word : List ℕ) → rising (fill_rules plan rows cols lift word) ≡ true
unfolding fill_rules word_rules plan_rules byte_rules
rules_rise plan rows cols lift word = refl

module _ (plan : List ℤ) (rows cols lift : ℕ) (word : List ℕ) where
  abbrev G : Bipartite
  G = tanner plan rows cols lift

  answered : (o : Option Refusal) → lowest (fill_rules plan rows cols lift word) ≡ o
      → (fill_answer plan rows cols lift word ≡ outcome o (counts G word)) × (fill_word plan rows cols lift word ≡ lent o (filled_word G word) word)
  unfolding fill_answer fill_word
  answered o e = (
    ap (λ (x : Option Refusal). outcome x (counts G word)) e,
    ap (λ (x : Option Refusal). lent x (filled_word G word) word) e,
  )

  -- refused for the plan or the word: the word is as lent
  pub word_refused : (x : Refusal) → lowest (word_rules plan rows cols lift word) ≡ Some x
      → (fill_answer plan rows cols lift word ≡ Err x) × (fill_word plan rows cols lift word ≡ word)
  unfolding fill_rules
  word_refused x e = answered (Some x) (lowest_refused (word_rules plan rows cols lift word) _ x e)

  module _ (valid : lowest (word_rules plan rows cols lift word) ≡ None) where
    -- refused since no values fit: the word is as lent
    pub clash_refused : clash (tanner plan rows cols lift) (filled_word (tanner plan rows cols lift) word) ≡ true
        → (fill_answer plan rows cols lift word ≡ Err NoSolution) × (fill_word plan rows cols lift word ≡ word)
    unfolding fill_rules
    clash_refused e = answered (Some NoSolution) (lowest_accepted (word_rules plan rows cols lift word) _ valid ∙ lowest_here _ NoSolution [] e)

    -- not refused: the two counts, and the filled word
    pub not_refused : clash (tanner plan rows cols lift) (filled_word (tanner plan rows cols lift) word) ≡ false
        → (fill_answer plan rows cols lift word ≡ Ok (counts (tanner plan rows cols lift) word))
        × (fill_word plan rows cols lift word ≡ filled_word (tanner plan rows cols lift) word)
    unfolding fill_rules lowest
    not_refused e = answered None (lowest_accepted (word_rules plan rows cols lift word) _ valid ∙ lowest_next _ NoSolution [] e)

  -- the same of a plan and a word that pass
  module _ (e : None ≡ lowest (word_rules plan rows cols lift word)) where
    pub fillable : (p : Plan) → p.shape ≡ shape_of rows cols lift → Fillable p word
    fillable p q = let w = (word_accepted plan rows cols lift word).0 (sym e) in rw q (w.1, w.2)

    -- what `fill_valid` gives
    pub valid_filled : (fill_answer plan rows cols lift word ≡ filling (tanner plan rows cols lift) word)
        × (fill_word plan rows cols lift word ≡ filled_or (tanner plan rows cols lift) word)
    unfolding filling filled_or
    valid_filled =
        by_bool (clash G (filled_word G word))
        (λ t. rw t (clash_refused (sym e) t))
        (λ t. rw t (not_refused (sym e) t))
