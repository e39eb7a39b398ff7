-- Document 02, slip 1: which texts agree with a plan, over the definitions that the calls answer by.
use Rattle.std.specs.Prelude.{Ok}
use Rattle.refusal.specs.Answer.{outcome, ok_unless}
use Rattle.std.specs.Prelude.{ℕ, ◌≡◌, ◌↔◌, List, ◌++◌, ℤ, length, take}
use Rattle.refusal.specs.Lowest.{lowest}
use Rattle.graph.specs.Graph.{Bipartite}
use Rattle.exponent.specs.Limits.{plan_rules}
use Rattle.exponent.specs.Tanner.{tanner}
use Rattle.weights.specs.declared.Side.TheVariants.{Bits, Checks}
use Rattle.weights.specs.Weights.{shape_of, weights_of}
use Rattle.tokens.specs.declared.Form.{Form}
use Rattle.tokens.specs.declared.Form.TheVariants.{Padded, Unpadded}
use Rattle.lines.specs.Alist.{lines_in}
use Rattle.lines.specs.Text.{text_of}
use Rattle.comparer.specs.Verdict.{departs_in}
use Rattle.alist.specs.Calls.{alist_text, write_rules, laid, token_rules, compare_rules}
use Rattle.promises.specs.TurnedAway.{DepartsAt}

-- the comparison answers that a text agrees; the lists of weights that it is lent are the plan's (slip 7)
abbrev pub Agreeing : List ℤ → ℕ → ℕ → ℕ → List ℕ → Type 0
Agreeing plan rows cols lift text =
    let s = shape_of rows cols lift in
    ok_unless (lowest (compare_rules plan rows cols lift (weights_of plan s Checks) (weights_of plan s Bits) text)) ≡ Ok tt

-- a text is a form of an alist, whole: it departs from it nowhere
abbrev pub IsForm : Form → List ℕ → Bipartite → Type 0
IsForm form text G = (place : ℕ) → DepartsAt form text G place → ⊥

pub record AgreeingTexts (plan : List ℤ) (rows cols lift : ℕ) : Type 0 where
  -- a text agrees exactly when the plan is valid and the text is one of the two forms of its alist
  pub either_form : (text : List ℕ)
      → Agreeing plan rows cols lift text ↔ ((ok_unless (lowest (plan_rules plan rows cols lift)) ≡ Ok tt) × ((form : Form) × IsForm form text (tanner plan rows cols lift)))
  -- every text that agreed before does so now; before, the padded form was the only one
  pub as_before : (text : List ℕ)
      → ok_unless (lowest (plan_rules plan rows cols lift ++ token_rules (departs_in Padded text (tanner plan rows cols lift)))) ≡ Ok tt
      → Agreeing plan rows cols lift text
  -- the unpadded text of a valid plan agrees
  pub unpadded_text : ok_unless (lowest (plan_rules plan rows cols lift)) ≡ Ok tt → Agreeing plan rows cols lift (text_of (lines_in Unpadded (tanner plan rows cols lift)))
  -- what was written into a place agrees
  pub written_text : (byrow bycol place : List ℕ) (n : ℕ)
      → let text = alist_text plan rows cols lift in
      let refusal = lowest (write_rules plan rows cols lift byrow bycol place) in
      outcome refusal (length text) ≡ Ok n → Agreeing plan rows cols lift (take n (laid refusal text place))
