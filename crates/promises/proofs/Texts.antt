-- Slip 1: which texts agree with a plan. Assumes nothing.
use Rattle.std.specs.Prelude.{Ok}
use Rattle.refusal.specs.Answer.{outcome, ok_unless}
use Prim.Native.Nat.{ℕ}
use mathlib.Core.Path.{◌≡◌, refl, sym, ap, subst₂, ◌∙◌}
use mathlib.Core.Logic.{◌↔◌}
use mathlib.Core.List.{List, ◌++◌}
use Rattle.std.specs.Prelude.{Option, None, Some}
use native.Mathlib.Omega.{arith}
use lib.IntN.{ℤ}
use lib.ListN.{length, take}
use Rattle.refusal.specs.declared.Refusal.{Refusal}
use Rattle.refusal.specs.Lowest.{lowest}
use Rattle.refusal.proofs.Lowest.{none_append, none_after}
use Rattle.graph.specs.Graph.{Bipartite}
use Rattle.exponent.specs.declared.Shape.{Shape}
use Rattle.exponent.specs.Limits.{plan_rules}
use Rattle.exponent.specs.Tanner.{tanner}
use Rattle.exponent.proofs.Rules.{accepted, valid_none}
use Rattle.weights.specs.declared.Side.TheVariants.{Bits, Checks}
use Rattle.weights.specs.Weights.{shape_of, weights_of, Weighed, weight_rules}
use Rattle.weights.proofs.Weights.{right_exactly, lists_right}
use Rattle.tokens.specs.declared.Form.{Form}
use Rattle.tokens.specs.declared.Form.TheVariants.{Padded, Unpadded}
use Rattle.comparer.specs.Verdict.{departs_in, departs}
use Rattle.comparer.proofs.Forms.{agrees_exactly}
use Rattle.alist.specs.Calls.{alist_text, write_rules, laid, token_rules, compare_rules}
use Rattle.alist.proofs.Roundtrip.{form_text_agrees, written_lists, written_agrees}
use Rattle.promises.specs.Texts.{Agreeing, IsForm, AgreeingTexts}
use Rattle.promises.proofs.TextRows.{departs_at, at_departs}

-- a text departs from a form nowhere exactly where the comparer finds no place
form_exactly : (form : Form) (text : List ℕ) (G : Bipartite) → (departs_in form text G ≡ None) ↔ IsForm form text G
form_exactly form text G = (
  λ e place d. let f = sym e ∙ departs_at form text G place d in let z : ◌≡◌ {A = ℕ} 0 1 = cc in omega arith,
  λ f. by_place (departs_in form text G) refl f,
)
  where
    by_place : (o : Option ℕ) → departs_in form text G ≡ o → IsForm form text G → departs_in form text G ≡ None
    by_place None e f = e
    by_place (Some place) e f = absurd (f place (at_departs form text G place e))

agrees_none : (o : Option Refusal) → ok_unless o ≡ Ok tt → o ≡ None
agrees_none None e = refl
agrees_none (Some r) e = absurd (let z : ◌≡◌ {A = ℕ} 0 1 = cc in omega arith)

no_place : (o : Option ℕ) → lowest (token_rules o) ≡ None → o ≡ None
unfolding lowest
no_place None e = refl
no_place (Some place) e = absurd (let z : ◌≡◌ {A = ℕ} 0 1 = cc in omega arith)

place_none : (o : Option ℕ) → o ≡ None → lowest (token_rules o) ≡ None
unfolding lowest
place_none o e = ap (λ (p : Option ℕ). lowest (token_rules p)) e

-- 1 to 6 and then 21, by the place that 21 has: nothing applies exactly where the plan is valid and there is no place
accepts : (plan : List ℤ) (rows cols lift : ℕ) (place : Option ℕ)
    → (ok_unless (lowest (plan_rules plan rows cols lift ++ token_rules place)) ≡ Ok tt) ↔ ((ok_unless (lowest (plan_rules plan rows cols lift)) ≡ Ok tt) × (place ≡ None))
accepts plan rows cols lift place = (
  λ e. let n = (none_append (plan_rules plan rows cols lift) (token_rules place)).0 (agrees_none _ e) in (ap ok_unless n.0, no_place place n.1),
  λ h. ap ok_unless ((none_append (plan_rules plan rows cols lift) (token_rules place)).1 (valid_none _ h.0, place_none place h.1)),
)

-- with the plan's own lists 25 does not fall, so the comparison's other refusals are left
module _ (plan : List ℤ) (rows cols lift : ℕ) where
  abbrev s : Shape
  s = shape_of rows cols lift

  own : Weighed plan s (weights_of plan s Checks) (weights_of plan s Bits)
  own = record { rows_right = refl; cols_right = refl }

  without_25 : (text : List ℕ) → ok_unless (lowest (compare_rules plan rows cols lift (weights_of plan s Checks) (weights_of plan s Bits) text))
      ≡ ok_unless (lowest (plan_rules plan rows cols lift ++ token_rules (departs text (tanner plan rows cols lift))))
  unfolding compare_rules plan_rules
  without_25 text =
      ap ok_unless (none_after (plan_rules plan rows cols lift ++ token_rules (departs text (tanner plan rows cols lift))) (weight_rules plan s (weights_of plan s Checks) (weights_of plan s Bits))
      (lists_right plan s _ _ ((right_exactly plan s _ _).1 own)))

  -- where something was written, the lists were the plan's
  lists_own : (byrow bycol place : List ℕ) (n : ℕ) → outcome (lowest (write_rules plan rows cols lift byrow bycol place)) (length (alist_text plan rows cols lift)) ≡ Ok n
      → Agreeing plan rows cols lift (take n (laid (lowest (write_rules plan rows cols lift byrow bycol place)) (alist_text plan rows cols lift) place))
  lists_own byrow bycol place n e =
      let v = written_lists plan rows cols lift byrow bycol place n e in
      subst₂ (λ (b c : List ℕ). ok_unless (lowest (compare_rules plan rows cols lift b c (take n (laid (lowest (write_rules plan rows cols lift byrow bycol place)) (alist_text plan rows cols lift) place)))) ≡ Ok tt)
      v.rows_right v.cols_right (written_agrees plan rows cols lift byrow bycol place n e)

pub agreeing_texts : (plan : List ℤ) (rows cols lift : ℕ) → AgreeingTexts plan rows cols lift
agreeing_texts plan rows cols lift =
    let G = tanner plan rows cols lift in
    let plain = without_25 plan rows cols lift in
    record {
      either_form = λ text. (
        λ e. let n = (accepts plan rows cols lift (departs text G)).0 (sym (plain text) ∙ e) in
            let f = (agrees_exactly text G).0 n.1 in
            (n.0, (f.0, (form_exactly f.0 text G).0 f.1)),
        λ h. plain text ∙ (accepts plan rows cols lift (departs text G)).1 (h.0, (agrees_exactly text G).1 (h.1.0, (form_exactly h.1.0 text G).1 h.1.1)),
      );
      as_before = λ text e.
          let n = (accepts plan rows cols lift (departs_in Padded text G)).0 e in
          plain text ∙ (accepts plan rows cols lift (departs text G)).1 (n.0, (agrees_exactly text G).1 (Padded, n.1));
      unpadded_text = λ v. ap ok_unless (form_text_agrees plan rows cols lift _ _ ((accepted plan rows cols lift).0 (valid_none _ v)) (own plan rows cols lift) Unpadded);
      written_text = lists_own plan rows cols lift;
    }
