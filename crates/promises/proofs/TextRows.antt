-- Rows 17 and 21, of texts: the tests of the alist's writer and comparer say what the rows say. Assumes nothing.
use Prim.Native.Nat.{ℕ}
use mathlib.Core.Path.{◌≡◌, refl, sym, ap, subst}
use mathlib.Core.Bool.{true}
use mathlib.Core.List.{List, [], ◌∷◌}
use Rattle.std.specs.Prelude.{Option, None, Some}
use native.Mathlib.Omega.{arith}
use borrow.Author.Tests.{ltb-true, lt-ltb}
use lib.IntN.{ℤ}
use lib.ListN.{length}
use Rattle.refusal.specs.declared.Refusal.TheVariants.{TextPlace, Token}
use Rattle.graph.specs.Count.{is_some}
use Rattle.graph.specs.Graph.{Bipartite}
use Rattle.graph.proofs.Decide.{both_ways}
use Rattle.exponent.specs.Limits.{plan_rules}
use Rattle.exponent.specs.Tanner.{tanner}
use Rattle.weights.specs.Weights.{shape_of, weight_rules}
use Rattle.tokens.specs.declared.Form.{Form}
use Rattle.tokens.specs.declared.Form.TheVariants.{Padded, Unpadded}
use Rattle.lines.specs.Alist.{lines_in}
use Rattle.lines.specs.Text.{items_of}
use Rattle.comparer.specs.Verdict.{departs_in, departs}
use Rattle.comparer.proofs.Forms.{later_place, place_later}
use Rattle.alist.specs.Calls.{alist_text, room_rules, place_rules, write_rules, place_of, token_rules, text_rules, compare_rules}
use Rattle.promises.specs.TurnedAway.{PlanRow, RoomRow, row_17, DepartsAt, TokenRow, row_21, WeightRow, ◌or◌}
use Rattle.promises.proofs.Matching.{Listed, Matches, join, at_rule, one_rule}
use Rattle.promises.proofs.PlanRows.{plan_matches}
use Rattle.promises.proofs.WeightRows.{weight_matches}
use Rattle.promises.proofs.Tokens.{found_wrong, wrong_found}

-- 17
room_matches : (text place : List ℕ) → Matches (room_rules text place) (RoomRow text place)
room_matches text place = one_rule (TextPlace (length text)) _ (RoomRow text place) (λ e. row_17 (ltb-true _ _ e)) row
  where
    row : (n : ℕ) (l : List ℕ) → RoomRow text place n l → Listed (room_rules text place) n l
    row n l (row_17 h) = at_rule _ _ refl refl (lt-ltb (length place) (length text) h)

-- THE PLACE at which a text departs from a form
module _ (form : Form) (text : List ℕ) (G : Bipartite) (place : ℕ) where
  pub departs_at : DepartsAt form text G place → departs_in form text G ≡ Some place
  unfolding departs_in
  departs_at h = found_wrong text form (items_of form (lines_in form G)) 0 place h (omega arith)

  pub at_departs : departs_in form text G ≡ Some place → DepartsAt form text G place
  unfolding departs_in
  at_departs e = wrong_found text form (items_of form (lines_in form G)) 0 place (omega arith) e

-- 21
token_matches : (text : List ℕ) (G : Bipartite) → Matches (token_rules (departs text G)) (TokenRow text G)
token_matches text G = one_rule (Token (place_of (departs text G))) _ (TokenRow text G) told row
  where
    is_some_law : (o : Option ℕ) → is_some o ≡ true → o ≡ Some (place_of o)
    is_some_law None e = both_ways e refl
    is_some_law (Some place) e = refl

    told : is_some (departs text G) ≡ true → TokenRow text G 21 (place_of (departs text G) ∷ [])
    told e =
        let w = place_later text G _ (is_some_law (departs text G) e) in
        subst (λ (k : ℕ). TokenRow text G 21 (k ∷ [])) (sym w.is) (row_21 w.p w.q (at_departs Padded text G w.p w.padded) (at_departs Unpadded text G w.q w.unpadded))

    row : (n : ℕ) (l : List ℕ) → TokenRow text G n l → Listed (token_rules (departs text G)) n l
    row n l (row_21 p q d f) =
        let e = later_place text G p q (departs_at Padded text G p d) (departs_at Unpadded text G q f) in
        at_rule _ _ refl (ap (λ (o : Option ℕ). place_of o ∷ []) e) (ap is_some e)

-- THE CALLS
module _ (plan : List ℤ) (rows cols lift : ℕ) (byrow bycol : List ℕ) where
  pub write_matches : (place : List ℕ) → Matches (write_rules plan rows cols lift byrow bycol place)
      (PlanRow plan rows cols lift or (RoomRow (alist_text plan rows cols lift) place or WeightRow plan rows cols lift byrow bycol))
  unfolding write_rules
  write_matches place =
      let s = shape_of rows cols lift in
      join (plan_rules plan rows cols lift) (place_rules plan s byrow bycol place) _ _ (plan_matches plan rows cols lift)
      (join (room_rules (alist_text plan rows cols lift) place) (weight_rules plan s byrow bycol) _ _ (room_matches (alist_text plan rows cols lift) place) (weight_matches plan s byrow bycol))

  pub compare_matches : (text : List ℕ) → Matches (compare_rules plan rows cols lift byrow bycol text)
      (PlanRow plan rows cols lift or (TokenRow text (tanner plan rows cols lift) or WeightRow plan rows cols lift byrow bycol))
  unfolding compare_rules
  compare_matches text =
      let s = shape_of rows cols lift in
      join (plan_rules plan rows cols lift) (text_rules plan s byrow bycol text) _ _ (plan_matches plan rows cols lift)
      (join (token_rules (departs text (tanner plan rows cols lift))) (weight_rules plan s byrow bycol) _ _ (token_matches text (tanner plan rows cols lift)) (weight_matches plan s byrow bycol))
