-- The answers of the two calls: refusals 1 to 6 and 17, and 1 to 6 and 21 (document 01, "Turned away"), and of both last 25 (document 02,
-- slip 7): a list of weights is wrong.
use Rattle.std.specs.Prelude.{ℕ, List, [], ◌∷◌, ◌++◌, ltb, ℤ, length, drop, Option, None, Some}
use Rattle.refusal.specs.declared.Refusal.{Refusal}
use Rattle.refusal.specs.declared.Refusal.TheVariants.{TextPlace, Token}
use Rattle.refusal.specs.Lowest.{Rule, refuse}
use Rattle.graph.specs.Count.{is_some}
use Rattle.exponent.specs.declared.Shape.{Shape}
use Rattle.exponent.specs.Limits.{plan_rules}
use Rattle.exponent.specs.Tanner.{graph_of}
use Rattle.weights.specs.Weights.{shape_of, weight_rules}
use Rattle.lines.specs.Alist.{alist}
use Rattle.lines.specs.Text.{text_of}
use Rattle.comparer.specs.Verdict.{departs}

-- the alist of a plan as text
abbrev pub alist_text : List ℤ → ℕ → ℕ → ℕ → List ℕ
alist_text plan rows cols lift = text_of (alist plan rows cols lift)

-- 17: the place is too short, with the length needed
abbrev pub room_rules : List ℕ → List ℕ → List Rule
room_rules text place = refuse (TextPlace (length text)) (ltb (length place) (length text)) ∷ []

-- and 25: what a valid plan is refused for
abbrev pub place_rules : List ℤ → Shape → List ℕ → List ℕ → List ℕ → List Rule
place_rules plan s byrow bycol place = room_rules (alist_text plan s.rows s.cols s.lift) place ++ weight_rules plan s byrow bycol

unfoldable pub write_rules : List ℤ → ℕ → ℕ → ℕ → List ℕ → List ℕ → List ℕ → List Rule
write_rules plan rows cols lift byrow bycol place = plan_rules plan rows cols lift ++ place_rules plan (shape_of rows cols lift) byrow bycol place

-- what the place then holds: the text and, past it, the bytes as they were; on a refusal all stays
abbrev pub laid : Option Refusal → List ℕ → List ℕ → List ℕ
laid None text place = text ++ drop (length text) place
laid (Some r) text place = place

-- 21: the place at which the text departs from both forms of the alist, where it does
abbrev pub place_of : Option ℕ → ℕ
place_of None = 0
place_of (Some place) = place

abbrev pub token_rules : Option ℕ → List Rule
token_rules wrong = refuse (Token (place_of wrong)) (is_some wrong) ∷ []

-- and 25
abbrev pub text_rules : List ℤ → Shape → List ℕ → List ℕ → List ℕ → List Rule
text_rules plan s byrow bycol text = token_rules (departs text (graph_of plan s)) ++ weight_rules plan s byrow bycol

unfoldable pub compare_rules : List ℤ → ℕ → ℕ → ℕ → List ℕ → List ℕ → List ℕ → List Rule
compare_rules plan rows cols lift byrow bycol text = plan_rules plan rows cols lift ++ text_rules plan (shape_of rows cols lift) byrow bycol text
