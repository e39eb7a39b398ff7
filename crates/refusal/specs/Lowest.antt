-- The lowest numbered refusal that applies (document 01, "Turned away"). A call lists its refusals in rising order of number,
-- each with the test that says whether it applies; the answer is the first whose test holds.
use Rattle.std.specs.Prelude.{ℕ, ◌≤◌, Bool, true, cond, ◌&&◌, List, [], ◌∷◌, ltb}
use Rattle.std.specs.Prelude.{Option, None, Some}
use Rattle.refusal.specs.declared.Refusal.{Refusal}
use Rattle.refusal.specs.Number.{number}

pub record Rule : Type 0 where
  pub applies : Bool
  pub refusal : Refusal

-- the refusal r, where the test holds
abbrev pub refuse : Refusal → Bool → Rule
refuse r test = record { applies = test; refusal = r }

-- the refusal of the first rule that applies
unfoldable pub lowest : List Rule → Option Refusal
lowest [] = None
lowest (rule ∷ rules) = let later = lowest rules in cond rule.applies (Some rule.refusal) later

-- of two refusals the one with the lower number; where the numbers are the same, the first
abbrev pub lower : Option Refusal → Option Refusal → Option Refusal
lower None b = b
lower (Some r) None = Some r
lower (Some r) (Some s) = cond (ltb (number s) (number r)) (Some s) (Some r)

-- a refusal, or, where there is none, a later one
abbrev pub or_else : Option Refusal → Option Refusal → Option Refusal
or_else None later = later
or_else (Some r) later = Some r

-- the numbers of the rules rise from n on
abbrev pub rise_from : ℕ → List Rule → Bool
rise_from n [] = true
rise_from n (rule ∷ rules) = ltb n (number rule.refusal) && rise_from (number rule.refusal) rules

-- computed for the list of each call, whatever its tests and values are
abbrev pub rising : List Rule → Bool
rising rules = rise_from 0 rules

-- rule stands in the list
pub data In (rule : Rule) : List Rule → Type 0 where
  here : {rules : List Rule} → In rule (rule ∷ rules)
  later : {other : Rule} {rules : List Rule} → In rule rules → In rule (other ∷ rules)

-- r applies, and none with a lower number does
pub record LowestThat (rules : List Rule) (r : Refusal) : Type 0 where
  pub applies : In (refuse r true) rules
  pub none_lower : (s : Refusal) → In (refuse s true) rules → number r ≤ number s
