-- What a call leaves in lent memory.
use Rattle.std.specs.Prelude.{Option, None, Some}
use Rattle.refusal.specs.declared.Refusal.{Refusal}

-- the new, or what was held where there is a refusal: a list, or several lists together
abbrev pub lent : {A : Type 0} → Option Refusal → A → A → A
lent None new old = new
lent (Some r) new old = old
