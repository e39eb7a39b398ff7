-- Of several lists together, what a call leaves in one of them. Assumes nothing.
use mathlib.Core.Path.{◌≡◌, refl}
use Rattle.std.specs.Prelude.{Option, None, Some}
use Rattle.refusal.specs.declared.Refusal.{Refusal}
use Rattle.refusal.specs.Lent.{lent}

pub lent_of : {A B : Type 0} (of : A → B) (o : Option Refusal) (new old : A) → of (lent o new old) ≡ lent o (of new) (of old)
lent_of of None new old = refl
lent_of of (Some r) new old = refl
