-- What a call answers.
use Rattle.std.specs.Prelude.{Option, None, Some, Result, Ok, Err, ⊤}

-- what it gives where there is no refusal, else the refusal
abbrev pub outcome : {A E : Type 0} → Option E → A → Result A E
outcome None x = Ok x
outcome (Some e) x = Err e

-- the same of a call that gives nothing but whether it is refused
abbrev pub ok_unless : {E : Type 0} → Option E → Result ⊤ E
ok_unless o = outcome o tt
