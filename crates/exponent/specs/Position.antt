-- The two steps of a walk (document 01, "The plan and its graph"). Voltages are taken modulo the lift.
use Rattle.std.specs.Prelude.{ℕ, ◌+◌, ◌-◌, ◌%◌}
use Rattle.exponent.specs.declared.position.Position.{Position}

-- the voltage grows by the shift when the walk leaves a check for a column
abbrev pub forward : ℕ → Position → ℕ → ℕ → Position
forward lift p col shift = record { row = p.row; col = col; voltage = (p.voltage + shift) % lift }

-- and falls by it on the way back
abbrev pub back : ℕ → Position → ℕ → ℕ → Position
back lift p row shift = record { row = row; col = p.col; voltage = (p.voltage + (lift - shift)) % lift }
