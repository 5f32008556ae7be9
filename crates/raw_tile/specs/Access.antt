-- What a load makes of what it read.
use Rattle.std.specs.Prelude.{ℕ, Option, Some, None, Result, Ok, Err}
use Rattle.raw_model.specs.declared.marks.Cause.{Cause}
use Rattle.raw_model.specs.declared.marks.Mark.TheVariants.{Trapped}
use Rattle.raw_model.specs.Local.{TileLocal}
use Rattle.raw_model.specs.TileTable.{TileEffect, gives_at, following, stops}

-- a value, or the fault where there is one
abbrev pub value_unless : {A : Type 0} → Option Cause → A → Result A Cause
value_unless None value = Ok value
value_unless (Some cause) value = Err cause

-- the value that was read at an address goes to the register, or the tile traps
abbrev pub gives_read : ℕ → TileLocal → ℕ → ℕ → Result ℕ Cause → TileEffect
gives_read size l register address (Ok value) = gives_at size l register value (following l) (Some address)
gives_read size l register address (Err cause) = stops l (Trapped cause)
