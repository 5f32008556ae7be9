-- One byte of a source, and the bytes of a line that are held.
use Rattle.std.specs.Prelude.{◌≡◌, ℕ, ◌+◌, List, [], ◌∷◌, take, Option, Some, None, Result, Ok, Err}
use Rattle.std.specs.Io.KnownBytes.{Keeps, Consumes, IsAtEnd}
use Rattle.raw_io.specs.Causes.{Rose}
use Rattle.raw_io.specs.Sights.{SourceSight}
use Rattle.raw_io.specs.declared.Failed.{Failed}
use Rattle.raw_debug_live.specs.declared.line.TheConstants.{HELD}

-- the next byte was taken, or there is none, or the call failed
abbrev pub TakesByte : SourceSight → SourceSight → Result (Option ℕ) Failed → Type 0
TakesByte old new (Ok None) = IsAtEnd new.left × Consumes old.left new.left [] × (new.given ≡ old.given)
TakesByte old new (Ok (Some byte)) = Consumes old.left new.left (byte ∷ []) × (new.given ≡ old.given + 1)
TakesByte old new (Err e) = Rose old.faults new.faults × Keeps old.left new.left × (new.given ≡ old.given)

-- so many bytes of a line are held: where it has more, one more than a line may have
abbrev pub held : List ℕ → List ℕ
held line = take HELD line
