-- Values or faults, one after another: the first fault stays.
use Rattle.std.specs.Prelude.{Bool, Option, Some, None, Result, Ok, Err, if◌then◌else◌}
use Rattle.raw_asm.specs.declared.kind.AsmKind.{AsmKind}
use Rattle.raw_asm.specs.declared.kind.AsmKind.TheVariants.{RangeOf}

-- the value goes on, or the fault stays
infixl 10 ◌>>=◌
abbrev pub ◌>>=◌ : {A B : Type 0} → Result A AsmKind → (A → Result B AsmKind) → Result B AsmKind
(Ok x) >>= f = f x
(Err kind) >>= f = Err kind

-- the value, or this fault where there is none
abbrev pub or_fault : {A : Type 0} → AsmKind → Option A → Result A AsmKind
or_fault kind None = Err kind
or_fault kind (Some x) = Ok x

-- the value where it is in its range
abbrev pub in_range : {A : Type 0} → Bool → A → Result A AsmKind
in_range fits x = if fits then Ok x else Err RangeOf

-- the fault, or else what follows
abbrev pub unless_fault : {A : Type 0} → Option AsmKind → Result A AsmKind → Result A AsmKind
unless_fault None result = result
unless_fault (Some kind) result = Err kind
