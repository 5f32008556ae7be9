-- Why lines are refused.
use Rattle.std.specs.Prelude.{ℕ}
use Rattle.raw_set_text.specs.declared.kind.SetKind.{SetKind}
use Rattle.raw_set_text.specs.declared.kind.SetRefusal.{SetRefusal}
use Rattle.raw_set_text.specs.declared.kind.SetRefusal.TheVariants.{At, Memory}

-- a refusal names this fault, at its line, or is want of memory
abbrev pub IsCauseOf : (ℕ → SetKind → Type 0) → SetRefusal → Type 0
IsCauseOf Fault (At line kind) = Fault line kind
IsCauseOf Fault Memory = Unit {0}
