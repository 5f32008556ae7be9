-- Why a command was not done, and the line of each flaw of an input.
use Rattle.std.specs.Prelude.{ℕ, List, codes}
use Rattle.raw_set_text.specs.Kinds.{set_kind_text}
use Rattle.raw_image.specs.Kinds.{image_kind_text}
use Rattle.raw_shell.specs.declared.failure.Failure.{Failure as FailureOf}
use Rattle.raw_shell.specs.Answers.{refused_line}
use Rattle.raw_inputs.specs.declared.flaw.LineKind.{LineKind}
use Rattle.raw_inputs.specs.declared.flaw.LineKind.TheVariants.{Set, BadEntry, BadCommand}
use Rattle.raw_inputs.specs.declared.flaw.Refusal.{Refusal}
use Rattle.raw_inputs.specs.declared.flaw.Refusal.TheVariants.{Line, Image}
use Rattle.raw_inputs.specs.declared.flaw.InputFlaw.{InputFlaw}
use Rattle.raw_inputs.specs.declared.flaw.InputFlaw.TheVariants as flaw

-- why a command was not done
abbrev pub Failure : Type 0
Failure = FailureOf InputFlaw

-- what is wrong with a line
abbrev pub line_kind_text : LineKind → List ℕ
line_kind_text (Set kind) = set_kind_text kind
line_kind_text BadEntry = codes "bad-entry"
line_kind_text BadCommand = codes "bad-command"

-- where an input is refused, and why: a text at a line, an image at an offset in bytes
abbrev pub refusal_line : Refusal → List ℕ
refusal_line (Line line kind) = refused_line (codes "refused line ") line (line_kind_text kind)
refusal_line (Image offset kind) = refused_line (codes "refused image at ") offset (image_kind_text kind)

-- the line on err of a flaw
abbrev pub flaw_line : InputFlaw → List ℕ
flaw_line (flaw.At refusal) = refusal_line refusal
flaw_line (flaw.PastEnd line) = refused_line (codes "refused line ") line (codes "past-end")
