-- What is wrong with a line of live input, and the line that tells it.
use Rattle.std.specs.Prelude.{List, ℕ, codes}
use Rattle.raw_set_text.specs.Kinds.{set_kind_text}
use Rattle.raw_live_text.specs.Kinds.{line_fault_text}
use Rattle.raw_live_text.specs.declared.stop.Stop.{Stop}
use Rattle.raw_live_text.specs.declared.stop.Stop.TheVariants as stop
use Rattle.raw_shell.specs.declared.failure.Failure.{Failure as FailureOf}
use Rattle.raw_shell.specs.declared.failure.Failure.TheVariants.{Refused, ReadFault, Memory, TooLong}
use Rattle.raw_shell.specs.Answers.{refused_line}
use Rattle.raw_live_head.specs.declared.flaw.LineFlaw.{LineFlaw}
use Rattle.raw_live_head.specs.declared.flaw.LineFlaw.TheVariants.{Set, Put}

-- why the input was not read to its end, or the output not written
abbrev pub Failure : Type 0
Failure = FailureOf LineFlaw

-- why the reading of lines stopped, as a failure
abbrev pub failure_of : Stop → Failure
failure_of (stop.At line kind) = Refused (Put line kind)
failure_of stop.Read = ReadFault
failure_of stop.TooLong = TooLong
failure_of stop.Memory = Memory

-- the line on err of a faulty line: its number, and what is wrong with it
abbrev pub flaw_line : LineFlaw → List ℕ
flaw_line (Set line kind) = refused_line (codes "refused line ") line (set_kind_text kind)
flaw_line (Put line kind) = refused_line (codes "refused line ") line (line_fault_text kind)
