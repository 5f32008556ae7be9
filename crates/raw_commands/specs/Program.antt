-- What becomes of an answer once the output is handed on to the sink behind one that gathers it.
use Rattle.std.specs.Prelude.{◌≡◌, Bool, true, false, Option, Ok, Err}
use Rattle.raw_shell.specs.declared.failure.Failure.TheVariants.{Refused, WriteFault}
use Rattle.raw_shell.specs.Seen.{SourceSeen, SinkSeen, WriteFails, Says}
use Rattle.raw_shell.specs.Gathering.{Tells}
use Rattle.raw_command_line.specs.declared.arguments.Command.{Command}
use Rattle.raw_inputs.specs.declared.flaw.InputFlaw.TheVariants as flaw
use Rattle.raw_owed.specs.Answers.{Answer, err_line}
use Rattle.raw_commands.specs.Ended.{Answered}
use Rattle.raw_commands.specs.Call.{Call}

-- a command with this answer has put its output whole
abbrev pub has_put : Answer → Bool
has_put (Ok ending) = true
has_put (Err (Refused (flaw.PastEnd line))) = true
has_put _ = false

-- The answer is right of the sink behind; a write fault is so only where that sink tells its bytes, and of any sink it says that
-- a call of it failed.
pub record IsHandedOn (command : Option Command) (source : SourceSeen) (out : SinkSeen) (answer : Answer) : Type 0 where
  pub answered : (answer ≡ Err WriteFault → Tells out.old) → Answered command source out answer
  pub failed : answer ≡ Err WriteFault → WriteFails out

-- a call of out failed, and err has the line that says so
pub record SaysWriteFault (call : Call) : Type 0 where
  pub failed : WriteFails call.seen.out
  pub said : Says call.seen.err (err_line WriteFault)
