-- A front of a text that was put on a sink.
use Rattle.std.proofs.Common.{ℕ, List, inl}
use Rattle.raw_io.specs.Writing.{AppendsProperFront, grown}
use Rattle.raw_shell.specs.declared.ending.CommandEnding.{CommandEnding}
use Rattle.raw_shell.specs.Seen.{SinkSeen, WriteFails}
use Rattle.raw_shell.proofs.Fronts.{front_put}
use Rattle.raw_command_line.specs.declared.arguments.Command.{Command}
use Rattle.raw_owed.specs.Owed.{Owes, IsDue}
use Rattle.raw_owed.specs.Obeyed.{PutsFront}

-- a proper front of what is due, and the sink failed
pub puts_due : (command : Command) (input : List ℕ) (out : SinkSeen) (text : List ℕ) → IsDue command input text
    → AppendsProperFront out.old.bytes out.new.bytes text → WriteFails out → PutsFront command input out
puts_due command input out text due front failed = record {
  output = text;
  due = due;
  count = grown out.old.bytes out.new.bytes;
  short = front.short;
  put = front_put out.old.bytes out.new.bytes text front.front;
  failed = failed;
}

-- the same of what a command owes that is done
pub puts_front : (command : Command) (input : List ℕ) (out : SinkSeen) (text : List ℕ) → (ending : CommandEnding) × Owes command input text ending
    → AppendsProperFront out.old.bytes out.new.bytes text → WriteFails out → PutsFront command input out
puts_front command input out text owed front failed = puts_due command input out text (inl owed) front failed
