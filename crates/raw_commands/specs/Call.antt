-- A call of this program.
use Rattle.raw_shell.specs.Call as shell
use Rattle.raw_command_line.specs.declared.arguments.Command.{Command}

-- a call whose words may be one of this program's commands
abbrev pub Call : Type 0
Call = shell.Call Command
