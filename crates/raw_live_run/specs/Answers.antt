-- How a call of the program ended, and the texts that name the program.
use Rattle.std.specs.Prelude.{List, ◌++◌, ℕ, codes, Result, Ok, Err}
use Rattle.raw_model.specs.declared.ending.Ending.{Ending}
use Rattle.raw_live.specs.declared.live.Halt.{Halt}
use Rattle.raw_live.specs.declared.live.Halt.TheVariants as halt
use Rattle.raw_shell.specs.declared.ending.CommandEnding.TheVariants.{Rested}
use Rattle.raw_shell.specs.declared.failure.Failure.TheVariants.{WriteFault, Memory}
use Rattle.raw_shell.specs.declared.arguments.FixedText.{FixedText}
use Rattle.raw_shell.specs.Answers as shell
use Rattle.raw_shell.specs.Arguments as words
use Rattle.raw_live_head.specs.declared.flaw.LineFlaw.{LineFlaw}
use Rattle.raw_live_head.specs.Flaws.{Failure, failure_of}

-- how a call of the program ended: as the grid came to rest, or why it was not fed or shown to the end
abbrev pub Answer : Type 0
Answer = Result Ending Failure

-- an answer of this program as one of any program
abbrev pub as_program_answer : Answer → shell.Answer LineFlaw
as_program_answer (Ok how) = Ok (Rested how)
as_program_answer (Err failure) = Err failure

-- the status of an answer
abbrev pub status_of : Answer → ℕ
status_of answer = shell.status_of (as_program_answer answer)

-- what became of live input, as an answer
abbrev pub answer_of : Result Ending Halt → Answer
answer_of (Ok how) = Ok how
answer_of (Err (halt.Stopped why)) = Err (failure_of why)
answer_of (Err halt.Write) = Err WriteFault
answer_of (Err halt.Memory) = Err Memory

-- what `--help` writes
unfoldable pub help_text : List ℕ
help_text =
    codes "rawlive: feeds a grid of tiles and switches from input that is still open\n"
    ++ codes "\n"
    ++ codes "rawlive              reads a set, feeds it, and writes what its sinks receive\n"
    ++ codes "rawlive --help       writes this text\n"
    ++ codes "rawlive --version    writes the version\n"
    ++ codes "\n"
    ++ codes "--workers N          the grid is run by N threads, 1 to 64; else by 1 to 4\n"
    ++ codes "\n"
    ++ codes "Standard input has the text of a set (as rawgrid reads it), a line\n"
    ++ codes "    live\n"
    ++ codes "and then lines that each give a source a word, which may come at any time:\n"
    ++ codes "    put NET X Y SIDE W\n"
    ++ codes "After each word the grid runs to rest. What sink P received is handed on to be\n"
    ++ codes "written before the next word is taken, and at the end how the grid came to rest:\n"
    ++ codes "    got P W              P in decimal, W as eight hexadecimal digits\n"
    ++ codes "    rest OUTCOME         done, deadlock, stuck, trapped or limit\n"
    ++ codes "An example:\n"
    ++ codes "    rawlive < examples/two-words.live\n"
    ++ codes "\n"
    ++ codes "status  0 done                            6 the limit of instructions\n"
    ++ codes "        2 refused words or input          7 standard input failed\n"
    ++ codes "        3 deadlock: a cycle of waits      8 standard output failed\n"
    ++ codes "        4 stuck: waits for one that       9 no memory\n"
    ++ codes "          has stopped                    10 input over 33,554,432 bytes\n"
    ++ codes "        5 trapped\n"
    ++ codes "On 2 and 7 to 10 standard error has one line, of a faulty line of input\n"
    ++ codes "    refused line L: KIND\n"
    ++ codes "\n"
    ++ codes "docs/HANDBOOK.md has a lesson, docs/rawlive.1 all kinds of faults.\n"

-- what `--version` writes
unfoldable pub version_text : List ℕ
version_text = codes "rawlive 0.2.0\n"

-- what a fixed text is
abbrev pub fixed_text_of : FixedText → List ℕ
fixed_text_of text = words.fixed_text_by help_text version_text text
