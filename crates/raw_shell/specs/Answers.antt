-- How a call of a program ended: its status, and its line on err.
use Rattle.std.specs.Prelude.{ℕ, List, ◌++◌, codes, decimal, Result, Ok, Err}
use Rattle.raw_model.specs.declared.ending.Ending.TheVariants as rest
use Rattle.raw_shell.specs.declared.ending.CommandEnding.{CommandEnding}
use Rattle.raw_shell.specs.declared.ending.CommandEnding.TheVariants.{Done, Rested, Unlawful, Unproved, Refuted}
use Rattle.raw_shell.specs.declared.failure.Failure.{Failure}
use Rattle.raw_shell.specs.declared.failure.Failure.TheVariants.{Use, Refused, ReadFault, WriteFault, Memory, TooLong}
use Rattle.raw_shell.specs.Seen.{SinkSeen, Untouched, Says}

-- how a call of a program ended: as a command ends that was done, or why it was not done
abbrev pub Answer : Type 0 → Type 0
Answer F = Result CommandEnding (Failure F)

-- the status of a command that was done
abbrev pub ending_status : CommandEnding → ℕ
ending_status Done = 0
ending_status (Rested rest.Done) = 0
ending_status (Rested rest.Deadlock) = 3
ending_status (Rested rest.Stuck) = 4
ending_status (Rested rest.Trapped) = 5
ending_status (Rested rest.Limit) = 6
ending_status Unlawful = 11
ending_status Unproved = 12
ending_status Refuted = 13

-- the status of a command that was not done
abbrev pub failure_status : {F : Type 0} → Failure F → ℕ
failure_status Use = 2
failure_status (Refused flaw) = 2
failure_status ReadFault = 7
failure_status WriteFault = 8
failure_status Memory = 9
failure_status TooLong = 10

-- the status with which the program ends
abbrev pub status_of : {F : Type 0} → Answer F → ℕ
status_of (Ok ending) = ending_status ending
status_of (Err failure) = failure_status failure

-- the line of a refusal: where, in words and as a number, and why
abbrev pub refused_line : List ℕ → ℕ → List ℕ → List ℕ
refused_line place number kind = place ++ (decimal number ++ (codes ": " ++ (kind ++ codes "\n")))

-- the line on err of a command that was not done, where each flaw has this line
abbrev pub err_line : {F : Type 0} → (F → List ℕ) → Failure F → List ℕ
err_line line Use = codes "refused use\n"
err_line line (Refused flaw) = line flaw
err_line line ReadFault = codes "read fault\n"
err_line line WriteFault = codes "write fault\n"
err_line line Memory = codes "no memory\n"
err_line line TooLong = codes "input too long\n"

-- what stands on err after an answer: nothing was put where the command was done, and else the line of its failure
abbrev pub Said : {F : Type 0} → (F → List ℕ) → SinkSeen → Answer F → Type 0
Said line err (Ok ending) = Untouched err
Said line err (Err failure) = Says err (err_line line failure)
