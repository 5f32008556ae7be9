-- A script as a whole: where it goes, where it goes past the end of the serial order, and what it writes.
use Rattle.std.specs.Prelude.{◌≡◌, ℕ, zero, suc, ◌+◌, ◌-◌, ◌≤◌, Result, OnOk, IfErr, Bool, false, nat_lt, Option, Some, None, List, [], ◌∷◌, ◌++◌, codes, length, if◌then◌else◌}
use Rattle.std.specs.List.{position}
use Rattle.std.specs.Io.KnownBytes.{Appends}
use Rattle.raw_io.specs.Causes.{Rose}
use Rattle.raw_io.specs.Sights.{Sight}
use Rattle.raw_io.specs.Writing.{AppendsProperFront}
use Rattle.raw_network.specs.Network.{count_of}
use Rattle.raw_grid.specs.declared.parts.ProcId.{ProcId}
use Rattle.raw_model.specs.Program.{ProgramSet}
use Rattle.raw_model.specs.Serial.{serial}
use Rattle.raw_debug.specs.declared.command.Command.{Command}
use Rattle.raw_debug.specs.declared.command.Command.TheVariants.{At, Count, Back, Forth, Until, Last, Finish, Rest}
use Rattle.raw_debug.specs.declared.debugging.DebugRefusal.{DebugRefusal}
use Rattle.raw_debug.specs.declared.debugging.DebugRefusal.TheVariants.{BadCommand, PastEnd, Fault}
use Rattle.raw_debug.specs.declared.debugging.DebugRefusal.TheVariants as refusal
use Rattle.raw_debug.specs.Commands.{LabelPlaces, Meaning, first_processor, led_to, readings, bad_command}
use Rattle.raw_debug.specs.Commands.Meaning.{Says, Echoes}
use Rattle.raw_debug.specs.Walking.{state_after, count_at, moment_of}
use Rattle.raw_debug.specs.Stops.{stop_after, last_up_to, stopped_after}
use Rattle.raw_debug.specs.Answers.{answer, echo_line}

-- where a script stands: at a moment of the serial order, with a current processor
pub record Spot : Type 0 where
  pub moment : ℕ
  pub current : ProcId

-- it begins at the start, with processor 0
abbrev pub first_spot : Spot
first_spot = record { moment = 0; current = first_processor }

-- where so many steps forth lead; none leave it where it is
abbrev pub forth_to : ProgramSet → Spot → ℕ → Option ℕ
forth_to set spot zero = Some spot.moment
forth_to set spot (suc steps) = moment_of set spot.current.0 (count_at set spot.current.0 spot.moment + suc steps)

-- the moment to which a command leads, if there is one; a step back past the start leads to the start
abbrev pub leads_to : ProgramSet → Spot → Command → Option ℕ
leads_to set spot (At p steps) = moment_of set p.0 steps
leads_to set spot (Count p steps) = moment_of set p.0 steps
leads_to set spot (Back steps) = moment_of set spot.current.0 (count_at set spot.current.0 spot.moment - steps)
leads_to set spot (Forth steps) = forth_to set spot steps
leads_to set spot (Until p aim) = stop_after set spot.moment p.0 aim
leads_to set spot (Last p aim) = last_up_to set spot.moment p.0 aim
leads_to set spot Finish = stopped_after set spot.moment spot.current.0
leads_to set spot Rest = Some (length (serial set))
leads_to set spot _ = Some spot.moment

-- where a script stands that was led to this moment; where it was led to none the moment stays
abbrev pub moved : Spot → ProcId → Option ℕ → Spot
moved spot current None = record { moment = spot.moment; current = current }
moved spot current (Some moment) = record { moment = moment; current = current }

-- where it stands behind a line
abbrev pub moved_by : ProgramSet → Spot → Meaning → Spot
moved_by set spot (Says command) = moved spot (led_to spot.current command) (leads_to set spot command)
moved_by set spot _ = spot

-- what a command writes that led to this moment, or to none
abbrev pub told : ProgramSet → ProcId → Command → Option ℕ → List ℕ
told set current command None = codes "none\n"
told set current command (Some moment) = answer set moment (state_after set moment) current.0 command

-- the command names more steps of a processor than it has in the serial order
abbrev pub goes_past : ProgramSet → Command → Bool
goes_past set (At p steps) = nat_lt (count_of p.0 (serial set)) steps
goes_past set _ = false

-- the line does
abbrev pub is_past : ProgramSet → Meaning → Bool
is_past set (Says command) = goes_past set command
is_past set _ = false

-- the place, from 0, of the first line that goes past the end
unfoldable pub past_end : LabelPlaces → ProgramSet → List (List (List ℕ)) → Option ℕ
past_end labels set lines = position (is_past set) (readings labels set lines)

-- what a line writes, from where the script stands
abbrev pub script_text_of : ProgramSet → Spot → Meaning → List ℕ
script_text_of set spot (Says command) = told set (led_to spot.current command) command (leads_to set spot command)
script_text_of set spot (Echoes tokens) = echo_line tokens
script_text_of set spot _ = []

-- the same, but nothing where it goes past the end
abbrev pub line_text : ProgramSet → Spot → Meaning → List ℕ
line_text set spot reading = if is_past set reading then [] else script_text_of set spot reading

-- what these lines write, from where the script stands: all of them, or those before the first that goes past the end
abbrev pub text_from : ProgramSet → Spot → List Meaning → List ℕ
text_from set spot [] = []
text_from set spot (reading ∷ readings) =
    if is_past set reading then []
    else script_text_of set spot reading ++ text_from set (moved_by set spot reading) readings

-- the output of a script
unfoldable pub script_text : LabelPlaces → ProgramSet → List (List (List ℕ)) → List ℕ
script_text labels set lines = text_from set first_spot (readings labels set lines)

-- why a script on these lines, which come after so many others and are counted from 1, was refused; `old` and `new`
-- are the sights of the sink before and after
abbrev pub IsCause : LabelPlaces → ProgramSet → ℕ → List (List (List ℕ)) → Sight → Sight → DebugRefusal → Type 0
IsCause labels set from lines old new (BadCommand line) = (k : ℕ) × (bad_command labels set lines ≡ Some k) × (line ≡ from + k + 1)
IsCause labels set from lines old new (PastEnd line) =
    (k : ℕ) × (bad_command labels set lines ≡ None) × (past_end labels set lines ≡ Some k) × (line ≡ from + k + 1)
    × Appends old.bytes new.bytes (script_text labels set lines)
IsCause labels set from lines old new Fault =
    (bad_command labels set lines ≡ None) × AppendsProperFront old.bytes new.bytes (script_text labels set lines) × Rose old.faults new.faults
IsCause labels set from lines old new refusal.Memory = bad_command labels set lines ≡ None

-- a refusal that comes once the machine is opened
abbrev pub IsAfterOpening : DebugRefusal → Type 0
IsAfterOpening (PastEnd line) = Unit {0}
IsAfterOpening Fault = Unit {0}
IsAfterOpening _ = ⊥

-- a refusal after which the sink is as it was
abbrev pub IsUntouched : {K : Type 0} → K → K → DebugRefusal → Type 0
IsUntouched old new (BadCommand line) = new ≡ old
IsUntouched old new refusal.Memory = new ≡ old
IsUntouched old new _ = Unit {0}

-- the lines were run through: all of them, or those before the first that goes past the end, or a write failed
pub record IsRunThrough {T : Type 0} (labels : LabelPlaces) (set : ProgramSet) (from : ℕ) (lines : List (List (List ℕ))) (old new : Sight) (result : Result T DebugRefusal) : Type 0 where
  pub ok : OnOk result ((past_end labels set lines ≡ None) × Appends old.bytes new.bytes (script_text labels set lines))
  pub cause : IfErr result (IsCause labels set from lines old new)
  pub after : IfErr result IsAfterOpening
  pub count : old.faults ≤ new.faults
