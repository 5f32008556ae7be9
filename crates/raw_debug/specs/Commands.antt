-- The lines of a script: which commands they say, and which processor is the current one behind them.
use Rattle.std.specs.Prelude.{ℕ, ◌+◌, ◌*◌, ◌%◌, Bool, true, false, ◌&&◌, ◌==◌, nat_lt, nat_le, Option, Some, None, List, [], ◌∷◌, codes, drop, length, if◌then◌else◌}
use Rattle.std.specs.List.{position}
use Rattle.std.specs.Str.{bytes_eq}
use Rattle.raw_text.specs.Number.{number_of}
use Rattle.raw_grid.specs.declared.parts.ProcId.{ProcId}
use Rattle.raw_grid.specs.Topology.{tile_count, proc_count, tile_number, switch_at}
use Rattle.raw_grid.specs.Wires.{wires_of, producer_of}
use Rattle.raw_model.specs.Program.{ProgramSet, memory_size}
use Rattle.raw_debug.specs.declared.command.Aim.TheVariants.{Pc, Sends, SendsAny, Stores, StoresAny, Sets, SetsAny}
use Rattle.raw_debug.specs.declared.command.Goal.{Goal}
use Rattle.raw_debug.specs.declared.command.Command.{Command}
use Rattle.raw_debug.specs.declared.command.Command.TheVariants.{At, Count, Back, Forth, Until, Last, Finish, Rest, Where, All, Registers, Memory, Wires, Waits, Code, Passed}
use Rattle.raw_debug.specs.declared.command.Reading.{Reading}
use Rattle.raw_debug.specs.declared.command.Reading.TheVariants as reading

-- the processor with this number
abbrev pub numbered : ProgramSet → Option ℕ → Option ProcId
numbered set None = None
numbered set (Some p) = if nat_lt p (proc_count set.topo) then Some (record { 0 = p }) else None

-- what the word says, the tile or the switch, in column x and row y
abbrev pub called : ProgramSet → List ℕ → ℕ → ℕ → Option ProcId
called set word x y =
    if bytes_eq word (codes "tile") then Some (record { 0 = tile_number set.topo x y })
    else (if bytes_eq word (codes "switch") then Some (record { 0 = switch_at set.topo x y }) else None)

-- the processor that a word, a column and a row on the grid name
abbrev pub named : ProgramSet → List ℕ → Option ℕ → Option ℕ → Option ProcId
named set word (Some x) (Some y) = if nat_lt x set.topo.cols && nat_lt y set.topo.rows then called set word x y else None
named set word _ _ = None

-- so many steps of a processor of the set
abbrev pub at_of : Option ProcId → Option ℕ → Option Command
at_of (Some p) (Some steps) = Some (At p steps)
at_of _ _ = None

abbrev pub until_count_of : Option ProcId → Option ℕ → Option Command
until_count_of (Some p) (Some steps) = Some (Count p steps)
until_count_of _ _ = None

-- so many steps back, and forth
abbrev pub back_of : Option ℕ → Option Command
back_of None = None
back_of (Some steps) = Some (Back steps)

abbrev pub forth_of : Option ℕ → Option Command
forth_of None = None
forth_of (Some steps) = Some (Forth steps)

-- processor p is a tile or a switch
abbrev pub has_code : ProgramSet → ℕ → Bool
has_code set p = nat_lt p (2 * tile_count set.topo)

-- so many instructions of processor p, before and behind its pc
abbrev pub code_of : ProgramSet → ℕ → Option ℕ → Option Command
code_of set p None = None
code_of set p (Some around) = if has_code set p then Some (Code around) else None

-- a wire that is there
abbrev pub passed_of : ProgramSet → Option ℕ → Option Command
passed_of set None = None
passed_of set (Some w) = if nat_lt w (length (wires_of set.topo)) then Some (Passed (record { 0 = w })) else None

-- processor p is a tile, and from the address, a multiple of 4, so many words stand in its memory, and at least one
abbrev pub has_words : ProgramSet → ℕ → ℕ → ℕ → Bool
has_words set p address words =
    nat_lt p (tile_count set.topo) && (address % 4 == 0) && nat_lt 0 words && nat_le (address + 4 * words) memory_size

-- so many words of the memory of processor p
abbrev pub memory_of : ProgramSet → ℕ → Option ℕ → Option ℕ → Option Command
memory_of set p (Some address) (Some words) = if has_words set p address words then Some (Memory address words) else None
memory_of set p _ _ = None

-- a pc of processor p
abbrev pub until_pc_of : ProgramSet → ℕ → Option ℕ → Option Command
until_pc_of set p None = None
until_pc_of set p (Some pc) = if has_code set p then Some (Until (record { 0 = p }) (Pc pc)) else None

-- a value on a wire, which its producer sends
abbrev pub until_wire_of : ProgramSet → Option ℕ → Option ℕ → Option Command
until_wire_of set (Some w) (Some value) =
    if nat_lt w (length (wires_of set.topo)) then Some (Until (record { 0 = producer_of set.topo w }) (Sends (record { 0 = w }) value)) else None
until_wire_of set _ _ = None

-- a word in the memory of processor p
abbrev pub until_memory_of : ProgramSet → ℕ → Option ℕ → Option ℕ → Option Command
until_memory_of set p (Some address) (Some word) =
    if has_words set p address 1 then Some (Until (record { 0 = p }) (Stores address word)) else None
until_memory_of set p _ _ = None

-- processor p is a tile or a switch that has a register with this number
abbrev pub has_register : ProgramSet → ℕ → ℕ → Bool
has_register set p register =
    if nat_lt p (tile_count set.topo) then nat_lt register 32 else has_code set p && nat_lt register 4

-- another value in a register of processor p, which is this one
abbrev pub until_register_of : ProgramSet → ℕ → Option ℕ → Option ℕ → Option Command
until_register_of set p (Some register) (Some value) =
    if has_register set p register then Some (Until (record { 0 = p }) (Sets register value)) else None
until_register_of set p _ _ = None

-- any value on a wire, which its producer sends
abbrev pub any_wire : ProgramSet → Option ℕ → Option Goal
any_wire set None = None
any_wire set (Some w) =
    if nat_lt w (length (wires_of set.topo)) then Some (record { proc = record { 0 = producer_of set.topo w }; aim = SendsAny (record { 0 = w }) }) else None

-- any other word at an address of the memory of processor p, and any other value in a register of it
abbrev pub any_word : ProgramSet → ℕ → Option ℕ → Option Goal
any_word set p None = None
any_word set p (Some address) =
    if has_words set p address 1 then Some (record { proc = record { 0 = p }; aim = StoresAny address }) else None

abbrev pub any_value : ProgramSet → ℕ → Option ℕ → Option Goal
any_value set p None = None
any_value set p (Some register) =
    if has_register set p register then Some (record { proc = record { 0 = p }; aim = SetsAny register }) else None

-- the step that a word and a number are for, whatever the value is
abbrev pub any_of : ProgramSet → ℕ → List ℕ → Option ℕ → Option Goal
any_of set p word a =
    if bytes_eq word (codes "wire") then any_wire set a
    else (if bytes_eq word (codes "mem") then any_word set p a
    else (if bytes_eq word (codes "reg") then any_value set p a else None))

-- on to the next such step, and back to the latest
abbrev pub until_goal : Option Goal → Option Command
until_goal None = None
until_goal (Some goal) = Some (Until goal.proc goal.aim)

abbrev pub last_goal : Option Goal → Option Command
last_goal None = None
last_goal (Some goal) = Some (Last goal.proc goal.aim)

-- a command of one word
abbrev pub word_of : List ℕ → Option Command
word_of word =
    if bytes_eq word (codes "regs") then Some Registers
    else (if bytes_eq word (codes "wires") then Some Wires
    else (if bytes_eq word (codes "waits") then Some Waits
    else (if bytes_eq word (codes "rest") then Some Rest
    else (if bytes_eq word (codes "where") then Some Where
    else (if bytes_eq word (codes "all") then Some All else None)))))

-- a command of two tokens, where p is the current processor
abbrev pub word_with_one : ProgramSet → ℕ → List ℕ → List ℕ → Option Command
word_with_one set p word a =
    if bytes_eq word (codes "back") then back_of (number_of a)
    else (if bytes_eq word (codes "forth") then forth_of (number_of a)
    else (if bytes_eq word (codes "code") then code_of set p (number_of a)
    else (if bytes_eq word (codes "passed") then passed_of set (number_of a)
    else (if bytes_eq word (codes "until") && bytes_eq a (codes "stop") then Some Finish else None))))

-- what 'until', a word and a number say
abbrev pub until_any : ProgramSet → ℕ → List ℕ → Option ℕ → Option Command
until_any set p word a = if bytes_eq word (codes "pc") then until_pc_of set p a else until_goal (any_of set p word a)

-- a command of three tokens
abbrev pub word_with_two : ProgramSet → ℕ → List ℕ → List ℕ → Option ℕ → Option Command
word_with_two set p word first b =
    if bytes_eq word (codes "at") then at_of (numbered set (number_of first)) b
    else (if bytes_eq word (codes "mem") then memory_of set p (number_of first) b
    else (if bytes_eq word (codes "until") then until_any set p first b
    else (if bytes_eq word (codes "last") then last_goal (any_of set p first b) else None)))

-- what 'until', a word and two numbers say
abbrev pub until_of : ProgramSet → ℕ → List ℕ → Option ℕ → Option ℕ → Option Command
until_of set p word a b =
    if bytes_eq word (codes "wire") then until_wire_of set a b
    else (if bytes_eq word (codes "mem") then until_memory_of set p a b
    else (if bytes_eq word (codes "reg") then until_register_of set p a b
    else (if bytes_eq word (codes "count") then until_count_of (numbered set a) b else None)))

-- a command of four tokens
abbrev pub word_with_three : ProgramSet → ℕ → List ℕ → List ℕ → Option ℕ → Option ℕ → Option Command
word_with_three set p word first a b = if bytes_eq word (codes "until") then until_of set p first a b else None

-- a command of five tokens, which names its processor by its place
abbrev pub word_with_four : ProgramSet → List ℕ → List ℕ → Option ℕ → Option ℕ → Option ℕ → Option Command
word_with_four set word name x y steps = if bytes_eq word (codes "at") then at_of (named set name x y) steps else None

-- and one of six
abbrev pub word_with_five : ProgramSet → List ℕ → List ℕ → List ℕ → Option ℕ → Option ℕ → Option ℕ → Option Command
word_with_five set word first name x y steps =
    if bytes_eq word (codes "until") && bytes_eq first (codes "count") then until_count_of (named set name x y) steps else None

-- where the labels of the programs stand, by the number of a processor and a name
abbrev pub LabelPlaces : Type 0
LabelPlaces = ℕ → List ℕ → Option ℕ

-- a number, and where a token is none what it stands for as a label
abbrev pub or_place : Option ℕ → Option ℕ → Option ℕ
or_place None place = place
or_place (Some number) place = Some number

-- the number that the third token of a line is; behind `until pc` a label of the program of processor p stands for its place
abbrev pub third_of : LabelPlaces → ℕ → List ℕ → List ℕ → List ℕ → Option ℕ
third_of labels p word first b =
    if bytes_eq word (codes "until") && bytes_eq first (codes "pc") then or_place (number_of b) (labels p b) else number_of b

-- the command that these tokens say, where p is the current processor
unfoldable pub command_of : LabelPlaces → ProgramSet → ℕ → List (List ℕ) → Option Command
command_of labels set p (word ∷ []) = word_of word
command_of labels set p (word ∷ a ∷ []) = word_with_one set p word a
command_of labels set p (word ∷ a ∷ b ∷ []) = word_with_two set p word a (third_of labels p word a b)
command_of labels set p (word ∷ a ∷ b ∷ c ∷ []) = word_with_three set p word a (number_of b) (number_of c)
command_of labels set p (word ∷ a ∷ b ∷ c ∷ d ∷ []) = word_with_four set word a (number_of b) (number_of c) (number_of d)
command_of labels set p (word ∷ a ∷ b ∷ c ∷ d ∷ e ∷ []) = word_with_five set word a b (number_of c) (number_of d) (number_of e)
command_of labels set p _ = None

-- what a line means: nothing, a command, tokens that it writes, or it is outside the grammar
pub data Meaning : Type 0 where
  Blank : Meaning
  Says : Command → Meaning
  Echoes : List (List ℕ) → Meaning
  Outside : Meaning

-- a line with tokens is a command or outside the grammar
abbrev pub said : Option Command → Meaning
said None = Outside
said (Some command) = Says command

-- the line has the word `echo` and tokens behind it
abbrev pub is_echo : List ℕ → List (List ℕ) → Bool
is_echo word tokens = bytes_eq word (codes "echo") && nat_lt 0 (length tokens)

-- what a line means, where p is the current processor
abbrev pub meaning_of : LabelPlaces → ProgramSet → ℕ → List (List ℕ) → Meaning
meaning_of labels set p [] = Blank
meaning_of labels set p (token ∷ tokens) = if is_echo token tokens then Echoes tokens else said (command_of labels set p (token ∷ tokens))

-- what is meant by a line with these tokens that was read so
abbrev pub meant : Reading → List (List ℕ) → Meaning
meant reading.Blank tokens = Blank
meant (reading.Says command) tokens = Says command
meant reading.Echoes tokens = Echoes (drop 1 tokens)
meant reading.Outside tokens = Outside

-- processor 0 is the current one at first
abbrev pub first_processor : ProcId
first_processor = record { 0 = 0 }

-- the current processor behind a command: the one that it names, and for a wire its producer
abbrev pub led_to : ProcId → Command → ProcId
led_to current (At p steps) = p
led_to current (Count p steps) = p
led_to current (Until p aim) = p
led_to current (Last p aim) = p
led_to current _ = current

-- and behind a line
abbrev pub led_by : ProcId → Meaning → ProcId
led_by current (Says command) = led_to current command
led_by current _ = current

-- what these lines mean, one after another
abbrev pub readings_from : LabelPlaces → ProgramSet → ProcId → List (List (List ℕ)) → List Meaning
readings_from labels set current [] = []
readings_from labels set current (line ∷ lines) =
    meaning_of labels set current.0 line ∷ readings_from labels set (led_by current (meaning_of labels set current.0 line)) lines

-- what the lines of a script mean
abbrev pub readings : LabelPlaces → ProgramSet → List (List (List ℕ)) → List Meaning
readings labels set lines = readings_from labels set first_processor lines

-- it is outside the grammar
abbrev pub is_outside : Meaning → Bool
is_outside Outside = true
is_outside _ = false

-- the place, from 0, of the first line outside the grammar
unfoldable pub bad_command : LabelPlaces → ProgramSet → List (List (List ℕ)) → Option ℕ
bad_command labels set lines = position is_outside (readings labels set lines)
