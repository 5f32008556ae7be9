-- What the commands write.
use Rattle.std.specs.Prelude.{ℕ, ◌+◌, ◌-◌, ◌*◌, ◌==◌, min, Bool, Option, Some, None, List, [], ◌∷◌, ◌++◌, codes, decimal, drop, length, slice_get, if◌then◌else◌}
use Rattle.std.specs.List.{flat_map, range_with_len}
use Rattle.raw_tile_isa.specs.Instruction.{Instruction}
use Rattle.raw_switch_isa.specs.Instruction.{SwitchInstruction}
use Rattle.raw_grid.specs.Topology.{proc_count}
use Rattle.raw_grid.specs.Wires.{wires_of}
use Rattle.raw_tile_asm.specs.Listing.{line_text as tile_line}
use Rattle.raw_switch_asm.specs.Listing.{line_text as switch_line}
use Rattle.raw_model.specs.Program.{ProgramSet}
use Rattle.raw_model.specs.Local.{Local, Tile, Switch, Source, Sink, steps_of}
use Rattle.raw_model.specs.Machine.{tile_code, switch_code}
use Rattle.raw_model.specs.TileTable.{word_at}
use Rattle.raw_model.specs.Start.{MachineState}
use Rattle.raw_model.specs.Texts.{word_text, words_text}
use Rattle.raw_model.specs.StateTexts.{mark_of, wait_line, registers_line, wire_line}
use Rattle.raw_model.specs.Outcomes.{outcome}
use Rattle.raw_model.specs.Parts.{memory_of}
use Rattle.raw_report.specs.Report.{outcome_lines}
use Rattle.raw_debug.specs.declared.command.Command.{Command}
use Rattle.raw_debug.specs.declared.command.Command.TheVariants.{At, Count, Back, Forth, Until, Last, Finish, Rest, Where, All, Registers, Memory, Wires, Waits, Code, Passed}
use Rattle.raw_debug.specs.Walking.{sent_by}

-- the steps of the processor with this local state
abbrev pub steps_text : Option Local → List ℕ
steps_text None = []
steps_text (Some l) = decimal (steps_of l)

-- the pc of a tile or a switch, behind its name; a port has none
abbrev pub pc_text : Option Local → List ℕ
pc_text (Some (Tile l)) = codes " pc " ++ decimal l.pc
pc_text (Some (Switch l)) = codes " pc " ++ decimal l.pc
pc_text _ = []

-- where a script stands with processor p: its steps, its mark and its pc; and the line of it
unfoldable pub place_text : ProgramSet → MachineState → ℕ → List ℕ
place_text set s p =
    codes "at " ++ decimal p ++ codes " " ++ steps_text (slice_get s.locals p) ++ codes " " ++ mark_of set s p
    ++ pc_text (slice_get s.locals p)

abbrev pub place_line : ProgramSet → MachineState → ℕ → List ℕ
place_line set s p = place_text set s p ++ codes "\n"

-- the lines of all processors, by rising number
abbrev pub place_lines : ProgramSet → MachineState → List ℕ
place_lines set s = flat_map (place_line set s) (range_with_len 0 (proc_count set.topo))

-- the line of a switch's registers
abbrev pub switch_registers_line : List ℕ → List ℕ
switch_registers_line regs = codes "regs" ++ words_text regs ++ codes "\n"

-- the line of the words that a source has sent, and of those that a sink has got
abbrev pub sent_line : ℕ → List ℕ
sent_line count = codes "sent " ++ decimal count ++ codes "\n"

abbrev pub got_line : ℕ → List ℕ
got_line count = codes "got " ++ decimal count ++ codes "\n"

-- the registers of a tile or a switch with this local state, or how many words a port has sent or got
abbrev pub local_lines : Option Local → List ℕ
local_lines None = []
local_lines (Some (Tile l)) =
    registers_line l.regs 0 ++ registers_line l.regs 8 ++ registers_line l.regs 16 ++ registers_line l.regs 24
local_lines (Some (Switch l)) = switch_registers_line l.regs
local_lines (Some (Source l)) = sent_line l.done
local_lines (Some (Sink l)) = got_line l.done

-- the line of a word at an address
unfoldable pub word_line : ℕ → ℕ → List ℕ
word_line address word = codes "mem 0x" ++ word_text address ++ codes " " ++ word_text word ++ codes "\n"

-- the lines of so many words of a memory, from an address on
abbrev pub memory_lines : List ℕ → ℕ → ℕ → List ℕ
memory_lines memory address words =
    flat_map (λ k. word_line (address + 4 * k) (word_at memory (address + 4 * k))) (range_with_len 0 words)

-- the lines of the wires that are not empty, by rising number
abbrev pub wire_lines : ProgramSet → MachineState → List ℕ
wire_lines set s = flat_map (wire_line s) (range_with_len 0 (length (wires_of set.topo)))

-- the lines of what the processors wait for, by rising number
abbrev pub wait_lines : ProgramSet → MachineState → List ℕ
wait_lines set s = flat_map (wait_line set s) (range_with_len 0 (proc_count set.topo))

-- the text of an instruction of a tile that stands at this place, and of one of a switch
abbrev pub tile_text : ℕ → Option Instruction → List ℕ
tile_text place None = []
tile_text place (Some ins) = tile_line ins place

abbrev pub switch_text : Option SwitchInstruction → List ℕ
switch_text None = []
switch_text (Some ins) = switch_line ins

-- the instruction of processor p that is next, behind two blanks, where its program has one there
abbrev pub next_tile_text : ℕ → Option Instruction → List ℕ
next_tile_text place None = []
next_tile_text place (Some ins) = codes "  " ++ tile_line ins place

abbrev pub next_switch_text : Option SwitchInstruction → List ℕ
next_switch_text None = []
next_switch_text (Some ins) = codes "  " ++ switch_line ins

abbrev pub next_text : ProgramSet → ℕ → Option Local → List ℕ
next_text set p (Some (Tile l)) = next_tile_text l.pc (slice_get (tile_code set p) l.pc)
next_text set p (Some (Switch l)) = next_switch_text (slice_get (switch_code set p) l.pc)
next_text set p _ = []

-- the line of where a script stands with processor p, and the instruction that is next there
abbrev pub where_line : ProgramSet → MachineState → ℕ → List ℕ
where_line set s p = place_text set s p ++ (next_text set p (slice_get s.locals p) ++ codes "\n")

-- what marks the instruction at the pc
abbrev pub star : Bool → List ℕ
star is_next = if is_next then codes " *" else []

-- the line of the instruction with this number, whose text is given
unfoldable pub code_line : ℕ → ℕ → List ℕ → List ℕ
code_line pc i text = codes "code " ++ decimal i ++ codes " " ++ text ++ star (i == pc) ++ codes "\n"

-- the lines of so many instructions, from a place on
abbrev pub lines_from : (ℕ → List ℕ) → ℕ → ℕ → ℕ → List ℕ
lines_from text pc place many = flat_map (λ k. code_line pc (place + k) (text (place + k))) (range_with_len 0 many)

-- the lines of those of so many instructions that are up to so far from the pc
abbrev pub lines_near : (ℕ → List ℕ) → ℕ → ℕ → ℕ → List ℕ
lines_near text count pc around = lines_from text pc (pc - around) (min (pc + around + 1) count - (pc - around))

-- the lines of the instructions of processor p with this local state
abbrev pub code_lines : ProgramSet → ℕ → ℕ → Option Local → List ℕ
code_lines set p around (Some (Tile l)) =
    lines_near (λ i. tile_text i (slice_get (tile_code set p) i)) (length (tile_code set p)) l.pc around
code_lines set p around (Some (Switch l)) =
    lines_near (λ i. switch_text (slice_get (switch_code set p) i)) (length (switch_code set p)) l.pc around
code_lines set p around _ = []

-- the line of what was sent on a wire: how many values, and the last eight
unfoldable pub passed_line : ℕ → List ℕ → List ℕ
passed_line w values =
    codes "passed " ++ decimal w ++ codes " " ++ decimal (length values) ++ words_text (drop (length values - 8) values) ++ codes "\n"

-- what a command writes that led to this moment, whose state is s, with processor p as the current one
abbrev pub answer : ProgramSet → ℕ → MachineState → ℕ → Command → List ℕ
answer set moment s p (At q steps) = place_line set s p
answer set moment s p (Count q steps) = place_line set s p
answer set moment s p (Back steps) = place_line set s p
answer set moment s p (Forth steps) = place_line set s p
answer set moment s p (Until q aim) = place_line set s p
answer set moment s p (Last q aim) = place_line set s p
answer set moment s p Finish = place_line set s p
answer set moment s p Rest = outcome_lines set s (outcome set s)
answer set moment s p Where = where_line set s p
answer set moment s p All = place_lines set s
answer set moment s p Registers = local_lines (slice_get s.locals p)
answer set moment s p (Memory address words) = memory_lines (memory_of (slice_get s.locals p)) address words
answer set moment s p Wires = wire_lines set s
answer set moment s p Waits = wait_lines set s
answer set moment s p (Code around) = code_lines set p around (slice_get s.locals p)
answer set moment s p (Passed wire) = passed_line wire.0 (sent_by set moment wire.0)

-- the line of these tokens, with a blank between each two
abbrev pub echo_line : List (List ℕ) → List ℕ
echo_line [] = []
echo_line (token ∷ []) = token ++ codes "\n"
echo_line (token ∷ next ∷ tokens) = token ++ codes " " ++ echo_line (next ∷ tokens)
