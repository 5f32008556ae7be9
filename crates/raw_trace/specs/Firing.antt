-- What the line of a firing tells.
use Rattle.std.specs.Prelude.{ℕ, ◌-◌, ◌%◌, Bool, true, false, ◌||◌, ◌==◌, Option, Some, None, List, [], ◌∷◌, ◌++◌, map, slice_get, slice_index, if◌then◌else◌}
use Rattle.raw_network.specs.Network.{Sent, Event, event_of}
use Rattle.raw_tile_isa.specs.declared.table.TileOp.{TileOp}
use Rattle.raw_tile_isa.specs.declared.table.TileOp.TheVariants.{Sb, Sh, Sw}
use Rattle.raw_tile_isa.specs.Instruction.{Instruction, destination_register, is_network}
use Rattle.raw_switch_isa.specs.declared.table.SwitchOp.{SwitchOp}
use Rattle.raw_switch_isa.specs.declared.table.SwitchOp.TheVariants.{Bnezd, Move}
use Rattle.raw_switch_isa.specs.Instruction.{SwitchInstruction}
use Rattle.raw_model.specs.Program.{ProgramSet}
use Rattle.raw_model.specs.Local.{Local, Tile, Switch}
use Rattle.raw_model.specs.TileTable.{next_instruction, word_at}
use Rattle.raw_model.specs.SwitchTable.{next_instruction as next_switch_instruction}
use Rattle.raw_model.specs.Machine.{machine_of, tile_code, switch_code}
use Rattle.raw_model.specs.Start.{MachineState}
use Rattle.raw_model.specs.Cache.{is_miss, misses, stream_of}
use Rattle.raw_model.specs.Parts.{memory_of}
use Rattle.raw_trace.specs.declared.entry.Entry.{Entry}
use Rattle.raw_trace.specs.declared.entry.Entry.TheVariants as entry
use Rattle.raw_trace.specs.Parts.{regs_of, is_faulted}

-- a register of a tile keeps what is written to it, but for register 0 and those of the networks
abbrev pub kept_register : Option ℕ → Option ℕ
kept_register None = None
kept_register (Some register) = if (register == 0) || is_network register then None else Some register

-- the register that an instruction of a tile writes, where it keeps what is written
abbrev pub tile_register : Option Instruction → Option ℕ
tile_register None = None
tile_register (Some ins) = kept_register (destination_register ins)

-- the register that an instruction of a switch writes
abbrev pub switch_written : SwitchOp → ℕ → Option ℕ
switch_written Bnezd register = Some register
switch_written Move register = Some register
switch_written _ register = None

abbrev pub switch_register : Option SwitchInstruction → Option ℕ
switch_register None = None
switch_register (Some ins) = switch_written ins.op ins.rd

-- the register that the next step of a processor with this local state writes, unless a load traps it
abbrev pub written_register : ProgramSet → ℕ → Local → Option ℕ
written_register set p (Tile l) = tile_register (next_instruction (tile_code set p) l)
written_register set p (Switch l) = switch_register (next_switch_instruction (switch_code set p) l)
written_register set p _ = None

-- an instruction stores
abbrev pub is_store : TileOp → Bool
is_store Sb = true
is_store Sh = true
is_store Sw = true
is_store _ = false

abbrev pub is_store_next : Option Instruction → Bool
is_store_next None = false
is_store_next (Some ins) = is_store ins.op

-- the next step of a processor with this local state is a store, unless it traps
abbrev pub stores_next : ProgramSet → ℕ → Local → Bool
stores_next set p (Tile l) = is_store_next (next_instruction (tile_code set p) l)
stores_next set p _ = false

-- the address of the word in which the byte at an address is
abbrev pub word_address : ℕ → ℕ
word_address address = address - address % 4

-- a value that is sent
abbrev pub sent_entry : Sent → Entry
sent_entry m = entry.Sent m.wire m.value

-- a register, with the word that it holds behind the step
abbrev pub register_entries : List ℕ → Option ℕ → List Entry
register_entries regs None = []
register_entries regs (Some register) = entry.Register register (slice_index regs register) ∷ []

-- a store with the whole word behind it, or a load
abbrev pub access_entry : Bool → List ℕ → ℕ → Entry
access_entry true memory address = entry.Stored (word_address address) (word_at memory (word_address address))
access_entry false memory address = entry.Loaded (word_address address)

abbrev pub access_entries : Bool → List ℕ → Option ℕ → List Entry
access_entries store memory None = []
access_entries store memory (Some address) = access_entry store memory address ∷ []

-- a miss, with the turns that the tile owes for it
abbrev pub miss_entries : Option ℕ → List Entry
miss_entries None = []
miss_entries (Some turns) = entry.Missed turns ∷ []

-- what the step of a processor with this local state tells, where it did this and missed at this cost, if it missed
abbrev pub entries_with : ProgramSet → ℕ → Local → Event Local → Option ℕ → List Entry
entries_with set p l e miss =
    map entry.Taken e.from
    ++ (map sent_entry e.sent
    ++ (register_entries (regs_of e.after) (if is_faulted e.after then None else written_register set p l)
    ++ (access_entries (stores_next set p l) (memory_of e.after) e.touched
    ++ miss_entries miss)))

-- a processor that is not there tells nothing
abbrev pub entries_from : ProgramSet → ℕ → Option Local → Event Local → Option ℕ → List Entry
entries_from set p None e miss = []
entries_from set p (Some l) e miss = entries_with set p l e miss

-- what the next step of processor p tells, in a state
abbrev pub step_entries : ProgramSet → MachineState → ℕ → Option ℕ → List Entry
step_entries set s p miss = entries_from set p (slice_get s.locals p) (event_of (machine_of set) s p) miss

-- the turns that processor p owes for its next touch, if it touches and that misses after these touches: 0 where its miss
-- stream has no number
abbrev pub miss_cost : ProgramSet → ℕ → List ℕ → Option ℕ → Option ℕ
miss_cost set p touched None = None
miss_cost set p touched (Some address) =
    if is_miss touched address then Some (slice_index (stream_of set p) (misses touched)) else None
