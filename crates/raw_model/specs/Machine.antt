-- The machine of a program set: a network of tiles, switches and ports.
use Rattle.std.specs.Prelude.{ℕ, ◌+◌, ◌-◌, ◌*◌, Bool, true, false, ◌||◌, ◌==◌, nat_le, Option, Some, None, List, [], ◌∷◌, ◌++◌, map, drop, length, slice_get, slice_index, slice_index_or, if◌then◌else◌}
use Rattle.std.specs.List.{flat_map}
use Rattle.std.specs.Option.{option_to_list}
use Rattle.raw_network.specs.Network.{Network, Row, Sent}
use Rattle.raw_tile_isa.specs.declared.networks.TheConstants.{NETWORK_1, NETWORK_2}
use Rattle.raw_tile_isa.specs.Instruction.{Instruction, source_registers, destination_register, is_network, uses, is_rs, reads_rt}
use Rattle.raw_switch_isa.specs.Instruction.{SwitchInstruction}
use Rattle.raw_switch_isa.specs.Ends.{ends, is_used_input, is_filled}
use Rattle.raw_grid.specs.Topology.{Topology, tile_count}
use Rattle.raw_grid.specs.Wires.{input_wire, output_wire}
use Rattle.raw_model.specs.declared.marks.Mark.{Mark}
use Rattle.raw_model.specs.declared.marks.Mark.TheVariants.{Going}
use Rattle.raw_model.specs.Program.{ProgramSet, TileProgram, PortProgram}
use Rattle.raw_model.specs.Local.{Local, Tile, Switch, Source, Sink, TileLocal, PortLocal}
use Rattle.raw_model.specs.TileTable.{TileEffect, tile_row, next_instruction}
use Rattle.raw_model.specs.SwitchTable.{SwitchEffect, switch_row}
use Rattle.raw_model.specs.SwitchTable.{next_instruction as next_switch_instruction}

-- the program of a tile, if there is one
abbrev pub program_code : Option TileProgram → List Instruction
program_code None = []
program_code (Some tile) = tile.code

-- the program of the tile with this number
abbrev pub tile_code : ProgramSet → ℕ → List Instruction
tile_code set p = program_code (slice_get set.tiles p)

-- the program of a switch, if there is one
abbrev pub program_switch : Option TileProgram → List SwitchInstruction
program_switch None = []
program_switch (Some tile) = tile.switch

-- the program of the switch that is processor p; switches stand behind the tiles, in the same order
abbrev pub switch_code : ProgramSet → ℕ → List SwitchInstruction
switch_code set p = program_switch (slice_get set.tiles (p - tile_count set.topo))

-- the wire on which a tile takes what it reads in this register, where the register names a network
abbrev pub source_wire : Topology → ℕ → ℕ → List ℕ
source_wire topo p register =
    if register == NETWORK_1 then option_to_list (input_wire topo p 4)
    else (if register == NETWORK_2 then option_to_list (input_wire topo p 9) else [])

-- the wire on which a tile sends what it writes to this register, where the register names a network
abbrev pub destination_wire : Topology → ℕ → ℕ → List ℕ
destination_wire topo p register =
    if register == NETWORK_1 then option_to_list (output_wire topo p 4)
    else (if register == NETWORK_2 then option_to_list (output_wire topo p 9) else [])

-- the wires that a tile's next instruction takes from, that of rs before that of rt
abbrev pub tile_takes : Topology → ℕ → Option Instruction → List ℕ
tile_takes topo p None = []
tile_takes topo p (Some ins) = flat_map (source_wire topo p) (source_registers ins)

-- the wire that it sends to
abbrev pub tile_sends : Topology → ℕ → Option Instruction → List ℕ
tile_sends topo p None = []
tile_sends topo p (Some ins) = flat_map (destination_wire topo p) (option_to_list (destination_register ins))

-- the value read in a register: the first value taken where it names a network
abbrev pub operand : List ℕ → List ℕ → ℕ → ℕ
operand regs values register = if is_network register then slice_index values 0 else slice_index regs register

-- the values that are left after a register was read
abbrev pub values_after : List ℕ → ℕ → List ℕ
values_after values register = if is_network register then drop 1 values else values

-- the operand at rs, and 0 where the instruction reads none there
abbrev pub first_operand : Option Instruction → List ℕ → List ℕ → ℕ
first_operand None regs values = 0
first_operand (Some ins) regs values = if uses is_rs ins.op then operand regs values ins.rs else 0

-- the operand at rt, and 0 where the instruction reads none there
abbrev pub second_operand : Option Instruction → List ℕ → List ℕ → ℕ
second_operand None regs values = 0
second_operand (Some ins) regs values =
    if reads_rt ins.op then operand regs (if uses is_rs ins.op then values_after values ins.rs else values) ins.rt else 0

-- the effect of a tile's next instruction with the values that it takes
abbrev pub tile_effect : List Instruction → TileLocal → List ℕ → TileEffect
tile_effect code l values =
    tile_row code l (first_operand (next_instruction code l) l.regs values) (second_operand (next_instruction code l) l.regs values)

-- a value on its way to a wire, where there are both
abbrev pub sent_to : Option ℕ → Option ℕ → List Sent
sent_to None value = []
sent_to (Some wire) None = []
sent_to (Some wire) (Some value) = record { wire = wire; value = value } ∷ []

-- a tile's effect as a row of the network
abbrev pub tile_network_row : Topology → ℕ → TileEffect → Row Local
tile_network_row topo p effect =
    record {
      next = Tile effect.next;
      sent = sent_to (output_wire topo p 4) effect.sent1 ++ sent_to (output_wire topo p 9) effect.sent2;
      touched = effect.touched;
    }

-- the wire of a switch's input, where its instruction takes a value there
abbrev pub taken_at : Topology → ℕ → SwitchInstruction → ℕ → List ℕ
taken_at topo p ins end = if is_used_input ins end then option_to_list (input_wire topo p end) else []

-- the wire of a switch's output, where its instruction has a route there
abbrev pub filled_at : Topology → ℕ → SwitchInstruction → ℕ → List ℕ
filled_at topo p ins end = if is_filled ins end then option_to_list (output_wire topo p end) else []

-- the wires that a switch's next instruction takes from, by rising end index, each once
abbrev pub switch_takes : Topology → ℕ → Option SwitchInstruction → List ℕ
switch_takes topo p None = []
switch_takes topo p (Some ins) = flat_map (taken_at topo p ins) ends

-- the wires that it sends to, by rising end index
abbrev pub switch_sends : Topology → ℕ → Option SwitchInstruction → List ℕ
switch_sends topo p None = []
switch_sends topo p (Some ins) = flat_map (filled_at topo p ins) ends

-- the value given for an input: the first one where the input has a wire, else none
abbrev pub given_first : List ℕ → List ℕ → Option ℕ
given_first [] values = None
given_first (wire ∷ wires) values = Some (slice_index values 0)

-- the values given for these inputs, from the values taken in the order of the inputs
abbrev pub given_at : Topology → ℕ → SwitchInstruction → List ℕ → List ℕ → List (Option ℕ)
given_at topo p ins [] values = []
given_at topo p ins (end ∷ others) values =
    given_first (taken_at topo p ins end) values ∷ given_at topo p ins others (drop (length (taken_at topo p ins end)) values)

-- the values given by input to a switch's next instruction
abbrev pub given_to : Topology → ℕ → Option SwitchInstruction → List ℕ → List (Option ℕ)
given_to topo p None values = []
given_to topo p (Some ins) values = given_at topo p ins ends values

-- a switch's effect as a row of the network
abbrev pub switch_network_row : Topology → ℕ → SwitchEffect → Row Local
switch_network_row topo p effect =
    record {
      next = Switch effect.next;
      sent = flat_map (λ end. sent_to (output_wire topo p end) (slice_index_or effect.sent end None)) ends;
      touched = None;
    }

-- the wires that lead to a port, and those that come from it: one, on the port's own network
abbrev pub port_inputs : Topology → ℕ → List ℕ
port_inputs topo p = option_to_list (input_wire topo p 4) ++ option_to_list (input_wire topo p 9)

abbrev pub port_outputs : Topology → ℕ → List ℕ
port_outputs topo p = option_to_list (output_wire topo p 4) ++ option_to_list (output_wire topo p 9)

-- what the port that is processor p is given; ports stand behind tiles and switches
abbrev pub port_program : ProgramSet → ℕ → Option PortProgram
port_program set p = slice_get set.ports (p - 2 * tile_count set.topo)

-- the words of a source, and the capacity of a sink
abbrev pub words_of : Option PortProgram → List ℕ
words_of None = []
words_of (Some port) = port.words

abbrev pub capacity_of : Option PortProgram → ℕ
capacity_of None = 0
capacity_of (Some port) = port.capacity

-- a source sends the first word that it has not sent
abbrev pub source_row : List ℕ → List ℕ → PortLocal → Row Local
source_row wires words l =
    record {
      next = Source (record l { done = l.done + 1 });
      sent = map (λ w. record { wire = w; value = slice_index words l.done }) wires;
      touched = None;
    }

-- a sink appends the value that it takes
abbrev pub sink_row : PortLocal → List ℕ → Row Local
sink_row l values = record { next = Sink (record { done = l.done + 1; got = l.got ++ slice_index values 0 ∷ [] }); sent = []; touched = None }

-- a processor with this mark takes no more steps
abbrev pub is_ended : Mark → Bool
is_ended Going = false
is_ended _ = true

-- a processor takes no more steps: a tile or switch that is halted or trapped or has executed as many
-- instructions as the limit says, a source that has sent all its words, a sink that is full
abbrev pub is_stopped : ProgramSet → ℕ → Local → Bool
is_stopped set p (Tile l) = is_ended l.mark || nat_le set.limit l.count
is_stopped set p (Switch l) = is_ended l.mark || nat_le set.limit l.count
is_stopped set p (Source l) = nat_le (length (words_of (port_program set p))) l.done
is_stopped set p (Sink l) = nat_le (capacity_of (port_program set p)) l.done

-- the wires that a processor's next row takes from
abbrev pub takes : ProgramSet → ℕ → Local → List ℕ
takes set p (Tile l) = tile_takes set.topo p (next_instruction (tile_code set p) l)
takes set p (Switch l) = switch_takes set.topo p (next_switch_instruction (switch_code set p) l)
takes set p (Source l) = []
takes set p (Sink l) = port_inputs set.topo p

-- the wires that a processor's next row sends to
abbrev pub sends : ProgramSet → ℕ → Local → List ℕ
sends set p (Tile l) = tile_sends set.topo p (next_instruction (tile_code set p) l)
sends set p (Switch l) = switch_sends set.topo p (next_switch_instruction (switch_code set p) l)
sends set p (Source l) = port_outputs set.topo p
sends set p (Sink l) = []

-- a processor's next row, with the values that it takes
abbrev pub row : ProgramSet → ℕ → Local → List ℕ → Row Local
row set p (Tile l) values = tile_network_row set.topo p (tile_effect (tile_code set p) l values)
row set p (Switch l) values =
    switch_network_row set.topo p
    (switch_row (switch_code set p) l (given_to set.topo p (next_switch_instruction (switch_code set p) l) values))
row set p (Source l) values = source_row (port_outputs set.topo p) (words_of (port_program set p)) l
row set p (Sink l) values = sink_row l values

-- the network of a program set
unfoldable pub machine_of : ProgramSet → Network Local
machine_of set =
    record { depth = set.depth; is_stopped = is_stopped set; takes = takes set; sends = sends set; row = row set }
