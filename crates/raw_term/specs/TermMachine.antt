-- The machine with terms: the machine of a set in which numbers of terms stand for words, beside a table of terms that grows.
use Rattle.std.specs.Prelude.{ℕ, ◌/◌, Option, Some, None, List, [], ◌∷◌, ◌++◌, length, map, replicate, slice_get, slice_set}
use Rattle.std.specs.List.{range_with_len}
use Rattle.std.specs.Option.{option_map}
use Rattle.raw_network.specs.Network.{Row, fronts, taken, appended}
use Rattle.raw_grid.specs.Topology.{Topology}
use Rattle.raw_grid.specs.Wires.{wires_of}
use Rattle.raw_grid.specs.declared.parts.PortPlace.{PortPlace}
use Rattle.raw_model.specs.declared.program.DataWord.{DataWord}
use Rattle.raw_model.specs.Program.{ProgramSet, TileProgram, memory_size}
use Rattle.raw_model.specs.Local.{Local, Tile, Switch, Source, Sink}
use Rattle.raw_model.specs.TileTable.{next_instruction}
use Rattle.raw_model.specs.SwitchTable.{switch_row}
use Rattle.raw_model.specs.SwitchTable.{next_instruction as next_switch_instruction}
use Rattle.raw_model.specs.Machine.{tile_code, switch_code, first_operand, second_operand, given_to, tile_network_row, switch_network_row, source_row, sink_row, port_outputs, port_program, words_of, takes}
use Rattle.raw_model.specs.Start.{MachineState, first_mark, first_switch, first_port}
use Rattle.raw_model.specs.Bounds.{all_words}
use Rattle.raw_model.specs.Fed.{fed}
use Rattle.raw_flow.specs.declared.node.Node.{Node}
use Rattle.raw_flow.specs.declared.node.Node.TheVariants.{Input, Const}
use Rattle.raw_term.specs.Terms.{Numbered, with_node}
use Rattle.raw_term.specs.TermRows.{TileTerms, term_effect, SwitchTerms, term_switch}

-- the set whose k-th word is the number of the k-th input: 1 + k
abbrev pub numbered : ProgramSet → ProgramSet
numbered set = fed set (range_with_len 1 (all_words set))

-- a table of terms, and a state of the machine in which numbers of terms stand for words
pub record TermState : Type 0 where
  pub nodes : List Node
  pub state : MachineState

-- a table, and a row of the network with numbers of its terms
pub record TermRow : Type 0 where
  pub nodes : List Node
  pub row : Row Local

abbrev pub tile_term_row : Topology → ℕ → TileTerms → TermRow
tile_term_row topo p t = record { nodes = t.nodes; row = tile_network_row topo p t.effect }

-- a switch's row: what it sends is what the row of the machine sends
abbrev pub switch_term_row : Row Local → SwitchTerms → TermRow
switch_term_row row t = record { nodes = t.nodes; row = record row { next = Switch t.next } }

-- a processor's next row, with the terms that it takes; None where it wants a word that is none
abbrev pub term_row : ProgramSet → List Node → ℕ → Local → List ℕ → Option TermRow
term_row set nodes p (Tile l) values =
    option_map
    (tile_term_row set.topo p)
    (term_effect nodes (next_instruction (tile_code set p) l) (length (tile_code set p)) l
    (first_operand (next_instruction (tile_code set p) l) l.regs values) (second_operand (next_instruction (tile_code set p) l) l.regs values))
term_row set nodes p (Switch l) values =
    option_map
    (switch_term_row (switch_network_row set.topo p
    (switch_row (switch_code set p) l (given_to set.topo p (next_switch_instruction (switch_code set p) l) values))))
    (term_switch nodes (next_switch_instruction (switch_code set p) l) (length (switch_code set p)) l
    (given_to set.topo p (next_switch_instruction (switch_code set p) l) values))
term_row set nodes p (Source l) values = Some (record { nodes = nodes; row = source_row (port_outputs set.topo p) (words_of (port_program set p)) l })
term_row set nodes p (Sink l) values = Some (record { nodes = nodes; row = sink_row l values })

-- the state after a row
abbrev pub after_row : MachineState → ℕ → List ℕ → TermRow → TermState
after_row s p from r =
    record {
      nodes = r.nodes;
      state = record { locals = slice_set s.locals p r.row.next; wires = appended r.row.sent (taken from s.wires) };
    }

abbrev pub term_step_from : ProgramSet → TermState → ℕ → Option Local → Option TermState
term_step_from set s p None = None
term_step_from set s p (Some l) =
    option_map (after_row s.state p (takes set p l)) (term_row set s.nodes p l (fronts (takes set p l) s.state.wires))

-- the state after a step of processor p, which is enabled; None where it hangs on an input
abbrev pub term_step : ProgramSet → TermState → ℕ → Option TermState
term_step set s p = term_step_from set s p (slice_get s.state.locals p)

-- words of a memory, one after another
pub record TermMemory : Type 0 where
  pub nodes : List Node
  pub memory : List ℕ

abbrev pub with_cell : List ℕ → ℕ → Numbered → TermMemory
with_cell memory address r = record { nodes = r.nodes; memory = slice_set memory (address / 4) r.number }

abbrev pub with_cells : TermMemory → List DataWord → TermMemory
with_cells m [] = m
with_cells m (cell ∷ cells) = with_cells (with_cell m.memory cell.address (with_node m.nodes (Const cell.word))) cells

abbrev pub first_term_memory : List Node → List DataWord → TermMemory
first_term_memory nodes cells = with_cells (record { nodes = nodes; memory = replicate (memory_size / 4) 0 }) cells

-- tiles that have done nothing yet
pub record TermTiles : Type 0 where
  pub nodes : List Node
  pub tiles : List Local

abbrev pub first_term_tile : TileProgram → TermMemory → Local
first_term_tile tile m = Tile (record { regs = replicate 32 0; pc = 0; count = 0; mark = first_mark tile.code; memory = m.memory })

abbrev pub tile_before : Local → TermTiles → TermTiles
tile_before l t = record { nodes = t.nodes; tiles = l ∷ t.tiles }

abbrev pub first_term_tiles : List Node → List TileProgram → TermTiles
first_term_tiles nodes [] = record { nodes = nodes; tiles = [] }
first_term_tiles nodes (tile ∷ tiles) =
    tile_before (first_term_tile tile (first_term_memory nodes tile.cells)) (first_term_tiles (first_term_memory nodes tile.cells).nodes tiles)

-- the table at the start: 0, and then the inputs
abbrev pub first_nodes : ℕ → List Node
first_nodes many = Const 0 ∷ replicate many Input

abbrev pub started : ProgramSet → TermTiles → TermState
started set t =
    record {
      nodes = t.nodes;
      state = record {
        locals = t.tiles ++ (map (λ (tile : TileProgram). Switch (first_switch tile.switch)) set.tiles ++ map (λ (place : PortPlace). first_port place.kind) set.topo.places);
        wires = replicate (length (wires_of set.topo)) [];
      };
    }

-- the state in which no processor has done anything
unfoldable pub term_start : ProgramSet → TermState
term_start set = started set (first_term_tiles (first_nodes (all_words set)) set.tiles)
