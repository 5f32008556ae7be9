-- The compiled set: where each value is made, how values are moved, and the parts that do it.
use Rattle.std.specs.Prelude.{ℕ, ◌+◌, ◌*◌, ◌%◌, Option, Some, None, List, [], ◌∷◌, ◌++◌, length, map, take, slice_get, if◌then◌else◌}
use Rattle.std.specs.List.{range_with_len}
use Rattle.raw_model.specs.declared.limits.TheConstants.{DEFAULT_DEPTH}
use Rattle.raw_codegen.specs.declared.limits.TheConstants.{PARTS_LIMIT}
use Rattle.raw_tile_isa.specs.declared.table.TileOp.TheVariants as tile
use Rattle.raw_tile_isa.specs.Instruction.{Instruction}
use Rattle.raw_tile_isa.specs.Load.{load}
use Rattle.raw_tile_isa.specs.Made.{registers}
use Rattle.raw_grid.specs.declared.parts.Net.{Net}
use Rattle.raw_grid.specs.declared.parts.Net.TheVariants.{One}
use Rattle.raw_grid.specs.declared.parts.PortPlace.{PortPlace}
use Rattle.raw_grid.specs.Topology.{Topology, with_west_ports}
use Rattle.raw_model.specs.Program.{ProgramSet, PortProgram}
use Rattle.raw_codegen.specs.Parts.{Part, ToSwitch, to_tile, to_switches, script_programs}
use Rattle.raw_codegen.specs.Rows.{register_of, load_ins, store_ins, from_side, to_side}
use Rattle.raw_route.specs.Hauls.{Haulage}
use Rattle.raw_route.specs.Tree.{tree_ins}
use Rattle.raw_flow.specs.declared.node.FlowOp.{FlowOp}
use Rattle.raw_flow.specs.declared.node.FlowOp.TheVariants.{Add, Sub, Mul, MulHigh, MulHighUnsigned, And, Or, Xor, Nor, Less, LessUnsigned, ShiftLeft, ShiftRight, ShiftRightSigned}
use Rattle.raw_flow.specs.declared.node.Node.{Node}
use Rattle.raw_flow.specs.declared.node.Node.TheVariants.{Input, Const, Apply}
use Rattle.raw_flow.specs.Flows.{Dataflow, with_input, inputs_in}
use Rattle.raw_flow.specs.Places.{Holding, has, with_value}
use Rattle.raw_flow.specs.Ports.{FlowPorts, usual_ports, source_of, sink_of, picked, placed_topo, tile_at}

-- how many tiles there are
abbrev pub tiles_in : Dataflow → ℕ
tiles_in flow = flow.cols * flow.rows

-- the tile of input k, and that of out i: the one at which its source or its sink stands
abbrev pub source_tile : Dataflow → FlowPorts → ℕ → ℕ
source_tile flow ports k = tile_at flow (source_of ports k)

abbrev pub sink_tile : Dataflow → FlowPorts → ℕ → ℕ
sink_tile flow ports i = tile_at flow (sink_of ports i)

-- the tile at which the value of node v is made: of an input its own, and of each other node tile v modulo the number of tiles
abbrev pub home_of : ℕ → ℕ → ℕ → Option Node → ℕ
home_of n own v (Some Input) = own
home_of n own v (Some (Const word)) = v % n
home_of n own v (Some (Apply op a b)) = v % n
home_of n own v None = 0

unfoldable pub home : Dataflow → FlowPorts → ℕ → ℕ
home flow ports v = home_of (tiles_in flow) (source_tile flow ports (inputs_in (take v flow.nodes))) v (slice_get flow.nodes v)

-- 'NAME $7, $5, $6'; of a shift the third register is the amount, which stands in the field rs
abbrev pub op_ins : FlowOp → Instruction
op_ins Add = registers tile.Addu 7 5 6
op_ins Sub = registers tile.Subu 7 5 6
op_ins Mul = registers tile.Mul 7 5 6
op_ins MulHigh = registers tile.Mulhi 7 5 6
op_ins MulHighUnsigned = registers tile.Mulhu 7 5 6
op_ins And = registers tile.And 7 5 6
op_ins Or = registers tile.Or 7 5 6
op_ins Xor = registers tile.Xor 7 5 6
op_ins Nor = registers tile.Nor 7 5 6
op_ins Less = registers tile.Slt 7 5 6
op_ins LessUnsigned = registers tile.Sltu 7 5 6
op_ins ShiftLeft = registers tile.Sllv 7 6 5
op_ins ShiftRight = registers tile.Srlv 7 6 5
op_ins ShiftRightSigned = registers tile.Srav 7 6 5

-- 'lw $24, 4v($0)' sends the value of node v on network 1, and 'sw $24, 4v($0)' stores the value that comes there; '$25' is network 2
abbrev pub send_value : Net → ℕ → Instruction
send_value net v = load_ins (register_of net) v

abbrev pub take_value : Net → ℕ → Instruction
take_value net v = store_ins (register_of net) v

-- one word from one tile to another, on network 1
abbrev pub one_haul : ℕ → ℕ → Haulage
one_haul from to = record { from = from; net = One; to = to ∷ [] }

-- the value of node v goes from its home to tile t on the tree of that haul
abbrev pub carried : Dataflow → FlowPorts → ℕ → ℕ → List Part
carried flow ports v t =
    to_tile (home flow ports v) (send_value One v ∷ [])
    ++ (to_switches (tiles_in flow) (tree_ins flow.cols (one_haul (home flow ports v) t))
    ++ to_tile t (take_value One v ∷ []))

-- to a tile that has it already nothing goes
abbrev pub moved : Dataflow → FlowPorts → List Holding → ℕ → ℕ → List Part
moved flow ports held v t = if has held v t then [] else carried flow ports v t

-- a word comes from the source at a place, and is stored at the tile there as the value of node v
abbrev pub taken_at : Dataflow → PortPlace → ℕ → List Part
taken_at flow place v =
    ToSwitch (tile_at flow place) (from_side place.net place.side) ∷ to_tile (tile_at flow place) (take_value place.net v ∷ [])

-- the parts of node v where it is input k, and which tiles have which values after them
abbrev pub input_parts : Dataflow → FlowPorts → ℕ → ℕ → Node → List Part
input_parts flow ports k v Input = taken_at flow (source_of ports k) v
input_parts flow ports k v (Const word) = []
input_parts flow ports k v (Apply op a b) = []

abbrev pub held_input : Dataflow → FlowPorts → List Holding → ℕ → ℕ → Node → List Holding
held_input flow ports held k v Input = with_value held v (source_tile flow ports k)
held_input flow ports held k v (Const word) = held
held_input flow ports held k v (Apply op a b) = held

-- those of the inputs among nodes, which are numbered from v on, where there are k inputs before them
abbrev pub inputs_from : Dataflow → FlowPorts → ℕ → ℕ → List Node → List Part
inputs_from flow ports k v [] = []
inputs_from flow ports k v (node ∷ nodes) = input_parts flow ports k v node ++ inputs_from flow ports (with_input node k) (v + 1) nodes

abbrev pub held_inputs : Dataflow → FlowPorts → List Holding → ℕ → ℕ → List Node → List Holding
held_inputs flow ports held k v [] = held
held_inputs flow ports held k v (node ∷ nodes) = held_inputs flow ports (held_input flow ports held k v node) (with_input node k) (v + 1) nodes

-- 'li $7, W', and then the word is stored as the value of node v
abbrev pub const_code : ℕ → ℕ → List Instruction
const_code v word = load 7 word ++ store_ins 7 v ∷ []

-- the values of nodes a and b are loaded, the operation is done, and its value is stored as that of node v
abbrev pub apply_code : ℕ → FlowOp → ℕ → ℕ → List Instruction
apply_code v op a b = load_ins 5 a ∷ load_ins 6 b ∷ op_ins op ∷ store_ins 7 v ∷ []

-- the parts of a node that is no input: its value is made at its home, to which those that it names are moved
abbrev pub node_parts : Dataflow → FlowPorts → List Holding → ℕ → Node → List Part
node_parts flow ports held v Input = []
node_parts flow ports held v (Const word) = to_tile (home flow ports v) (const_code v word)
node_parts flow ports held v (Apply op a b) =
    moved flow ports held a (home flow ports v)
    ++ (moved flow ports (with_value held a (home flow ports v)) b (home flow ports v)
    ++ to_tile (home flow ports v) (apply_code v op a b))

-- which tiles have which values after them
abbrev pub held_node : Dataflow → FlowPorts → List Holding → ℕ → Node → List Holding
held_node flow ports held v Input = held
held_node flow ports held v (Const word) = with_value held v (home flow ports v)
held_node flow ports held v (Apply op a b) =
    with_value (with_value (with_value held a (home flow ports v)) b (home flow ports v)) v (home flow ports v)

-- those of nodes, which are numbered from v on
abbrev pub nodes_from : Dataflow → FlowPorts → List Holding → ℕ → List Node → List Part
nodes_from flow ports held v [] = []
nodes_from flow ports held v (node ∷ nodes) = node_parts flow ports held v node ++ nodes_from flow ports (held_node flow ports held v node) (v + 1) nodes

abbrev pub held_nodes : Dataflow → FlowPorts → List Holding → ℕ → List Node → List Holding
held_nodes flow ports held v [] = held
held_nodes flow ports held v (node ∷ nodes) = held_nodes flow ports (held_node flow ports held v node) (v + 1) nodes

-- the value of node v is moved to the tile at a place, and goes to the sink there
abbrev pub given_at : Dataflow → FlowPorts → List Holding → PortPlace → ℕ → List Part
given_at flow ports held place v =
    moved flow ports held v (tile_at flow place)
    ++ (to_tile (tile_at flow place) (send_value place.net v ∷ []) ++ ToSwitch (tile_at flow place) (to_side place.net place.side) ∷ [])

-- those of outs, which are numbered from i on
abbrev pub outs_from : Dataflow → FlowPorts → List Holding → ℕ → List ℕ → List Part
outs_from flow ports held i [] = []
outs_from flow ports held i (v ∷ outs) =
    given_at flow ports held (sink_of ports i) v ++ outs_from flow ports (with_value held v (sink_tile flow ports i)) (i + 1) outs

-- which tiles have which values after the inputs, and after all nodes
abbrev pub first_held : Dataflow → FlowPorts → List Holding
first_held flow ports = held_inputs flow ports [] 0 0 flow.nodes

abbrev pub all_held : Dataflow → FlowPorts → List Holding
all_held flow ports = held_nodes flow ports (first_held flow ports) 0 flow.nodes

-- the parts of a flow, in the order in which one serial run takes them: inputs, other nodes, outs
unfoldable pub flow_parts : Dataflow → FlowPorts → List Part
flow_parts flow ports =
    inputs_from flow ports 0 0 flow.nodes
    ++ (nodes_from flow ports (first_held flow ports) 0 flow.nodes ++ outs_from flow ports (all_held flow ports) 0 flow.outs)

-- the words of source q, and how many sink q takes
abbrev pub source_program : FlowPorts → List ℕ → ℕ → PortProgram
source_program ports inputs q = record { words = picked q ports.comes inputs; capacity = 0 }

abbrev pub sink_program : Dataflow → FlowPorts → ℕ → PortProgram
sink_program flow ports q = record { words = []; capacity = length (picked q ports.goes flow.outs) }

abbrev pub port_programs : Dataflow → FlowPorts → List ℕ → List PortProgram
port_programs flow ports inputs =
    map (source_program ports inputs) (range_with_len 0 (length ports.sources))
    ++ map (sink_program flow ports) (range_with_len 0 (length ports.sinks))

-- the compiled set with these ports
unfoldable pub compiled_at : Dataflow → FlowPorts → List ℕ → ProgramSet
compiled_at flow ports inputs = record {
  topo = placed_topo flow ports;
  limit = PARTS_LIMIT;
  depth = DEFAULT_DEPTH;
  ports = port_programs flow ports inputs;
  tiles = script_programs (tiles_in flow) (flow_parts flow ports);
  shows = [];
}

-- that with a source and a sink at the west of tile 0
abbrev pub flow_topo : Dataflow → Topology
flow_topo flow = with_west_ports flow.cols flow.rows 0

unfoldable pub compiled : Dataflow → List ℕ → ProgramSet
compiled flow inputs = compiled_at flow usual_ports inputs
