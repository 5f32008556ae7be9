-- The compiled set from its parts.
use Rattle.std.proofs.Common.{◌≡◌, ℕ, ◌+◌, ◌^◌, ◌<◌, List, [], ◌++◌, length, subst, arith}
use Rattle.std.proofs.lemmas.Option.{slice_get_within, get_or_from_slice_get}
use Rattle.raw_model.specs.declared.limits.TheConstants.{DEFAULT_DEPTH}
use Rattle.raw_codegen.specs.declared.limits.TheConstants.{PARTS_LIMIT}
use Rattle.raw_grid.specs.Topology.{Topology}
use Rattle.raw_model.specs.declared.program.Show.{Show}
use Rattle.raw_model.specs.Program.{ProgramSet, TileProgram, PortProgram, IsPortProgram, IsSet}
use Rattle.raw_codegen.specs.Parts.{Part, programs_of, script_programs, Gives}
use Rattle.raw_codegen.specs.Limits.{AreShort, IsTooLong, Overflows}
use Rattle.raw_flow.specs.Flows.{Dataflow, IsFlow, AreInputs}
use Rattle.raw_flow.specs.Ports.{FlowPorts, ArePorts, picked, placed_topo}
use Rattle.raw_flow.specs.Compiled.{tiles_in, inputs_from, first_held, nodes_from, all_held, outs_from, flow_parts, sink_program, port_programs, compiled_at}
use Rattle.raw_flow.specs.Right.{EachPlacedIsSet}
use Rattle.raw_flow.proofs.PortPrograms.{sink_given}
use Rattle.raw_codegen.specs.Laws.{GivingLaws}

-- all parts, given one after another
module _ (laws : GivingLaws) (flow : Dataflow) (ports : FlowPorts) (w0 : List TileProgram) (is : w0 ≡ programs_of (tiles_in flow) []) where
  abbrev n : ℕ
  n = tiles_in flow

  abbrev ps : List Part
  ps = inputs_from flow ports 0 0 flow.nodes

  abbrev qs : List Part
  qs = nodes_from flow ports (first_held flow ports) 0 flow.nodes

  abbrev rs : List Part
  rs = outs_from flow ports (all_held flow ports) 0 flow.outs

  pub all_given : (w1 w2 w3 : List TileProgram) → Gives n ps w0 w1 → Gives n qs w1 w2 → Gives n rs w2 w3 → w3 ≡ programs_of n (flow_parts flow ports)
  unfolding flow_parts
  all_given w1 w2 w3 g h k = laws.both n ps (qs ++ rs) w0 w1 w3 g (laws.both n qs rs w1 w2 w3 h k) [] is

  pub inputs_long : Overflows n ps w0 → IsTooLong n (flow_parts flow ports)
  unfolding flow_parts
  inputs_long full = laws.more n ps (qs ++ rs) w0 full [] is

  pub nodes_long : (w1 : List TileProgram) → Gives n ps w0 w1 → Overflows n qs w1 → IsTooLong n (flow_parts flow ports)
  unfolding flow_parts
  nodes_long w1 g full = laws.later n ps (qs ++ rs) w0 w1 g (laws.more n qs rs w1 full) [] is

  pub outs_long : (w1 w2 : List TileProgram) → Gives n ps w0 w1 → Gives n qs w1 w2 → Overflows n rs w2 → IsTooLong n (flow_parts flow ports)
  unfolding flow_parts
  outs_long w1 w2 g h full = laws.later n ps (qs ++ rs) w0 w1 g (laws.later n qs rs w1 w2 h full) [] is

pub set_is : (flow : Dataflow) (ports : FlowPorts) (inputs : List ℕ) (topo : Topology) (programs : List PortProgram) (tiles : List TileProgram) (shows : List Show)
    → topo ≡ placed_topo flow ports → programs ≡ port_programs flow ports inputs
    → tiles ≡ script_programs (tiles_in flow) (flow_parts flow ports) → shows ≡ []
    → ◌≡◌ {A = ProgramSet} (record { topo = topo; limit = PARTS_LIMIT; depth = DEFAULT_DEPTH; ports = programs; tiles = tiles; shows = shows }) (compiled_at flow ports inputs)
unfolding compiled_at
set_is flow ports inputs topo programs tiles shows a b c d = λ i. record { topo = a i; limit = PARTS_LIMIT; depth = DEFAULT_DEPTH; ports = b i; tiles = c i; shows = d i }

pub is_valid : EachPlacedIsSet → (flow : Dataflow) (ports : FlowPorts) (inputs : List ℕ) → IsFlow flow → ArePorts flow ports → AreInputs flow inputs → (tiles : List TileProgram)
    → tiles ≡ script_programs (tiles_in flow) (flow_parts flow ports) → AreShort tiles → IsSet (compiled_at flow ports inputs)
unfolding compiled_at
is_valid law flow ports inputs is are given tiles same short = law flow ports inputs is are given (subst (λ (xs : List TileProgram). AreShort xs) same short)

pub tiles_not_short : (flow : Dataflow) (ports : FlowPorts) (inputs : List ℕ) → (AreShort (script_programs (tiles_in flow) (flow_parts flow ports)) → ⊥) → AreShort (compiled_at flow ports inputs).tiles → ⊥
unfolding compiled_at
tiles_not_short flow ports inputs h = h

-- the sinks of a set have room for all outs that go to them, fewer than 2^32
pub outs_fit : (flow : Dataflow) (ports : FlowPorts) (inputs : List ℕ) → IsSet (compiled_at flow ports inputs) → (q : ℕ) → q < length ports.sinks → length (picked q ports.goes flow.outs) < 2 ^ 32
unfolding compiled_at
outs_fit flow ports inputs valid q h =
    let at : ℕ = length ports.sources + q in
    let given = sink_given flow ports inputs q h in
    let within = slice_get_within (port_programs flow ports inputs) at (sink_program flow ports q) given in
    let is = valid.port_programs at (sink_program flow ports q) within in
    let same = get_or_from_slice_get (port_programs flow ports inputs) at (sink_program flow ports q) (sink_program flow ports q) given in
    let few = (subst IsPortProgram same is).capacity in
    omega arith
