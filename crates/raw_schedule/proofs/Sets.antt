-- A set of lawful programs for a flow keeps all that sets keep.
use Rattle.std.proofs.Common.{◌≡◌, ℕ, zero, suc, ◌^◌, ◌<◌, ◌≤◌, List, [], ◌∷◌, length, refl, subst, arith, sum_by}
use Rattle.std.specs.List.{All}
use Rattle.std.proofs.lemmas.List.Elements.{All-nil, All-cons}
use Rattle.std.proofs.lemmas.List.FromFn.{length-map-range_with_len}
use Rattle.std.proofs.lemmas.Option.{same_Some, slice_get_within}
use Rattle.raw_grid.specs.declared.parts.PortPlace.{PortPlace}
use Rattle.raw_grid.specs.Topology.{Topology, tile_count}
use Rattle.raw_model.specs.declared.limits.TheConstants.{DEFAULT_DEPTH}
use Rattle.raw_model.specs.declared.program.Show.{Show}
use Rattle.raw_model.specs.Program.{ProgramSet, TileProgram, IsTileProgram, HaveWires, PortProgram, IsPortProgram, IsOfKind, AreOfKinds, IsShow, IsSet}
use Rattle.raw_codegen.specs.declared.limits.TheConstants.{PARTS_LIMIT}
use Rattle.raw_codegen.specs.Parts.{Part, script_program, script_programs}
use Rattle.raw_codegen.specs.Lawful.{AreParts}
use Rattle.raw_codegen.specs.Limits.{AreShort}
use Rattle.raw_flow.specs.declared.limits.TheConstants.{MAX_NODES}
use Rattle.raw_flow.specs.Flows.{Dataflow, IsFlow}
use Rattle.raw_flow.specs.Ports.{source_place, sink_place}
use Rattle.raw_flow.specs.Compiled.{flow_topo}
use Rattle.raw_flow.proofs.Usual.{topology}
use Rattle.raw_schedule.specs.Given.{AreWhole}
use Rattle.raw_schedule.specs.Whole.{flow_ports, with_programs, with_tiles}

-- what is known of lawful parts
pub record PartsLaws : Type 0 where
  pub programs : (topo : Topology) (n : ℕ) (parts : List Part) → AreParts topo parts → AreShort (script_programs n parts) → All IsTileProgram (script_programs n parts)
  pub wires : (topo : Topology) (n : ℕ) (parts : List Part) → AreParts topo parts → HaveWires topo (script_programs n parts)
  pub cells : (n : ℕ) (parts : List Part) → sum_by (λ (tile : TileProgram). length tile.cells) (script_programs n parts) ≡ 0
  pub misses : (n : ℕ) (parts : List Part) → sum_by (λ (tile : TileProgram). length tile.misses) (script_programs n parts) ≡ 0

module _ (laws : PartsLaws) (flow : Dataflow) (inputs : List ℕ) (is : IsFlow flow) (words : All (λ word. word < 2 ^ 32) inputs) (few : length inputs ≤ MAX_NODES) (few_outs : length flow.outs ≤ MAX_NODES) where
  abbrev grid : Topology
  grid = flow_topo flow

  abbrev source_program : PortProgram
  source_program = record { words = inputs; capacity = 0 }

  abbrev sink_program : PortProgram
  sink_program = record { words = []; capacity = length flow.outs }

  ports_lawful : All IsPortProgram (source_program ∷ sink_program ∷ [])
  ports_lawful =
      All-cons IsPortProgram source_program (sink_program ∷ []) (record { words = words; capacity = omega arith })
      (All-cons IsPortProgram sink_program [] (record { words = All-nil (λ word. word < 2 ^ 32); capacity = omega arith }) (All-nil IsPortProgram))

  kinds_lawful : AreOfKinds (source_place ∷ sink_place ∷ []) (source_program ∷ sink_program ∷ [])
  kinds_lawful zero place port e f =
      subst (λ (x : PortPlace). IsOfKind x.kind port) (same_Some source_place place e) (subst (λ (y : PortProgram). IsOfKind source_place.kind y) (same_Some source_program port f) refl)
  kinds_lawful (suc zero) place port e f =
      subst (λ (x : PortPlace). IsOfKind x.kind port) (same_Some sink_place place e) (subst (λ (y : PortProgram). IsOfKind sink_place.kind y) (same_Some sink_program port f) refl)
  kinds_lawful (suc (suc i)) place port e f = absurd (omega (arith, slice_get_within (source_place ∷ sink_place ∷ []) (suc (suc i)) place e))

  module _ (parts : List Part) (lawful : AreParts grid parts) (short : AreShort (script_programs (tile_count grid) parts)) where
    abbrev n : ℕ
    n = tile_count grid

    script_is_set : IsSet (with_programs flow inputs (script_programs n parts))
    script_is_set = record {
      topology = topology flow is;
      some_steps = omega arith;
      few_steps = omega arith;
      some_depth = omega arith;
      small_depth = omega arith;
      each_port = refl;
      each_tile = length-map-range_with_len (script_program parts) 0 n;
      port_programs = ports_lawful;
      port_kinds = kinds_lawful;
      tile_programs = laws.programs grid n parts lawful short;
      wires = laws.wires grid n parts lawful;
      shows = All-nil (IsShow grid);
      totals = record {
        instructions = short.all_code;
        switch_instructions = short.all_switch;
        cells = let a = laws.cells n parts in omega arith;
        misses = let a = laws.misses n parts in omega arith;
        words = omega arith;
        capacities = omega arith;
        shows = omega arith;
        shown = omega arith;
      };
    }

  pub whole_is_set : (tiles : List TileProgram) → AreWhole grid tiles → IsSet (with_programs flow inputs tiles)
  whole_is_set tiles whole =
      let short : AreShort (script_programs (tile_count grid) whole.parts) = subst (λ (xs : List TileProgram). AreShort xs) whole.given whole.short in
      rw whole.given (script_is_set whole.parts whole.lawful short)

-- the words of the source, and how many the sink takes
abbrev pub port_programs : List ℕ → ℕ → List PortProgram
port_programs inputs outs = record { words = inputs; capacity = 0 } ∷ record { words = []; capacity = outs } ∷ []

pub set_is : (flow : Dataflow) (inputs : List ℕ) (topo : Topology) (ports : List PortProgram) (tiles : List TileProgram) (shows : List Show)
    → topo ≡ flow_topo flow → ports ≡ flow_ports flow inputs → shows ≡ []
    → ◌≡◌ {A = ProgramSet} (record { topo = topo; limit = PARTS_LIMIT; depth = DEFAULT_DEPTH; ports = ports; tiles = tiles; shows = shows }) (with_programs flow inputs tiles)
set_is flow inputs topo ports tiles shows a b d = λ i. record { topo = a i; limit = PARTS_LIMIT; depth = DEFAULT_DEPTH; ports = b i; tiles = tiles; shows = d i }

module _ (laws : PartsLaws) (set : ProgramSet) (is : IsSet set) where
  module _ (parts : List Part) (lawful : AreParts set.topo parts) (short : AreShort (script_programs (tile_count set.topo) parts)) where
    abbrev count : ℕ
    count = tile_count set.topo

    script_replaces : IsSet (with_tiles set (script_programs count parts))
    script_replaces = record {
      topology = is.topology;
      some_steps = is.some_steps;
      few_steps = is.few_steps;
      some_depth = is.some_depth;
      small_depth = is.small_depth;
      each_port = is.each_port;
      each_tile = length-map-range_with_len (script_program parts) 0 count;
      port_programs = is.port_programs;
      port_kinds = is.port_kinds;
      tile_programs = laws.programs set.topo count parts lawful short;
      wires = laws.wires set.topo count parts lawful;
      shows = is.shows;
      totals = record {
        instructions = short.all_code;
        switch_instructions = short.all_switch;
        cells = let a = laws.cells count parts in omega arith;
        misses = let a = laws.misses count parts in omega arith;
        words = is.totals.words;
        capacities = is.totals.capacities;
        shows = is.totals.shows;
        shown = is.totals.shown;
      };
    }

  -- a set with other programs that are whole is a set
  pub replaced_is_set : (tiles : List TileProgram) → AreWhole set.topo tiles → IsSet (with_tiles set tiles)
  replaced_is_set tiles whole =
      let short : AreShort (script_programs (tile_count set.topo) whole.parts) = subst (λ (xs : List TileProgram). AreShort xs) whole.given whole.short in
      rw whole.given (script_replaces whole.parts whole.lawful short)
