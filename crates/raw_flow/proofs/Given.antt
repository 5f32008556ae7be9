-- The laws of the crates below that are used here.
use Rattle.std.proofs.Common.{◌≡◌, ℕ, ◌+◌, ◌*◌, ◌^◌, ◌<◌, ◌≤◌, List, [], ◌∷◌, ◌++◌, length, Some, sum_by}
use Rattle.std.specs.Prelude.{slice_get, slice_index}
use Rattle.std.specs.List.{All, AllByRecursion}
use Rattle.raw_codegen.specs.declared.limits.TheConstants.{WORDS_IN_REACH}
use Rattle.raw_network.specs.Network.{values_on}
use Rattle.raw_tile_isa.specs.Instruction.{Instruction, IsTileIns}
use Rattle.raw_tile_isa.specs.Load.{load}
use Rattle.raw_tile_isa.specs.Words.{EachGivesWords}
use Rattle.raw_grid.specs.declared.limits.TheConstants.{MAX_PORTS}
use Rattle.raw_grid.specs.declared.parts.Net.{Net}
use Rattle.raw_grid.specs.declared.parts.Net.TheVariants.{One, Two}
use Rattle.raw_grid.specs.declared.parts.Side.{Side}
use Rattle.raw_grid.specs.declared.parts.PortKind.TheVariants as kind
use Rattle.raw_grid.specs.declared.parts.PortPlace.{PortPlace}
use Rattle.raw_grid.specs.Ends.{side_end, tile_end}
use Rattle.raw_grid.specs.Topology.{Topology, IsTopology, tile_count, switch_number, switch_at}
use Rattle.raw_grid.specs.Wires.{wires_of, input_wire, output_wire, producer_of, Joins}
use Rattle.raw_model.specs.Local.{Local}
use Rattle.raw_model.specs.Program.{ProgramSet, TileProgram, IsSet, IsTileProgram, HaveWires}
use Rattle.raw_model.specs.TileTable.{gives, word_at}
use Rattle.raw_model.specs.Start.{MachineState, Fits}
use Rattle.raw_model.specs.Laws.{ComesToRest}
use Rattle.raw_model.specs.Rest.{IsLawfulFrom, end_from}
use Rattle.raw_codegen.specs.Parts.{Part, ToSwitch, tile_part, to_tile, to_switches, script_programs}
use Rattle.raw_codegen.specs.Lawful.{IsPart, AreParts}
use Rattle.raw_codegen.specs.Limits.{AreShort}
use Rattle.raw_codegen.specs.Steps.{Leads, IsNext, one_value, Changed, HasCome, IsGone}
use Rattle.raw_codegen.specs.Straight.{Core, IsCore, core_with, at_tile, row_of_ins, nothing, only, Does, IsPlain, IsSender, IsTaker, Runs, PassesOn}
use Rattle.raw_codegen.specs.Laws.{StartsWithNone, StartsIdle, StartsWithPorts, EachBlockRuns, EachSendRuns, EachTakeRuns, EachPassRuns, EachHalts}
use Rattle.raw_codegen.specs.Rows.{register_of, IsKeeping, load_ins, store_ins, from_side, to_side, written, with_word}
use Rattle.raw_route.specs.Hauls.{Haulage, IsHaul}
use Rattle.raw_route.specs.Tree.{tree_ins}
use Rattle.raw_route.specs.Laws.{EachTreeRuns}

-- words that were stored
pub record Stored : Type 0 where
  pub there : (memory : List ℕ) (v x : ℕ) → 4 * v + 4 ≤ length memory → x < 2 ^ 32 → word_at (with_word memory v x) (4 * v) ≡ x
  pub elsewhere : (memory : List ℕ) (v x u : ℕ) → (u ≡ v → ⊥) → word_at (with_word memory v x) (4 * u) ≡ word_at memory (4 * u)

-- instructions
pub record Rows : Type 0 where
  pub li : (r w : ℕ) (a : Core) → IsKeeping r → IsCore a → w < 2 ^ 32 → Runs (load r w) a (written a r w)
  pub load_send : (net : Net) (v : ℕ) (a : Core) → IsCore a → v < WORDS_IN_REACH → Does (load_ins (register_of net) v) [] a a (only net (word_at a.memory (4 * v)))
  pub load_sender : (net : Net) (v : ℕ) → IsSender net (load_ins (register_of net) v)
  pub store_take : (net : Net) (v x : ℕ) (a : Core) → IsCore a → v < WORDS_IN_REACH → Does (store_ins (register_of net) v) (x ∷ []) a (core_with a.regs (with_word a.memory v x)) nothing
  pub store_taker : (net : Net) (v : ℕ) → IsTaker net (store_ins (register_of net) v)
  pub load : (r v : ℕ) (a : Core) → IsKeeping r → IsCore a → v < WORDS_IN_REACH → Does (load_ins r v) [] a (written a r (word_at a.memory (4 * v))) nothing
  pub load_plain : (r v : ℕ) → IsKeeping r → IsPlain (load_ins r v)
  pub store : (r v x : ℕ) (a : Core) → IsKeeping r → IsCore a → v < WORDS_IN_REACH → slice_index a.regs r ≡ x → Does (store_ins r v) [] a (core_with a.regs (with_word a.memory v x)) nothing
  pub store_plain : (r v : ℕ) → IsKeeping r → IsPlain (store_ins r v)
  pub register : (ins : Instruction) (a : Core) (r x : ℕ) → IsKeeping r → ((size k : ℕ) → row_of_ins ins size (at_tile k a) [] ≡ gives size (at_tile k a) r x) → Does ins [] a (written a r x) nothing
  pub append : (xs ys : List Instruction) (a m b : Core) → Runs xs a m → Runs ys m b → Runs (xs ++ ys) a b
  pub from_side : (topo : Topology) (p : ℕ) (net : Net) (side : Side) (w v : ℕ) → input_wire topo p (side_end net side) ≡ Some w → output_wire topo p (tile_end net) ≡ Some v → PassesOn topo p (from_side net side) w v
  pub to_side : (topo : Topology) (p : ℕ) (net : Net) (side : Side) (w v : ℕ) → input_wire topo p (tile_end net) ≡ Some w → output_wire topo p (side_end net side) ≡ Some v → PassesOn topo p (to_side net side) w v

-- wires of tiles and ports
pub record Wires : Type 0 where
  pub output_exists : (t : Topology) (p i w : ℕ) → output_wire t p i ≡ Some w → w < length (wires_of t)
  pub output_owner : (t : Topology) (p i w : ℕ) → output_wire t p i ≡ Some w → producer_of t w ≡ p
  pub to_tile_one : (t : Topology) (tile : ℕ) → IsTopology t → tile < tile_count t → Joins t (4 * tile) (switch_number t tile) (tile_end One) tile (tile_end One)
  pub to_tile_two : (t : Topology) (tile : ℕ) → IsTopology t → tile < tile_count t → Joins t (4 * tile + 1) (switch_number t tile) (tile_end Two) tile (tile_end Two)
  pub from_tile_two : (t : Topology) (tile : ℕ) → IsTopology t → tile < tile_count t → Joins t (4 * tile + 3) tile (tile_end Two) (switch_number t tile) (tile_end Two)
  pub from_tile_one : (t : Topology) (tile : ℕ) → IsTopology t → tile < tile_count t → Joins t (4 * tile + 2) tile (tile_end One) (switch_number t tile) (tile_end One)
  pub source : (t : Topology) (k : ℕ) (place : PortPlace) → IsTopology t → slice_get t.places k ≡ Some place → place.kind ≡ kind.Source →
      (w : ℕ) × (w + length t.places ≡ length (wires_of t) + k) × Joins t w (2 * tile_count t + k) (tile_end place.net) (switch_at t place.x place.y) (side_end place.net place.side)
  pub sink : (t : Topology) (k : ℕ) (place : PortPlace) → IsTopology t → slice_get t.places k ≡ Some place → place.kind ≡ kind.Sink →
      (w : ℕ) × (w + length t.places ≡ length (wires_of t) + k) × Joins t w (switch_at t place.x place.y) (side_end place.net place.side) (2 * tile_count t + k) (tile_end place.net)
  pub port_input : (t : Topology) (k : ℕ) (place : PortPlace) (i w : ℕ) → IsTopology t → slice_get t.places k ≡ Some place → input_wire t (2 * tile_count t + k) i ≡ Some w →
      (place.kind ≡ kind.Sink) × (i ≡ tile_end place.net)
  pub port_output : (t : Topology) (k : ℕ) (place : PortPlace) (i w : ℕ) → IsTopology t → slice_get t.places k ≡ Some place → output_wire t (2 * tile_count t + k) i ≡ Some w →
      (place.kind ≡ kind.Source) × (i ≡ tile_end place.net)

-- how a machine goes on with a script
pub record Scripts : Type 0 where
  pub start : StartsWithNone
  pub start_idle : StartsIdle
  pub start_ports : StartsWithPorts
  pub block : EachBlockRuns
  pub send : EachSendRuns
  pub take : EachTakeRuns
  pub pass : EachPassRuns
  pub tree : EachTreeRuns
  pub halts : EachHalts

-- all that the theorem uses
pub record Laws : Type 0 where
  pub stored : Stored
  pub rows : Rows
  pub wires : Wires
  pub scripts : Scripts
  pub words : EachGivesWords
  pub end_fits : (set : ProgramSet) (s : MachineState) (h : List ℕ) → IsSet set → Fits set s → IsLawfulFrom set s h → Fits set (end_from set s h)
  pub same_rest : (set : ProgramSet) (s : MachineState) (h g : List ℕ) → IsSet set → ComesToRest set s h → ComesToRest set s g → end_from set s g ≡ end_from set s h
  pub step_send : (set : ProgramSet) (s : MachineState) (p : ℕ) (l next : Local) (w x : ℕ) → IsNext set s p l next [] (w ∷ []) [] (one_value w x) →
      length (values_on s.wires w) < set.depth → w < length s.wires → Leads set s (λ r. Changed s r p next × HasCome w x s.wires r.wires)
  pub step_take : (set : ProgramSet) (s : MachineState) (p : ℕ) (l next : Local) (w x : ℕ) (xs : List ℕ) → IsNext set s p l next (w ∷ []) [] (x ∷ []) [] →
      values_on s.wires w ≡ x ∷ xs → Leads set s (λ r. Changed s r p next × IsGone w x s.wires r.wires)

-- what is known of lawful parts
pub record PartsLaws : Type 0 where
  pub wires : Wires
  pub few_ports : (t : Topology) → IsTopology t → length t.places ≤ MAX_PORTS
  pub tile_append : (t : ℕ) (xs ys : List Part) → tile_part t (xs ++ ys) ≡ tile_part t xs ++ tile_part t ys
  pub tile_block : (t : ℕ) (code : List Instruction) → tile_part t (to_tile t code) ≡ code
  pub append : (topo : Topology) (xs ys : List Part) → AreParts topo xs → AreParts topo ys → AreParts topo (xs ++ ys)
  pub block : (topo : Topology) (t : ℕ) (code : List Instruction) → AllByRecursion IsTileIns code → AreParts topo (to_tile t code)
  pub programs : (topo : Topology) (n : ℕ) (parts : List Part) → AreParts topo parts → AreShort (script_programs n parts) → All IsTileProgram (script_programs n parts)
  pub have_wires : (topo : Topology) (n : ℕ) (parts : List Part) → AreParts topo parts → HaveWires topo (script_programs n parts)
  pub cells : (n : ℕ) (parts : List Part) → sum_by (λ (tile : TileProgram). length tile.cells) (script_programs n parts) ≡ 0
  pub misses : (n : ℕ) (parts : List Part) → sum_by (λ (tile : TileProgram). length tile.misses) (script_programs n parts) ≡ 0
  pub li : (r w : ℕ) → r < 32 → w < 2 ^ 32 → AllByRecursion IsTileIns (load r w)
  pub load_rules : (r v : ℕ) → r < 32 → v < 2 ^ 14 → IsTileIns (load_ins r v)
  pub store_rules : (r v : ℕ) → r < 32 → v < 2 ^ 14 → IsTileIns (store_ins r v)
  pub from_side : (topo : Topology) (t : ℕ) (net : Net) (side : Side) (w v : ℕ) → input_wire topo (switch_number topo t) (side_end net side) ≡ Some w →
      output_wire topo (switch_number topo t) (tile_end net) ≡ Some v → IsPart topo (ToSwitch t (from_side net side))
  pub to_side : (topo : Topology) (t : ℕ) (net : Net) (side : Side) (w v : ℕ) → input_wire topo (switch_number topo t) (tile_end net) ≡ Some w →
      output_wire topo (switch_number topo t) (side_end net side) ≡ Some v → IsPart topo (ToSwitch t (to_side net side))
  pub trees : (t : Topology) (haul : Haulage) → IsTopology t → IsHaul (tile_count t) haul → AreParts t (to_switches (tile_count t) (tree_ins t.cols haul))
