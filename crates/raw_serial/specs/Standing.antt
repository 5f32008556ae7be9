-- What stands before a turn of a processor, by its kind.
use Rattle.std.specs.Prelude.{◌≡◌, ℕ, false, ◌<◌, ◌≤◌, Some, List, length}
use Rattle.raw_grid.specs.declared.parts.ProcKind.{ProcKind}
use Rattle.raw_grid.specs.declared.parts.ProcKind.TheVariants as proc
use Rattle.raw_grid.specs.Topology.{Topology, tile_count, proc_count, kind_at}
use Rattle.raw_grid.specs.Wires.{wires_of}
use Rattle.raw_model.specs.Program.{ProgramSet, IsSet}
use Rattle.raw_model.specs.Local.{Tile}
use Rattle.raw_model.specs.Machine.{is_stopped, tile_code, switch_code}
use Rattle.raw_model.specs.Start.{FitsTile, FitsSwitch}
use Rattle.raw_processor.specs.declared.end_wires.EndWires.{EndWires}
use Rattle.raw_processor.specs.declared.processor.TileUnit.{TileUnit}
use Rattle.raw_processor.specs.declared.processor.SwitchUnit.{SwitchUnit}
use Rattle.raw_processor.specs.Ends.{AreEndsOf}

-- a processor of the topology, of this kind
pub record IsOfKind (t : Topology) (p : ℕ) (k : ProcKind) : Type 0 where
  pub proc : p < proc_count t
  pub kind : kind_at t p ≡ Some k

-- a set, the wires at the ends of its processor p, and what each of its wires holds
pub record EndsStand (set : ProgramSet) (p : ℕ) (ends : EndWires) (wires : List (List ℕ)) : Type 0 where
  pub valid : IsSet set
  pub ends_are : AreEndsOf set.topo p ends
  pub each : length wires ≡ length (wires_of set.topo)

-- beside these, a tile p that has its program and a state that may be reached
pub record TileStands (set : ProgramSet) (p : ℕ) (ends : EndWires) (tile : TileUnit) (wires : List (List ℕ)) : Type 0 where
  pub on : EndsStand set p ends wires
  pub there : p < tile_count set.topo
  pub code : tile.code.items ≡ tile_code set p
  pub few : tile.misses ≤ tile.state.count
  pub fits : FitsTile set.limit (tile_code set p) tile.state

-- beside these, it is not stopped and owes no stall turn
pub record TileMayStep (set : ProgramSet) (p : ℕ) (ends : EndWires) (tile : TileUnit) (wires : List (List ℕ)) : Type 0 where
  pub stands : TileStands set p ends tile wires
  pub going : is_stopped set p (Tile tile.state) ≡ false
  pub free : tile.owed ≡ 0

-- beside the ends, a switch p that has its program and a state that may be reached
pub record SwitchStands (set : ProgramSet) (p : ℕ) (ends : EndWires) (switch : SwitchUnit) (wires : List (List ℕ)) : Type 0 where
  pub on : EndsStand set p ends wires
  pub there : kind_at set.topo p ≡ Some proc.Switch
  pub code : switch.code.items ≡ switch_code set p
  pub fits : FitsSwitch set.limit (switch_code set p) switch.state
