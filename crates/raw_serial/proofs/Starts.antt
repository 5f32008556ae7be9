-- Where each processor stands at the start of a machine.
use Rattle.std.proofs.Common.{◌≡◌, ℕ, ◌+◌, ◌-◌, ◌*◌, ◌<◌, ◌≤◌, List, [], ◌++◌, length, map, Some, refl, sym, ap, subst, ◌∙◌, arith}
use Rattle.std.specs.Prelude.{slice_get}
use Rattle.std.proofs.lemmas.List.{length-map}
use Rattle.raw_switch_isa.specs.Instruction.{SwitchInstruction}
use Rattle.raw_grid.specs.declared.parts.PortKind.TheVariants as kind
use Rattle.raw_grid.specs.declared.parts.PortPlace.{PortPlace}
use Rattle.raw_grid.specs.Topology.{tile_count}
use Rattle.raw_model.specs.Program.{ProgramSet, TileProgram, PortProgram, IsSet}
use Rattle.raw_model.specs.Local.{Local, Tile, Switch, Source, Sink}
use Rattle.raw_model.specs.Machine.{program_code, program_switch, switch_code, port_program, capacity_of}
use Rattle.raw_model.specs.Start.{start, first_tile, first_switch, first_port}
use Rattle.raw_processor.specs.declared.processor.Processor.{Processor}
use Rattle.raw_processor.specs.declared.processor.Processor.TheVariants as a
use Rattle.raw_processor.specs.Processor.{local_of, misses_of, owed_of, IsKept}
use Rattle.raw_processor.specs.declared.processor.TileUnit.{TileUnit}
use Rattle.raw_processor.specs.declared.processor.SwitchUnit.{SwitchUnit}
use Rattle.raw_processor.specs.Port.{Port}
use Rattle.raw_serial.specs.Fresh.{IsFirst, IsFirstTile, IsFirstSwitch, IsFirstPort}
use Rattle.raw_serial.proofs.Fields.{some_at, at_front, at_back, at_field}
use Rattle.raw_serial.proofs.Placed.{IsPortAt}

module _ (g : ProgramSet) (valid : IsSet g) (p : ℕ) where
  abbrev first_tiles : List Local
  first_tiles = map (λ (tile : TileProgram). Tile (first_tile tile)) g.tiles

  abbrev first_switches : List Local
  first_switches = map (λ (tile : TileProgram). Switch (first_switch tile.switch)) g.tiles

  abbrev first_ports : List Local
  first_ports = map (λ (place : PortPlace). first_port place.kind) g.topo.places

  each_tile : length first_tiles ≡ tile_count g.topo
  each_tile = length-map g.tiles (λ (tile : TileProgram). Tile (first_tile tile)) ∙ valid.each_tile

  each_switch : length first_switches ≡ tile_count g.topo
  each_switch = length-map g.tiles (λ (tile : TileProgram). Switch (first_switch tile.switch)) ∙ valid.each_tile

  pub tile_there : (program : TileProgram) → slice_get g.tiles p ≡ Some program → slice_get (start g).locals p ≡ Some (Tile (first_tile program))
  unfolding start
  tile_there program here =
      at_front first_tiles (first_switches ++ first_ports) p _ (at_field (λ (tile : TileProgram). Tile (first_tile tile)) g.tiles p program here)

  switch_there : (program : TileProgram) → tile_count g.topo ≤ p → slice_get g.tiles (p - tile_count g.topo) ≡ Some program
      → slice_get (start g).locals p ≡ Some (Switch (first_switch program.switch))
  unfolding start
  switch_there program behind here =
      let place : p ≡ length first_tiles + (p - tile_count g.topo) = omega (arith, behind, each_tile) in
      ap (slice_get (first_tiles ++ (first_switches ++ first_ports))) place
      ∙ at_back first_tiles (first_switches ++ first_ports) (p - tile_count g.topo)
      ∙ at_front first_switches first_ports (p - tile_count g.topo) _
      (at_field (λ (tile : TileProgram). Switch (first_switch tile.switch)) g.tiles (p - tile_count g.topo) program here)

  port_there : (place : PortPlace) → 2 * tile_count g.topo ≤ p → slice_get g.topo.places (p - 2 * tile_count g.topo) ≡ Some place
      → slice_get (start g).locals p ≡ Some (first_port place.kind)
  unfolding start
  port_there place behind here =
      let i = p - 2 * tile_count g.topo in
      let after_tiles : p ≡ length first_tiles + (length first_switches + i) = omega (arith, behind, each_tile, each_switch) in
      ap (slice_get (first_tiles ++ (first_switches ++ first_ports))) after_tiles
      ∙ at_back first_tiles (first_switches ++ first_ports) (length first_switches + i)
      ∙ at_back first_switches first_ports i
      ∙ at_field (λ (place : PortPlace). first_port place.kind) g.topo.places i place here

  pub tile_first : (program : TileProgram) (tile : TileUnit) → slice_get g.tiles p ≡ Some program → IsFirstTile program tile → IsFirst g p (a.Tile tile)
  tile_first program tile here first =
      record {
        kept = first.code ∙ sym (ap program_code here);
        local = tile_there program here ∙ ap (λ l. Some (Tile l)) (sym first.state);
        cache = λ below. first.cache;
        misses = first.misses;
        owed = first.owed;
      }

  -- one behind the tiles, beside which nothing stands
  behind_first : (x : Processor) → tile_count g.topo ≤ p → IsKept g p x → slice_get (start g).locals p ≡ Some (local_of x) → misses_of x ≡ 0 → owed_of x ≡ 0
      → IsFirst g p x
  behind_first x behind kept local misses owed =
      record { kept = kept; local = local; cache = λ below. absurd (omega (arith, below, behind)); misses = misses; owed = owed }

  -- a switch by its program, and by its code, which is that of its program
  pub switch_first : (program : TileProgram) (switch : SwitchUnit) → tile_count g.topo ≤ p
      → slice_get g.tiles (p - tile_count g.topo) ≡ Some program → IsFirstSwitch program switch → IsFirst g p (a.Switch switch)
  switch_first program switch behind here first =
      behind_first (a.Switch switch) behind (first.code ∙ sym (ap program_switch here))
      (switch_there program behind here ∙ ap (λ l. Some (Switch l)) (sym first.state)) refl refl

  pub switch_again : (switch : SwitchUnit) (code : List SwitchInstruction) → (tile_count g.topo ≤ p) × (p < 2 * tile_count g.topo)
      → code ≡ switch_code g p → switch.code.items ≡ code → switch.state ≡ first_switch code → IsFirst g p (a.Switch switch)
  switch_again switch code at is own state =
      let many = valid.each_tile in
      let program = some_at g.tiles (p - tile_count g.topo) (omega (arith, at.0, at.1, many)) in
      let same = is ∙ ap program_switch program.1 in
      switch_first program.0 switch at.0 program.1 (record { code = own ∙ same; state = state ∙ ap first_switch same })

  -- a port that has done nothing
  pub source_first : (port : Port) → IsPortAt g.topo p kind.Source → port.local ≡ record { done = 0; got = [] } → IsFirst g p (a.Source port)
  source_first port at none =
      let behind = at.behind in
      behind_first (a.Source port) (omega arith) tt
      (port_there at.place at.behind at.here ∙ ap (λ k. Some (first_port k)) at.is_kind ∙ ap (λ l. Some (Source l)) (sym none)) refl refl

  pub sink_again : (port : Port) → IsPortAt g.topo p kind.Sink → port.local ≡ record { done = 0; got = [] }
      → capacity_of (port_program g p) ≤ port.room → IsFirst g p (a.Sink port)
  sink_again port at none room =
      let behind = at.behind in
      behind_first (a.Sink port) (omega arith) room
      (port_there at.place at.behind at.here ∙ ap (λ k. Some (first_port k)) at.is_kind ∙ ap (λ l. Some (Sink l)) (sym none)) refl refl

  pub sink_first : (program : PortProgram) (port : Port) → IsPortAt g.topo p kind.Sink → slice_get g.ports (p - 2 * tile_count g.topo) ≡ Some program
      → IsFirstPort program port → IsFirst g p (a.Sink port)
  sink_first program port at here first =
      sink_again port at first.local (subst (λ n. n ≤ port.room) (sym (ap capacity_of here)) first.room)
