use Rattle.std.proofs.Common.{◌≡◌, Some, rules, ap, sym, ◌∙◌}
use Rattle.std.specs.Prelude.{slice_get}
use Rattle.raw_grid.specs.declared.parts.ProcKind.{ProcKind}
use Rattle.raw_grid.specs.declared.parts.ProcKind.TheVariants as proc
use Rattle.raw_grid.specs.Topology.{kind_at}
use Rattle.raw_model.specs.Program.{ProgramSet}
use Rattle.raw_serial.proofs.Placed.{placed}
use Rattle.raw_serial.proofs.Starts.{tile_first, switch_first, source_first, sink_first}
use Rattle.raw_serial.proofs.opening.open_processor.Goals as goal
use Rattle.raw_serial.proofs.opening.open_processor.Goals.{After-kind_of}

-- the kind of the processor
kind : (c : After-kind_of) (k : ProcKind) → c.kind_of.result ≡ k → kind_at c.args.set.now.topo c.args.p.0 ≡ Some k
kind c k is = sym (ap (λ (s : ProgramSet). kind_at s.topo c.args.p.0) c.set.view_is) ∙ c.kind_of.ensures ∙ ap Some is

pub returns-in_ok-tile-in-Tile : goal.returns-in_ok-tile-in-Tile
returns-in_ok-tile-in-Tile c = tile_first c.args.set.now (search rules) c.args.p.0 c.program_of.result.now c.in_ok-tile-in-Tile.tile c.program_of.ensures.program c.in_ok-tile-in-Tile.ensures

pub returns-in_ok-switch-in-Switch : goal.returns-in_ok-switch-in-Switch
returns-in_ok-switch-in-Switch c =
    switch_first c.args.set.now (search rules) c.args.p.0 c.program_of-in-Switch.result.now c.in_ok-switch-in-Switch.switch
    (placed c.args.set.now.topo c.args.p.0 proc.Switch (kind (goal.at.returns-in_ok-switch-in-Switch c).After-kind_of proc.Switch c.in-Switch.is)).0
    (ap (slice_get c.args.set.now.tiles) (sym c.tile_beside.ensures) ∙ c.program_of-in-Switch.ensures.program) c.in_ok-switch-in-Switch.ensures

pub returns-in_ok-port-in-Source : goal.returns-in_ok-port-in-Source
returns-in_ok-port-in-Source c =
    source_first c.args.set.now (search rules) c.args.p.0 c.in_ok-port-in-Source.port
    (placed c.args.set.now.topo c.args.p.0 proc.Source (kind (goal.at.returns-in_ok-port-in-Source c).After-kind_of proc.Source c.in-Source.is)) c.in_ok-port-in-Source.ensures.local

pub returns-in_ok-port-in-Sink : goal.returns-in_ok-port-in-Sink
returns-in_ok-port-in-Sink c =
    sink_first c.args.set.now (search rules) c.args.p.0 c.port_program-in-Sink.result.now c.in_ok-port-in-Sink.port
    (placed c.args.set.now.topo c.args.p.0 proc.Sink (kind (goal.at.returns-in_ok-port-in-Sink c).After-kind_of proc.Sink c.in-Sink.is)) c.port_program-in-Sink.ensures c.in_ok-port-in-Sink.ensures
