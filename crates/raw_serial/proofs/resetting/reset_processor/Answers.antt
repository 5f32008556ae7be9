use Rattle.std.proofs.Common.{◌≤◌, ap, sym, subst}
use Rattle.raw_grid.specs.declared.parts.ProcKind.TheVariants as proc
use Rattle.raw_model.specs.Machine.{port_program, capacity_of}
use Rattle.raw_model.specs.Start.{IsFit}
use Rattle.raw_processor.specs.declared.processor.Processor.{Processor}
use Rattle.raw_processor.specs.Port.{Port}
use Rattle.raw_processor.specs.Processor.{local_of, IsKept}
use Rattle.raw_serial.proofs.Placed.{placed}
use Rattle.raw_serial.proofs.Starts.{tile_first, switch_again, source_first, sink_again}
use Rattle.raw_serial.proofs.resetting.reset_processor.Goals as goal

pub returns-in-Tile : goal.returns-in-Tile
returns-in-Tile c =
    tile_first c.args.set.now c.requires.valid c.args.p.0 c.program_of.result.now c.reset_tile.new.tile c.program_of.ensures.program c.reset_tile.ensures

pub returns-in-Switch : goal.returns-in-Switch
returns-in-Switch c =
    let fits = subst (λ (x : Processor). IsFit c.args.set.now c.args.p.0 (local_of x)) c.in-Switch.is c.requires.fits in
    let kept = subst (λ (x : Processor). IsKept c.args.set.now c.args.p.0 x) c.in-Switch.is c.requires.kept in
    switch_again c.args.set.now c.requires.valid c.args.p.0 c.reset_switch.new.switch c.in-Switch.switch.code.items
    (placed c.args.set.now.topo c.args.p.0 proc.Switch fits.0) kept
    (ap (λ code. code.items) c.reset_switch.ensures.code) c.reset_switch.ensures.state

pub returns-in-Source : goal.returns-in-Source
returns-in-Source c =
    let fits = subst (λ (x : Processor). IsFit c.args.set.now c.args.p.0 (local_of x)) c.in-Source.is c.requires.fits in
    source_first c.args.set.now c.requires.valid c.args.p.0 c.reset_port.new.port
    (placed c.args.set.now.topo c.args.p.0 proc.Source fits.0) (ap (λ (port : Port). port.local) c.reset_port.ensures)

pub returns-in-Sink : goal.returns-in-Sink
returns-in-Sink c =
    let fits = subst (λ (x : Processor). IsFit c.args.set.now c.args.p.0 (local_of x)) c.in-Sink.is c.requires.fits in
    let kept = subst (λ (x : Processor). IsKept c.args.set.now c.args.p.0 x) c.in-Sink.is c.requires.kept in
    sink_again c.args.set.now c.requires.valid c.args.p.0 c.reset_port-in-Sink.new.port
    (placed c.args.set.now.topo c.args.p.0 proc.Sink fits.0) (ap (λ (port : Port). port.local) c.reset_port-in-Sink.ensures)
    (subst (λ (port : Port). capacity_of (port_program c.args.set.now c.args.p.0) ≤ port.room) (sym c.reset_port-in-Sink.ensures) kept)
