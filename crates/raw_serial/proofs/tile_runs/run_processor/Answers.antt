use Rattle.std.proofs.Common.{subst}
use Rattle.raw_grid.specs.declared.parts.ProcKind.TheVariants as proc
use Rattle.raw_model.specs.Start.{IsFit}
use Rattle.raw_processor.specs.Processor.{local_of}
use Rattle.raw_serial.proofs.Placed.{placed}
use Rattle.raw_serial.proofs.Seating.{fit_here}
use Rattle.raw_serial.proofs.Alone.{runs_nowhere}
use Rattle.raw_serial.proofs.tile_runs.run_processor.Goals as goal

pub run_tile-requires-clause-there : goal.run_tile-requires-clause-there
run_tile-requires-clause-there c =
    let set = c.args.set.now in
    let p = c.args.p.0 in
    let of = c.requires.of in
    placed set.topo p proc.Tile
    (subst (λ x. IsFit set p (local_of x)) c.in-Tile.is (fit_here set of.ends of.processors c.args.wires.now of.parts p c.args.processor.now of.here)).0

pub returns-in_default-clause-run : goal.returns-in_default-clause-run
returns-in_default-clause-run c = runs_nowhere c.args.set.now c.args.p.0 c.args.register c.args.processor.now c.args.wires.now
