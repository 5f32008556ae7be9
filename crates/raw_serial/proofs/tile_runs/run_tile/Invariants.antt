use Rattle.std.proofs.Common.{◌≡◌, ◌-◌, ◌≤◌, Some}
use Rattle.raw_model.specs.Local.{Tile}
use Rattle.raw_processor.specs.declared.processor.Processor.TheVariants as a
use Rattle.raw_serial.specs.Within.{register_in, RunsWithin}
use Rattle.raw_serial.proofs.tile_runs.run_tile.Given as goal

abbrev pub invariant-steps : goal.invariant-steps
invariant-steps l = record {
  run : RunsWithin l.set l.p.0 (a.Tile l.initial.tile) (a.Tile l.tile) l.initial.wires l.wires l.register l.steps;
  same : register_in l.register (Some (Tile l.tile.state)) ≡ register_in l.register (Some (Tile l.initial.tile.state));
  few : l.steps ≤ l.most;
}

abbrev pub decreases-steps : goal.decreases-steps
decreases-steps l = l.most - l.steps
