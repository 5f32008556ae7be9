use Rattle.std.proofs.Common.{refl, sym, ◌∙◌, arith}
use Rattle.raw_processor.specs.declared.processor.Processor.TheVariants as a
use Rattle.raw_serial.proofs.Seating.{fit_here}
use Rattle.raw_serial.proofs.Alone.{runs_nowhere, within_of, runs_further}
use Rattle.raw_serial.proofs.tile_runs.run_tile.Goals as goal

pub steps-init : goal.steps-init
steps-init c = record {
  run = runs_nowhere c.args.set.now c.args.p.0 c.args.register (a.Tile c.args.tile.now) c.args.wires.now;
  same = refl;
  few = omega arith;
}

pub step_within-requires : goal.step_within-requires
step_within-requires c =
    let now = within_of c.args.set.now c.args.p.0 c.args.register (a.Tile c.args.tile.now) (a.Tile c.steps.tile) c.args.wires.now c.steps.wires c.steps.steps c.requires.of c.steps.invariant.run in
    record {
      on = record { valid = now.parts.valid; ends_are = c.requires.ends; each = now.parts.fits.wires };
      there = c.requires.there;
      code = now.parts.kept c.args.p.0 (a.Tile c.steps.tile) now.here;
      few = now.parts.few c.args.p.0 (a.Tile c.steps.tile) now.here;
      fits = (fit_here c.args.set.now now.ends now.processors c.steps.wires now.parts c.args.p.0 (a.Tile c.steps.tile) now.here).1;
    }

pub returns-then-held_by-held-clause-run : goal.returns-then-held_by-held-clause-run
returns-then-held_by-held-clause-run c =
    runs_further c.args.set.now c.args.p.0 c.args.register c.args.tile.now c.steps.tile c.step_within.new.tile c.args.wires.now c.steps.wires c.step_within.new.wires c.steps.steps
    c.requires.there c.steps.invariant.run (c.step_within.ensures.fired c.if-not-step_within.false) (c.step_within.ensures.within c.if-not-step_within.false) c.steps.invariant.same

pub steps-preserved : goal.steps-preserved
steps-preserved c = record {
  run = runs_further c.args.set.now c.args.p.0 c.args.register c.args.tile.now c.steps.tile c.step_within.new.tile c.args.wires.now c.steps.wires c.step_within.new.wires c.steps.steps
      c.requires.there c.steps.invariant.run (c.step_within.ensures.fired c.if-not-step_within.false) (c.step_within.ensures.within c.if-not-step_within.false) c.steps.invariant.same;
  same = sym c.held_by.ensures ∙ c.if-held_by-held.false ∙ c.held_by-held.ensures;
  few = omega (arith, c.steps-test.true);
}
