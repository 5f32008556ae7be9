use Rattle.std.proofs.Common.{◌≡◌, true, sym, ap, ◌∙◌}
use Rattle.raw_model.specs.TileTable.{next_instruction}
use Rattle.raw_model.specs.Machine.{tile_takes, tile_sends}
use Rattle.raw_tile.specs.Step.{is_within}
use Rattle.raw_serial.proofs.Alone.{takes_none, sends_none}
use Rattle.raw_serial.proofs.tile_runs.step_within.Goals as goal

pub returns-in-Fired-clause-within : goal.returns-in-Fired-clause-within
returns-in-Fired-clause-within c = λ e.
    let set = c.args.set.now in
    let p = c.args.p.0 in
    let own = c.deref-code.ensures.value ∙ c.requires.code in
    let next = ap (λ code. next_instruction code c.args.tile.now.state) (sym own) ∙ c.tile_step-step.ensures in
    let none : is_within c.tile_step-step.result.now ≡ true = sym c.is_within.ensures ∙ c.if-not-is_within.false in
    record {
      takes = ap (tile_takes set.topo p) next ∙ takes_none set.topo p c.args.ends.now c.requires.on.ends_are c.tile_step-step.result.now none;
      sends = ap (tile_sends set.topo p) next ∙ sends_none set.topo p c.args.ends.now c.requires.on.ends_are c.tile_step-step.result.now none;
    }
