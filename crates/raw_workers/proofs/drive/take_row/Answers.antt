use Rattle.std.proofs.Common.{◌≡◌, sym, ap, ◌∙◌}
use Rattle.std.specs.Prelude.{vec_len}
use Rattle.raw_steps.specs.declared.log.PassLog.{PassLog}
use Rattle.raw_workers.proofs.drive.take_row.Goals as goal

pub returns : goal.returns
returns g c = record {
  pass = c.take_turns-turn.ensures.pass;
  swept = c.swept_by.ensures c.args.pass.now c.take_turns-turn.new.pass
      (ap (λ (l : PassLog). vec_len l.steps) (sym c.log.ensures) ∙ sym c.len-before.ensures)
      (ap (λ (l : PassLog). vec_len l.steps) (sym c.log-2.ensures) ∙ sym c.len-after.ensures)
      c.take_turns-turn.ensures.turns;
}
