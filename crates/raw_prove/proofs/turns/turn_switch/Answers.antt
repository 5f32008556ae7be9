use Rattle.std.proofs.Common.{sym, ap, ◌∙◌}
use Rattle.raw_model.specs.Program.{ProgramSet}
use Rattle.raw_model.specs.Local.{Switch}
use Rattle.raw_model.specs.Machine.{is_stopped}
use Rattle.raw_prove.proofs.Ready.{ready_stopped}
use Rattle.raw_prove.proofs.Turning.{switch_idle}
use Rattle.raw_prove.proofs.turns.turn_switch.Goals as goal

pub returns-then-switch_stopped-clause-turn : goal.returns-then-switch_stopped-clause-turn
returns-then-switch_stopped-clause-turn c =
    let l = c.args.unit.now.state in
    switch_idle c.args.set.now c.args.p.0 l c.args.table.now c.args.wires.now
    (ready_stopped c.args.set.now c.args.p.0 (Switch l) c.args.wires.now
    (sym (ap (λ (g : ProgramSet). is_stopped g c.args.p.0 (Switch l)) c.set.view_is) ∙ sym c.switch_stopped.ensures ∙ c.if-switch_stopped.true))
