use Rattle.std.proofs.Common.{◌≡◌, ◌<◌, ap, sym, subst, ◌∙◌, length}
use Rattle.std.specs.List.{All}
use Rattle.raw_network.specs.Network.{Sent, event_of}
use Rattle.raw_grid.specs.Wires.{wires_of}
use Rattle.raw_model.specs.Machine.{machine_of}
use Rattle.raw_serial.specs.Told.{Told}
use Rattle.raw_clock.specs.Values.{AreCounted}
use Rattle.raw_clock.proofs.Sending.{event_there, unfired_sends}
use Rattle.raw_clock.proofs.cycle.give.Goals as goal
use Rattle.raw_clock.proofs.cycle.give.Goals.{In-Fired}

-- what the event has is what the step sent
sent : (c : In-Fired) → c.try_step_telling.new.teller.sent.items ≡ (event_of (machine_of c.args.machine.now.set) c.args.machine.now.state c.args.p.0).sent
sent c = ap (λ (t : Told). t.sent) (c.try_step_telling.ensures.told c.in-Fired.is)

pub count_sent-requires-clause-there : goal.count_sent-requires-clause-there
count_sent-requires-clause-there c =
    let m = c.args.machine.now in
    subst (λ n. All (λ (v : Sent). v.wire < n) c.deref.result.now) (sym c.requires.passed.each)
    (subst (All (λ (v : Sent). v.wire < length (wires_of m.set.topo))) (sym (c.deref.ensures.0 ∙ sent (goal.at.count_sent-requires-clause-there c).In-Fired))
    (event_there m.set m.state c.args.p.0))

pub returns-in-Fired-clause-sent : goal.returns-in-Fired-clause-sent
returns-in-Fired-clause-sent c =
    subst (λ sent. AreCounted sent c.args.passed.now c.count_sent.new.passed)
    (c.deref.ensures.0 ∙ sent (goal.at.returns-in-Fired-clause-sent c).In-Fired) c.count_sent.ensures.counted

pub returns-in_default-clause-sent : goal.returns-in_default-clause-sent
returns-in_default-clause-sent c = unfired_sends c.try_step_telling.result c.args.machine.now c.args.p.0 c.args.passed.now c.in_default.not-Fired
