use Rattle.std.proofs.Common.{subst}
use Rattle.raw_serial.specs.Leading.{Leads}
use Rattle.raw_serial.proofs.Leading.{leads_far}
use Rattle.raw_live.proofs.engine.run_to_rest.Goals as goal

pub returns-clause-led : goal.returns-clause-led
returns-clause-led g c =
    let m = c.args.machine in
    let alone = c.run_for.ensures in
    let there = c.run_for.new.self.state in
    leads_far m.set m.state there c.work.result.state alone.led (subst (λ set. Leads set there c.work.result.state) alone.set c.work.ensures.led)
