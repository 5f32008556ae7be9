use Rattle.std.proofs.Common.{◌<◌, false, length, ap, sym, ◌∙◌, arith}
use Rattle.raw_grid.specs.Topology.{proc_count}
use Rattle.raw_serial.specs.Running.{Running}
use Rattle.raw_serial.proofs.Leading.{on_is, idle_is}
use Rattle.raw_serial.proofs.Seating.{never_stalls}
use Rattle.raw_serial.proofs.machine.Machine.is_enabled.Goals as goal

pub returns-in-Fired : goal.returns-in-Fired
returns-in-Fired c =
    let many = sym (ap (λ (m : Running). length m.state.locals) c.self.view_is) ∙ c.self.invariant.fits.processors ∙ ap (λ (m : Running). proc_count m.set.topo) c.self.view_is in
    let within : c.args.p.0 < length c.args.self.now.state.locals = omega (arith, many, c.requires) in
    sym (on_is c.args.self.now.set c.args.self.now.state c.args.p.0 within false (sym c.in-Fired.is ∙ c.ask.ensures))

pub returns-in_default : goal.returns-in_default
returns-in_default c =
    let many = sym (ap (λ (m : Running). length m.state.locals) c.self.view_is) ∙ c.self.invariant.fits.processors ∙ ap (λ (m : Running). proc_count m.set.topo) c.self.view_is in
    let within : c.args.p.0 < length c.args.self.now.state.locals = omega (arith, many, c.requires) in
    sym (idle_is c.args.self.now.set c.args.self.now.state c.args.p.0 within false c.ask.result c.ask.ensures c.in_default.not-Fired (λ e. never_stalls _ _ (sym e ∙ c.ask.ensures)))
