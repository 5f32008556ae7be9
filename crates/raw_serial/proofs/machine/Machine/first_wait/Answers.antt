use Rattle.std.proofs.Common.{ap, sym}
use Rattle.std.specs.Prelude.{option_map}
use Rattle.raw_model.specs.Waits.{first_wait, other_end}
use Rattle.raw_model.proofs.Awaited.{none_where_stopped}
use Rattle.raw_serial.proofs.Unmet.{waits_is, waits_not}
use Rattle.raw_serial.proofs.Within.{wait_there}
use Rattle.raw_serial.proofs.machine.Machine.first_wait.Goals as goal

pub other_end-requires : goal.other_end-requires
other_end-requires c =
    wait_there c.args.self.now.set c.args.p.0 c.args.self.now.state c.in-Waits.wire.0 (waits_is _ _ c.in-Waits.wire.0 c.in-Waits.ensures)

pub returns-in-Waits-clause-wire_there : goal.returns-in-Waits-clause-wire_there
returns-in-Waits-clause-wire_there c =
    wait_there c.args.self.now.set c.args.p.0 c.args.self.now.state c.in-Waits.wire.0 (waits_is _ _ c.in-Waits.wire.0 c.in-Waits.ensures)

pub returns-in_default : goal.returns-in_default
returns-in_default c =
    let none = waits_not _ (first_wait c.args.self.now.set c.args.self.now.state c.args.p.0) c.ask.result c.ask.ensures (λ w e. c.in_default.not-Waits (record { 0 = w }) e)
    (none_where_stopped c.args.self.now.set c.args.self.now.state c.args.p.0) in
    record {
      wire = sym none;
      on = sym (ap (option_map (other_end c.args.self.now.set.topo c.args.p.0)) none);
      wire_there = tt;
      on_there = tt;
    }
