use Rattle.std.proofs.Common.{subst}
use Rattle.raw_model.specs.Program.{IsSet}
use Rattle.raw_serial.proofs.Reached.{made_whole}
use Rattle.raw_serial.proofs.machine.Machine.from_parts.Goals as goal

pub invariant_of-result : goal.invariant_of-result
invariant_of-result c = made_whole c.args.set.now (subst IsSet c.set.view_is c.set.invariant) c.args.parts c.requires
