use Rattle.std.proofs.Common.{subst}
use Rattle.raw_model.specs.Program.{IsSet}
use Rattle.raw_serial.specs.Running.{Running, IsReached}
use Rattle.raw_serial.proofs.machine.Machine.set.Goals as goal

pub returns-clause-valid : goal.returns-clause-valid
returns-clause-valid c = subst (λ (m : Running). IsSet m.set) c.self.view_is c.self.invariant.valid

pub returns-clause-reached : goal.returns-clause-reached
returns-clause-reached c = subst IsReached c.self.view_is c.self.invariant.reached
