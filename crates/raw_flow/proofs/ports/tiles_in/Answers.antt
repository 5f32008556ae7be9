use Rattle.std.proofs.Common.{subst}
use Rattle.raw_flow.specs.Flows.{Dataflow, IsFlow}
use Rattle.raw_flow.proofs.ports.tiles_in.Goals as goal

pub returns-clause-valid : goal.returns-clause-valid
returns-clause-valid c = subst (λ (f : Dataflow). IsFlow f) c.flow.view_is c.flow.invariant
