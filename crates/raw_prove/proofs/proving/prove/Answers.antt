use Rattle.std.proofs.Common.{subst}
use Rattle.raw_model.specs.Program.{IsSet}
use Rattle.raw_flow.specs.Flows.{IsFlow}
use Rattle.raw_prove.proofs.Judging.{met_so}
use Rattle.raw_prove.proofs.proving.prove.Goals as goal

pub returns-clause-meets : goal.returns-clause-meets
returns-clause-meets c =
    met_so c.args.set.now c.args.claim.now c.args.places.now c.judge.result c.law_proved.ensures (subst IsSet c.set.view_is c.set.invariant) (subst IsFlow c.claim.view_is c.claim.invariant) c.judge.ensures
