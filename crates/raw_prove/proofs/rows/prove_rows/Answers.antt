use Rattle.std.proofs.Common.{subst}
use Rattle.raw_model.specs.Program.{IsSet}
use Rattle.raw_prove.proofs.RowJudging.{met_so}
use Rattle.raw_prove.proofs.rows.prove_rows.Goals as goal

pub returns-clause-meets : goal.returns-clause-meets
returns-clause-meets c =
    met_so c.args.set.now c.args.stream.now c.args.order.now c.judge.result c.law_rows_proved.ensures (subst IsSet c.set.view_is c.set.invariant) c.requires.claim.rows c.requires.claim.ports c.requires.claim.sinks
    c.judge.ensures
