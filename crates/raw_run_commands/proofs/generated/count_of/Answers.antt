use Rattle.raw_run_commands.proofs.Summing.{count_next}
use Rattle.raw_run_commands.proofs.generated.count_of.Goals as goal

pub returns-clause-next : goal.returns-clause-next
returns-clause-next c = count_next c.args.m.now.state.locals c.args.p.0 c.count.result c.count.ensures.value
