use Rattle.std.proofs.Common.{◌≡◌, subst}
use Rattle.std.specs.Prelude.{IsSomeAnd}
use Rattle.raw_model.specs.Local.{steps_of}
use Rattle.raw_processor.specs.Processor.{local_of}
use Rattle.raw_depths.proofs.Counting.{count_next}
use Rattle.raw_depths.proofs.running.instructions.Goals as goal

pub executed-requires : goal.executed-requires
executed-requires c =
    subst (λ o. IsSomeAnd o (λ l. c.count.result ≡ steps_of l)) c.processor.ensures.local c.count.ensures.value

pub returns-clause-next : goal.returns-clause-next
returns-clause-next c =
    count_next c.args.m.now.state.locals c.args.p.0 c.executed.result (local_of c.processor.result.now) c.processor.ensures.local c.executed.ensures.value
