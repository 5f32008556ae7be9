use Rattle.raw_stream.proofs.Within.{unrolled_lawful}
use Rattle.raw_stream.proofs.Unrolled.{EachValue, unrolled_is_rows}
use Rattle.raw_stream.proofs.laws.law_unrolled.Goals as goal

pub returns-clause-lawful : goal.returns-clause-lawful
returns-clause-lawful c = λ s named. unrolled_lawful s named

pub returns-clause-rows : goal.returns-clause-rows
returns-clause-rows c = λ s words named.
    let each : EachValue = record { input = c.law_values.ensures.input; constant = c.law_values.ensures.constant; operation = c.law_values.ensures.operation } in
    unrolled_is_rows each s named words
