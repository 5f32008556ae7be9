use Rattle.std.proofs.Common.{Err, ap}
use Rattle.raw_term.specs.declared.refusal.TermRefusal.{TermRefusal}
use Rattle.raw_prove.proofs.Judging.{reached_first, ends_over, result_as}
use Rattle.raw_prove.proofs.unclaimed.run_terms.Goals as goal

pub returns-in-Err-TooMany : goal.returns-in-Err-TooMany
returns-in-Err-TooMany c =
    ends_over c.args.set.now (c.in-Err-TooMany.ensures.too_many (ap (λ (refusal : TermRefusal). Err refusal) c.in-Err-TooMany.field-0-is))

pub run-requires-clause-reached : goal.run-requires-clause-reached
run-requires-clause-reached c = reached_first c.args.set.now c.in-Ok.machine c.in-Ok.ensures.opened.start c.in-Ok.ensures.opened.within

pub returns : goal.returns
returns c = result_as c.args.set.now c.run.new.self c.run.result c.run.ensures
