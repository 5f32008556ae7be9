use Rattle.std.proofs.Common.{Err, ap, subst}
use Rattle.raw_term.specs.declared.refusal.TermRefusal.{TermRefusal}
use Rattle.raw_prove.specs.declared.running.End.{End}
use Rattle.raw_prove.specs.Runs.{IsEnd}
use Rattle.raw_prove.proofs.Judging.{no_run, by_run, hangs_so, start_over, result_so, reached_first}
use Rattle.raw_prove.proofs.proving.judge.Goals as goal

pub returns-then-inputs-words : goal.returns-then-inputs-words
returns-then-inputs-words c =
    no_run c.args.set.now c.args.claim.now c.args.places.now c.input_count-inputs.result c.word_count-words.result c.input_count-inputs.ensures c.word_count-words.ensures.value c.if-inputs-words.true

pub returns-in-Err-TooMany : goal.returns-in-Err-TooMany
returns-in-Err-TooMany c =
    by_run c.args.set.now c.args.claim.now c.args.places.now c.input_count-inputs.result c.word_count-words.result _ c.input_count-inputs.ensures c.word_count-words.ensures.value c.if-inputs-words.false
    (start_over c.args.set.now c.args.claim.now c.args.places.now (c.in-Err-TooMany.ensures.too_many (ap (λ (refusal : TermRefusal). Err refusal) c.in-Err-TooMany.field-0-is)))

pub run-requires-clause-reached : goal.run-requires-clause-reached
run-requires-clause-reached c = reached_first c.args.set.now c.in-Ok.machine c.in-Ok.ensures.opened.start c.in-Ok.ensures.opened.within

pub returns-in_ok-difference-in-Rests : goal.returns-in_ok-difference-in-Rests
returns-in_ok-difference-in-Rests c =
    result_so c.args.set.now c.args.claim.now c.args.places.now c.run.new.self c.input_count-inputs.result c.word_count-words.result c.in_ok-verdict-in-Rests.verdict
    c.input_count-inputs.ensures c.word_count-words.ensures.value c.if-inputs-words.false (subst (λ (end : End). IsEnd c.args.set.now c.run.new.self end) c.in-Rests.is c.in_ok-run.ensures) c.in_ok-verdict-in-Rests.ensures

pub returns-in-Hangs : goal.returns-in-Hangs
returns-in-Hangs c =
    by_run c.args.set.now c.args.claim.now c.args.places.now c.input_count-inputs.result c.word_count-words.result _ c.input_count-inputs.ensures c.word_count-words.ensures.value c.if-inputs-words.false
    (hangs_so c.args.set.now c.args.claim.now c.args.places.now c.in-Hangs.step c.in-Hangs.p (subst (λ (end : End). IsEnd c.args.set.now c.run.new.self end) c.in-Hangs.is c.in_ok-run.ensures))
