use Rattle.std.proofs.Common.{◌++◌, [], ◌∷◌, take, sym, ap, ◌∙◌, arith}
use Rattle.std.proofs.lemmas.List.{map-append, take_more, get_or-map, length-map}
use Rattle.raw_steps.specs.declared.log.PassLog.{PassLog}
use Rattle.raw_steps.specs.Taking.{numbers}
use Rattle.raw_steps.specs.Weaving.{steps_in}
use Rattle.raw_steps.specs.Left.{entries_of}
use Rattle.raw_steps.proofs.weaving.all_of.Goals as goal

pub loop-log-preserved : goal.loop-log-preserved
loop-log-preserved c =
    let logs = c.args.logs.now in
    let i = c.loop-log.log-index in
    let log = c.log-item.result in
    let at = get_or-map (λ (log : PassLog). numbers log.steps.items) logs i log [] c.loop-log-test.true ∙ ap (λ (log : PassLog). numbers log.steps.items) (sym c.log-item.is) in
    ap entries_of c.in_ok-push.ensures.items
    ∙ map-append (λ list. numbers list.now) c.loop-log.left.items (c.as_slice.result ∷ [])
    ∙ ap (λ xs. xs ++ numbers c.as_slice.result.now ∷ []) c.loop-log.invariant
    ∙ ap (λ x. take i (steps_in logs) ++ x ∷ []) (ap numbers c.as_slice.ensures.value ∙ sym at)
    ∙ sym (take_more (steps_in logs) i [] (omega (arith, length-map logs (λ (log : PassLog). numbers log.steps.items))))
