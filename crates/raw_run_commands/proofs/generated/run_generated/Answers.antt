use Rattle.std.proofs.Common.{◌≡◌, ℕ, List, sym, ap, subst, ◌∙◌, []}
use Rattle.raw_io.specs.Writing.{Writes}
use Rattle.raw_model.specs.Program.{IsSet}
use Rattle.raw_model.specs.Start.{start}
use Rattle.raw_model.specs.Rest.{IsQuiet}
use Rattle.raw_model.specs.Outcomes.{outcome, ending_of}
use Rattle.raw_model.specs.StateTexts.{outcome_word}
use Rattle.raw_model.specs.Waits.{waits_for}
use Rattle.raw_serial.specs.Leading.{Leads}
use Rattle.raw_outcome.specs.Told.{told}
use Rattle.raw_generated.specs.Generated.{generated}
use Rattle.raw_generated.specs.Summary.{words_out, summary_line, summary_of}
use Rattle.raw_shell.specs.declared.ending.CommandEnding.TheVariants.{Rested}
use Rattle.raw_owed.specs.Owed.{IsWorkOutput}
use Rattle.raw_shell.specs.Seen.{sink_seen}
use Rattle.raw_command_line.specs.declared.arguments.AloneCommand.TheVariants.{Work}
use Rattle.raw_command_line.specs.declared.arguments.Command.TheVariants.{Alone}
use Rattle.raw_run_commands.proofs.Summing.{topo_is, line_is, work_output}
use Rattle.raw_run_commands.proofs.generated.run_generated.Goals as goal

pub words_out-requires : goal.words_out-requires
words_out-requires g c = topo_is c.work-machine.result.set c.args.n (c.work-machine.ensures.set ∙ c.in-Ok-open.ensures.set ∙ c.in-Ok.ensures)

pub returns : goal.returns
returns g c =
    let n = c.args.n in
    let gen = generated n in
    let m = c.work-machine.result in
    let valid : IsSet gen = subst (λ words. IsSet (generated words)) c.count.ensures.value (c.law_generated.ensures c.count.result c.count.ensures.some c.count.ensures.few) in
    let ends = λ (h : List ℕ) (k : List ℕ). c.law_same_rest.ensures.same_rest gen (start gen) h k valid in
    let some = c.law_bound.ensures.some_run gen in
    let fresh : c.in-Ok-open.fresh.set ≡ gen = c.in-Ok-open.ensures.set ∙ c.in-Ok.ensures in
    let same : m.set ≡ gen = c.work-machine.ensures.set ∙ fresh in
    let quiet : IsQuiet gen m.state = subst (λ x. IsQuiet x m.state) same c.work-machine.ensures.quiet in
    let leads : Leads gen (start gen) m.state =
    subst (λ s. Leads gen s m.state) (c.in-Ok-open.ensures.state ∙ ap start c.in-Ok.ensures)
    (subst (λ x. Leads x c.in-Ok-open.fresh.state m.state) fresh c.work-machine.ensures.led) in
    let how : told (waits_for m.set m.state) c.outcome-outcome.result ≡ outcome gen m.state =
    c.outcome-outcome.ensures ∙ ap (λ x. outcome x m.state) same in
    let word : c.word-word.result.now ≡ outcome_word (outcome gen m.state) =
    c.word-word.ensures.outcome (waits_for m.set m.state) ∙ ap outcome_word how in
    let text : c.as_bytes.result.now ≡ summary_of n m.state =
    c.as_bytes.ensures ∙ c.summary_line-line.ensures (outcome gen m.state) word
    ∙ ap (λ words. summary_line words (outcome gen m.state) c.words_out.result.now c.all_steps.result) c.count.ensures.value
    ∙ ap (λ words. summary_line n (outcome gen m.state) words c.all_steps.result) c.words_out.ensures
    ∙ ap (summary_line n (outcome gen m.state) (words_out m.state)) c.all_steps.ensures ∙ line_is n m.state in
    let rest : c.ending.result ≡ ending_of (outcome gen m.state) =
    c.ending.ensures (waits_for m.set m.state) ∙ ap ending_of how in
    let out = sink_seen g.K.Sink.sight c.args.out.now c.put_all.new.sink in
    let put = c.put_all.ensures in
    let writes : Writes out.old out.new c.as_bytes.result.now c.put_all.result = record { ok = put.ok; front = put.front; fault = put.fault; count = put.count } in
    c.ended.ensures (Alone (Work n c.args.workers)) [] (summary_of n m.state) out (subst (λ t. Writes out.old out.new t c.put_all.result) text writes)
    (subst (IsWorkOutput n (summary_of n m.state)) (ap Rested (sym rest)) (work_output n ends m.state some.0 quiet leads some.1))
