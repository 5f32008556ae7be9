use Rattle.std.proofs.Common.{◌≡◌, ℕ, ◌+◌, List, Some, codes, take, drop, refl, sym, ap, ◌∙◌, subst}
use Rattle.raw_text.specs.Text.{text_lines}
use Rattle.raw_grid.specs.Topology.{proc_count}
use Rattle.raw_model.specs.Program.{ProgramSet}
use Rattle.raw_set_text.specs.Meaning.{IsMeaning}
use Rattle.raw_set_text.specs.Texts.{token_lines}
use Rattle.raw_report.specs.History.{entries_of, IsCause}
use Rattle.raw_steps.specs.Taking.{numbers}
use Rattle.raw_claim_text.specs.Marked.{mark_in}
use Rattle.raw_inputs.proofs.Entries.{entries_below, there_below}
use Rattle.raw_inputs.proofs.marked.steps_in.Goals as goal

pub returns-in-Ok-read_history-clause-says : goal.returns-in-Ok-read_history-clause-says
returns-in-Ok-read_history-clause-says c =
    let lines = token_lines c.args.input.items in
    let place : ℕ = c.in-Some.place in
    let set = c.in-Ok-read_set.set in
    let lines_are : text_lines c.in-Ok.text ≡ lines = c.in-Ok.ensures.lines in
    let procs_are : c.procs.result ≡ proc_count set.topo = c.procs.ensures.value ∙ ap (λ (x : ProgramSet). proc_count x.topo) c.set.view_is in
    let steps = numbers c.in-Ok-read_history.steps.items in (
      record {
        plain = c.in-Ok.ensures.faultless;
        place = place;
        mark = subst (λ l. mark_in (codes "history") l ≡ Some place) lines_are (sym c.find_word.ensures ∙ c.in-Some.is);
        meaning = subst (λ l. IsMeaning (take place l) set) lines_are c.in-Ok-read_set.ensures.meaning;
        steps = steps;
        entries = subst (λ (q : ℕ × List (List (List ℕ))). entries_of q.0 (drop (place + 1) q.1) ≡ Some steps) (λ i. (procs_are i, lines_are i)) c.in-Ok-read_history.ensures.entries;
      },
      refl,
    )

pub returns-in-Ok-read_history-clause-there : goal.returns-in-Ok-read_history-clause-there
returns-in-Ok-read_history-clause-there c =
    let place : ℕ = c.in-Some.place in
    let set = c.in-Ok-read_set.set in
    let lines = drop (place + 1) (text_lines c.in-Ok.text) in
    let procs_are : c.procs.result ≡ proc_count set.topo = c.procs.ensures.value ∙ ap (λ (x : ProgramSet). proc_count x.topo) c.set.view_is in
    let steps = numbers c.in-Ok-read_history.steps.items in
    there_below (proc_count set.topo) c.in-Ok-read_history.steps.items
    (entries_below (proc_count set.topo) lines steps (subst (λ n. entries_of n lines ≡ Some steps) procs_are c.in-Ok-read_history.ensures.entries))

pub returns-clause-cause : goal.returns-clause-cause
returns-clause-cause c =
    let lines = token_lines c.args.input.items in
    let place : ℕ = c.in-Some.place in
    let set = c.in-Ok-read_set.set in
    let lines_are : text_lines c.in-Ok.text ≡ lines = c.in-Ok.ensures.lines in
    let procs_are : c.procs.result ≡ proc_count set.topo = c.procs.ensures.value ∙ ap (λ (x : ProgramSet). proc_count x.topo) c.set.view_is in
    c.of_entries.ensures c.args.input.items place set c.in-Ok.ensures.faultless
    (subst (λ l. mark_in (codes "history") l ≡ Some place) lines_are (sym c.find_word.ensures ∙ c.in-Some.is))
    (subst (λ l. IsMeaning (take place l) set) lines_are c.in-Ok-read_set.ensures.meaning)
    (subst (λ (q : ℕ × List (List (List ℕ))). IsCause q.0 (place + 1) (drop (place + 1) q.1) c.in-Err-read_history.refusal) (λ i. (procs_are i, lines_are i)) c.in-Err-read_history.ensures.cause)
