use Rattle.std.proofs.Common.{◌≡◌, ◌++◌, refl, sym, ap, subst, ◌∙◌}
use Rattle.std.specs.Prelude.{is_some}
use Rattle.std.specs.Option.{unwrap_or}
use Rattle.raw_io.specs.Writing.{Writes}
use Rattle.raw_model.specs.Rest.{IsRun, end}
use Rattle.raw_model.specs.Outcomes.{outcome, ending_of}
use Rattle.raw_model.specs.Waits.{waits_for}
use Rattle.raw_clock.specs.Clock.{clock, clock_steps, machine_at}
use Rattle.raw_trace.specs.Whole.{has_whole}
use Rattle.raw_owed.specs.declared.limits.TheConstants.{DEFAULT_TRACE_CYCLES}
use Rattle.raw_shell.specs.declared.ending.CommandEnding.TheVariants.{Rested}
use Rattle.raw_set_text.specs.Listing.{listing}
use Rattle.raw_owed.specs.Owed.{sources_in}
use Rattle.raw_owed.specs.Owed.{written_as, traced}
use Rattle.raw_shell.specs.Seen.{sink_seen}
use Rattle.raw_command_line.specs.declared.arguments.ReadingCommand.TheVariants.{Trace}
use Rattle.raw_command_line.specs.declared.arguments.Command.TheVariants.{Reads}
use Rattle.raw_run_commands.proofs.clocked.trace_set.Goals as goal

pub returns : goal.returns
returns g c = λ input meaning told.
    let set = c.args.set.now in
    let options = c.args.options in
    let opened = c.in-Ok.opened in
    let is = c.in-Ok.ensures.opened in
    let n = opened.ran.cycles in
    let out = sink_seen g.K.Sink.sight c.args.out.now c.put_trace.new.out in
    let run : IsRun set (clock_steps set n) = c.law_clock.ensures.rests set n is.valid is.cycles in
    let there : machine_at (clock set n) ≡ end set (clock_steps set n) = sym (c.law_clock.ensures.at set n is.valid).there in
    let rest : c.ending.result ≡ ending_of (outcome set (end set (clock_steps set n))) =
    c.ending.ensures (waits_for set (machine_at (clock set n))) ∙ ap ending_of is.rest ∙ ap (λ s. ending_of (outcome set s)) there in
    let from : c.from-from.result ≡ unwrap_or options.from 0 = c.from-from.ensures ∙ c.unwrap_or.ensures in
    let most : c.from-most.result ≡ unwrap_or options.cycles DEFAULT_TRACE_CYCLES = c.from-most.ensures ∙ c.unwrap_or-2.ensures in
    let has = is_some opened.whole in
    let sources = sources_in options.form input set in
    let front : opened.text.items ≡ listing set ++ sources = c.in-Ok.ensures.text ∙ ap (λ s. listing set ++ s) (sym told) in
    let first = c.from-from.result in
    let count = c.from-most.result in
    let text : written_as options.output opened.text.items opened.machine.set has n first count ≡ traced options sources set n =
    ap (λ f. written_as options.output f opened.machine.set has n first count) front
    ∙ ap (λ s. written_as options.output (listing set ++ sources) s has n first count) is.machine_set
    ∙ ap (λ b. written_as options.output (listing set ++ sources) set b n first count) c.in-Ok.ensures.whole
    ∙ ap (λ f. written_as options.output (listing set ++ sources) set (has_whole options.whole set n) n f count) from
    ∙ ap (λ m. written_as options.output (listing set ++ sources) set (has_whole options.whole set n) n (unwrap_or options.from 0) m) most in
    c.ended.ensures (Reads (Trace options)) input (traced options sources set n) out
    (subst (λ t. Writes out.old out.new t c.put_trace.result) text c.put_trace.ensures)
    (record { set = set; meaning = meaning; cycles = n; counted = is.cycles; run = run; written = refl; ended = ap Rested rest })
