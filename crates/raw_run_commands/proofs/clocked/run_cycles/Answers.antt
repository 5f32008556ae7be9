use Rattle.std.proofs.Common.{◌≡◌, sym, ap, subst, ◌∙◌}
use Rattle.std.specs.Prelude.{is_some, IfSome}
use Rattle.raw_io.specs.Writing.{Writes}
use Rattle.raw_model.specs.Program.{IsSet}
use Rattle.raw_model.specs.Rest.{IsRun, end}
use Rattle.raw_model.specs.Waits.{waits_for}
use Rattle.raw_model.specs.Outcomes.{outcome, ending_of}
use Rattle.raw_clock.specs.Clock.{HasCycles, clock, clock_steps, machine_at}
use Rattle.raw_clock.specs.Laws.{NoneIsSooner}
use Rattle.raw_lost.specs.Known.{AreLost}
use Rattle.raw_shell.specs.declared.ending.CommandEnding.TheVariants.{Rested}
use Rattle.raw_inputs.specs.Inputs.{whole}
use Rattle.raw_owed.specs.Owed.{counted_text}
use Rattle.raw_shell.specs.Seen.{sink_seen}
use Rattle.raw_command_line.specs.declared.arguments.ReadingCommand.TheVariants.{Cycles}
use Rattle.raw_command_line.specs.declared.arguments.Command.TheVariants.{Reads}
use Rattle.raw_run_commands.proofs.clocked.run_cycles.Goals as goal

pub lost_in-requires : goal.lost_in-requires
lost_in-requires g c =
    subst (λ s. HasCycles s c.in-Ok-run_by_clock.cycles.cycles) (c.in-Ok-run_by_clock.ensures.set ∙ c.in-Ok.ensures.set) c.in-Ok-run_by_clock.ensures.counted.cycles

pub put_counts-requires-clause-lost : goal.put_counts-requires-clause-lost
put_counts-requires-clause-lost g c =
    subst (λ s. IfSome c.in-Ok-lost_in.lost (λ all. AreLost s c.in-Ok-run_by_clock.cycles.cycles all.items)) (sym (c.in-Ok-run_by_clock.ensures.set ∙ c.in-Ok.ensures.set)) c.in-Ok-lost_in.ensures.lost

pub returns : goal.returns
returns g c = λ input meaning.
    let set = c.args.set.now in
    let out = sink_seen g.K.Sink.sight c.args.out.now c.put_counts.new.out in
    let n = c.in-Ok-run_by_clock.cycles.cycles in
    let ran = c.in-Ok-run_by_clock.ensures in
    let same : c.run.new.machine.set ≡ set = ran.set ∙ c.in-Ok.ensures.set in
    let m = c.run.new.machine in
    let valid : IsSet set = (c.law_one_input.ensures (whole c.args.options.form) input).lawful set meaning in
    let there : m.state ≡ end set (clock_steps set n) = ran.counted.state ∙ ap (λ s. machine_at (clock s n)) same ∙ sym (c.law_clock.ensures.at set n valid).there in
    let rest : c.ending.result ≡ ending_of (outcome set (end set (clock_steps set n))) =
    c.ending.ensures (waits_for m.set m.state) ∙ ap ending_of c.outcome-outcome.ensures ∙ ap (λ s. ending_of (outcome s m.state)) same ∙ ap (λ s. ending_of (outcome set s)) there in
    let told : is_some c.in-Ok-lost_in.lost ≡ c.args.options.lost = c.in-Ok-lost_in.ensures.told in
    c.ended.ensures (Reads (Cycles c.args.options)) input (counted_text (is_some c.in-Ok-lost_in.lost) set n) out
    (subst (λ s. Writes out.old out.new (counted_text (is_some c.in-Ok-lost_in.lost) s n) c.put_counts.result) same c.put_counts.ensures)
    (record {
      set = set;
      meaning = meaning;
      cycles = n;
      counted = subst (λ s. HasCycles s n) same ran.counted.cycles;
      run = subst (λ s. IsRun s (clock_steps s n)) same ran.steps;
      soonest = subst (λ s. NoneIsSooner s n) same ran.none_sooner;
      lost = λ p below. c.law_lost.ensures set n p valid below;
      written = ap (λ b. counted_text b set n) told;
      ended = ap Rested rest;
    })
