use Rattle.std.proofs.Common.{◌≡◌, refl, sym, ap, subst, ◌∙◌}
use Rattle.raw_io.specs.Writing.{Writes}
use Rattle.raw_model.specs.Program.{IsSet}
use Rattle.raw_model.specs.Rest.{end}
use Rattle.raw_model.specs.Waits.{waits_for}
use Rattle.raw_model.specs.Outcomes.{outcome, ending_of}
use Rattle.raw_clock.specs.Clock.{HasCycles, clock, clock_steps, machine_at}
use Rattle.raw_path.specs.Text.{path_text}
use Rattle.raw_shell.specs.declared.ending.CommandEnding.TheVariants.{Rested}
use Rattle.raw_inputs.specs.Inputs.{whole}
use Rattle.raw_shell.specs.Seen.{sink_seen}
use Rattle.raw_command_line.specs.declared.arguments.ReadingCommand.TheVariants.{Path}
use Rattle.raw_command_line.specs.declared.arguments.Command.TheVariants.{Reads}
use Rattle.raw_run_commands.proofs.clocked.put_path.Goals as goal

pub returns : goal.returns
returns g c = λ input meaning.
    let set = c.args.set.now in
    let out = sink_seen g.K.Sink.sight c.args.out.now c.write_path.new.out in
    let n = c.in-Ok-run_path.path.cycles in
    let ran = c.in-Ok-run_path.ensures in
    let same : c.run_path.new.machine.set ≡ set = ran.set ∙ c.in-Ok.ensures.set in
    let m = c.run_path.new.machine in
    let valid : IsSet set = (c.law_one_input.ensures (whole c.args.form) input).lawful set meaning in
    let there : m.state ≡ end set (clock_steps set n) = ran.path.state ∙ ap (λ s. machine_at (clock s n)) same ∙ sym (c.law_clock.ensures.at set n valid).there in
    let rest : c.ending.result ≡ ending_of (outcome set (end set (clock_steps set n))) =
    c.ending.ensures (waits_for m.set m.state) ∙ ap ending_of c.outcome-outcome.ensures ∙ ap (λ s. ending_of (outcome s m.state)) same ∙ ap (λ s. ending_of (outcome set s)) there in
    let has : HasCycles set n = subst (λ s. HasCycles s n) same ran.path.cycles in
    c.ended.ensures (Reads (Path c.args.form)) input (path_text set n) out
    (subst (λ s. Writes out.old out.new (path_text s n) c.write_path.result) same c.write_path.ensures)
    (record {
      set = set;
      meaning = meaning;
      cycles = n;
      counted = has;
      path = λ k is. c.law_path.ensures set k valid (subst (λ j. HasCycles set j) (sym is) has);
      written = refl;
      ended = ap Rested rest;
    })
