-- What is counted of all cycles, and where they lead.
use Rattle.std.proofs.Common.{◌≡◌, sym, ◌∙◌, subst}
use Rattle.raw_model.specs.Program.{ProgramSet, IsSet}
use Rattle.raw_model.specs.Rest.{IsRun, IsQuiet}
use Rattle.raw_serial.specs.Running.{Running}
use Rattle.raw_clock.specs.declared.running.Cycles.{Cycles}
use Rattle.raw_clock.specs.Clock.{machine_at, clock, clock_turns, clock_steps, HasCycles, program_steps}
use Rattle.raw_clock.specs.Laws.{NoneIsSooner}
use Rattle.raw_clock.specs.Tally.{IsTally}
use Rattle.raw_clock.specs.Values.{HaveSent}
use Rattle.raw_clock.specs.Counted.{IsCounted}
use Rattle.raw_clock.proofs.Clocking.{law_clock_at, law_rests, law_none_over_sooner}

pub counted_by : (g : ProgramSet) (m : Running) (ran : Cycles) → m.set ≡ g → HasCycles g ran.cycles → ran.steps ≡ program_steps g ran.cycles
    → IsTally g ran.cycles ran.tally → HaveSent g (clock_turns g ran.cycles) ran.passed.items → m.state ≡ machine_at (clock g ran.cycles) → IsCounted m ran
counted_by g m ran same cycles steps tally passed state =
    record {
      cycles = subst (λ h. HasCycles h ran.cycles) (sym same) cycles;
      steps = subst (λ h. ran.steps ≡ program_steps h ran.cycles) (sym same) steps;
      tally = subst (λ h. IsTally h ran.cycles ran.tally) (sym same) tally;
      passed = subst (λ h. HaveSent h (clock_turns h ran.cycles) ran.passed.items) (sym same) passed;
      state = subst (λ h. m.state ≡ machine_at (clock h ran.cycles)) (sym same) state;
    }

module _ (m : Running) (ran : Cycles) (valid : IsSet m.set) (is : IsCounted m ran) where
  pub counted_rests : IsRun m.set (clock_steps m.set ran.cycles)
  counted_rests = law_rests m.set valid ran.cycles is.cycles

  pub counted_quiet : IsQuiet m.set m.state
  counted_quiet = subst (λ s. IsQuiet m.set s) ((law_clock_at m.set valid ran.cycles).there ∙ sym is.state) counted_rests.quiet

  pub counted_none_sooner : NoneIsSooner m.set ran.cycles
  counted_none_sooner = law_none_over_sooner m.set valid ran.cycles is.cycles
