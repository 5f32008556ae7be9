-- What is counted of all cycles of a set.
use Rattle.std.specs.Prelude.{◌≡◌}
use Rattle.raw_serial.specs.Running.{Running}
use Rattle.raw_clock.specs.declared.running.Cycles.{Cycles}
use Rattle.raw_clock.specs.Clock.{machine_at, clock, clock_turns, HasCycles, program_steps}
use Rattle.raw_clock.specs.Tally.{IsTally}
use Rattle.raw_clock.specs.Values.{HaveSent}

-- a machine stands where its set's clock is over, and these are the counts of all cycles
pub record IsCounted (m : Running) (ran : Cycles) : Type 0 where
  pub cycles : HasCycles m.set ran.cycles
  pub steps : ran.steps ≡ program_steps m.set ran.cycles
  pub tally : IsTally m.set ran.cycles ran.tally
  pub passed : HaveSent m.set (clock_turns m.set ran.cycles) ran.passed.items
  pub state : m.state ≡ machine_at (clock m.set ran.cycles)
