-- What a run with terms says of the time of a set.
use Rattle.std.specs.Prelude.{◌≡◌, ℕ, List}
use Rattle.raw_model.specs.Program.{ProgramSet}
use Rattle.raw_clock.specs.Clock.{HasCycles}
use Rattle.raw_model.specs.Fed.{fed}
use Rattle.raw_term.specs.Claims.{AreWords}
use Rattle.raw_term.specs.Control.{TermsRest}
use Rattle.raw_prove.specs.declared.running.End.TheVariants as run
use Rattle.raw_prove.specs.Runs.{Breaks}
use Rattle.raw_steady.specs.Steady.{SameClock, KeepsCycles}
use Rattle.raw_steadiness.specs.declared.steadying.Steadiness.{Steadiness}
use Rattle.raw_steadiness.specs.declared.steadying.Steadiness.TheVariants.{Steady, Hangs, TooMany}

-- The clock of the set is the same with all words in its sources, as many as they have: it takes the same turns, and each processor has the
-- same turn in each cycle and waits for the same wire. The set has n cycles with each.
pub record IsSteady (set : ProgramSet) (n : ℕ) : Type 0 where
  pub same : (one other : List ℕ) → AreWords set one → AreWords set other → SameClock (fed set one) (fed set other)
  pub own : HasCycles set n
  pub each : KeepsCycles set n

-- a set is steady where its run with terms comes to rest; else this says at which step that run hangs on an input, or that it needs too
-- many terms
abbrev pub IsSteadiness : ProgramSet → Steadiness → Type 0
IsSteadiness set (Steady n) = ((sweeps : ℕ) × TermsRest set sweeps) × IsSteady set n
IsSteadiness set (Hangs step p) = Breaks set (run.Hangs step p)
IsSteadiness set TooMany = Breaks set run.TooMany
