-- A machine that is stepped by the clock, and what is known of a run that is opened.
use Rattle.std.specs.Prelude.{◌≡◌, ℕ, ◌<◌, ◌^◌, Bool, true, false, Option, Some, List, [], ◌∷◌, IfSome, slice_get, slice_index, if◌then◌else◌}
use Rattle.raw_network.specs.Network.{event_of}
use Rattle.raw_grid.specs.Topology.{proc_count}
use Rattle.raw_model.specs.Program.{ProgramSet, IsSet}
use Rattle.raw_model.specs.Machine.{machine_of}
use Rattle.raw_model.specs.StateTexts.{mark_of}
use Rattle.raw_model.specs.Waits.{waits_for}
use Rattle.raw_model.specs.Outcomes.{outcome}
use Rattle.raw_model.specs.Parts.{count_in}
use Rattle.raw_serial.specs.declared.turn.Turn.{Turn}
use Rattle.raw_serial.specs.declared.turn.Turn.TheVariants.{Fired, Stalled, Stopped, Waits}
use Rattle.raw_serial.specs.Running.{Running, IsTurnOf, turn_of}
use Rattle.raw_outcome.specs.declared.ends.Outcome.{Outcome}
use Rattle.raw_outcome.specs.Told.{told}
use Rattle.raw_clock.specs.declared.running.Cycles.{Cycles}
use Rattle.raw_clock.specs.Clock.{clock, clock_turns, machine_at, HasCycles, program_steps}
use Rattle.raw_clock.specs.Tally.{IsTally}
use Rattle.raw_clock.specs.Values.{HaveSent}
use Rattle.raw_processor.specs.declared.processor.Processor.{Processor}
use Rattle.raw_processor.specs.declared.processor.Processor.TheVariants as a
use Rattle.raw_serial.specs.Fresh.{IsFresh}
use Rattle.raw_serial.specs.Told.{missed_at}
use Rattle.raw_clock.specs.Engine.{HasTaken}
use Rattle.raw_whole.specs.declared.gathering.Whole.{Whole}
use Rattle.raw_whole.specs.Kept.{IsWhole}
use Rattle.raw_trace.specs.Parts.{pc_of}
use Rattle.raw_trace.specs.Firing.{step_entries}
use Rattle.raw_trace.specs.Lines.{Line, Fires, Stalls, Waiting, Stopping, is_told, turn_before}

-- the machine stands where the clock of its set is after k cycles
abbrev pub IsAt : Running → ℕ → Type 0
IsAt m k = HasTaken m.set m (clock_turns m.set k)

-- a processor was given its turn, where that goes on, and else nothing was done
abbrev pub Took : Bool → Running → Running → ℕ → Type 0
Took true old new p = (turn : Turn) × IsTurnOf old new p turn
Took false old new p = new ≡ old

-- a turn is the same later, unless it waits
abbrev pub IsTurnStill : Turn → Turn → Type 0
IsTurnStill Fired later = later ≡ Fired
IsTurnStill Stalled later = later ≡ Stalled
IsTurnStill Stopped later = later ≡ Stopped
IsTurnStill (Waits wire) later = Unit {0}

-- the machine is one in which processor p has this turn, unless it waits
abbrev pub HasTurn : Running → ℕ → Turn → Type 0
HasTurn m p turn = IsTurnStill turn (turn_of m p)

-- the line of a turn, by the machine before it and the one behind it
abbrev pub line_by : Running → Running → ℕ → Turn → Line
line_by old new p Fired =
    Fires p (pc_of (event_of (machine_of old.set) old.state p).after)
    (step_entries old.set old.state p (missed_at old.set p (slice_index old.missed p) (slice_index new.missed p)))
line_by old new p Stalled = Stalls p
line_by old new p Stopped = Stopping p (mark_of old.set old.state p)
line_by old new p (Waits wire) = Waiting p wire.0

abbrev pub lines_by : Running → Running → ℕ → Turn → Option Turn → List Line
lines_by old new p turn before = if is_told turn before then line_by old new p turn ∷ [] else []

-- these are the turns in the cycle before k of a trace that begins with cycle `first`
abbrev pub AreTurnsBefore : ProgramSet → ℕ → ℕ → List (Option Turn) → Type 0
AreTurnsBefore set first k before = (p : ℕ) → p < proc_count set.topo → slice_get before p ≡ Some (turn_before set first k p)

-- both are tiles, or neither is
abbrev pub IsAlike : Processor → Processor → Type 0
IsAlike (a.Tile given) (a.Tile tile) = Unit {0}
IsAlike (a.Tile given) other = ⊥
IsAlike given (a.Tile tile) = ⊥
IsAlike given other = Unit {0}

-- the processor has taken steps
abbrev pub SomeSteps : Running → ℕ → Type 0
SomeSteps m p = 0 < count_in (slice_get m.state.locals p)

-- What is known of a run of a set that is opened: a machine came to rest, and a second one has done nothing yet.
-- The set has so many cycles, of which these are the counts, and comes to rest as the outcome says. These are the
-- turns and the sends of the whole run, where they are told.
pub record IsOpened (set : ProgramSet) (machine other : Running) (answer : Outcome) (ran : Cycles) (whole : Option Whole) : Type 0 where
  pub valid : IsSet set
  pub machine_set : machine.set ≡ set
  pub machine_rests : machine.state ≡ machine_at (clock set ran.cycles)
  pub other_fresh : IsFresh set other
  pub cycles : HasCycles set ran.cycles
  pub few : ran.cycles < 2 ^ 41
  pub steps : ran.steps ≡ program_steps set ran.cycles
  pub tally : IsTally set ran.cycles ran.tally
  pub passed : HaveSent set (clock_turns set ran.cycles) ran.passed.items
  pub rest : told (waits_for set (machine_at (clock set ran.cycles))) answer ≡ outcome set (machine_at (clock set ran.cycles))
  pub kept : IfSome whole (IsWhole set ran.cycles)
