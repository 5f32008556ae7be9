-- What a machine that is stepped by the clock has done.
use Rattle.std.specs.Prelude.{◌≡◌, ◌≢◌, ℕ, ◌+◌, ◌<◌, ◌≤◌, Bool, true, false, List, ◌++◌, slice_get, slice_index, Some}
use Rattle.raw_network.specs.Network.{event_of}
use Rattle.raw_network.specs.Runs.{IsLawful, end_of}
use Rattle.raw_grid.specs.Topology.{tile_count, proc_count}
use Rattle.raw_model.specs.Program.{ProgramSet}
use Rattle.raw_model.specs.Machine.{machine_of}
use Rattle.raw_serial.specs.Running.{Running, IsRunBy, IsTurnOf, turn_of}
use Rattle.raw_serial.specs.declared.turn.Turn.{Turn}
use Rattle.raw_serial.specs.declared.turn.Turn.TheVariants.{Fired, Stopped}
use Rattle.raw_lockstep.specs.Lockstep.{all_enabled}
use Rattle.raw_lockstep.specs.Stalls.{touched_by, paid_by}
use Rattle.raw_clock.specs.Values.{HaveSent, AreCounted}
use Rattle.raw_clock.specs.Clock.{cost_of, clocked, ClockState, first_clock, steps_of, goes}

-- the clock after these turns
abbrev pub clock_by : ProgramSet → List ℕ → ClockState
clock_by set turns = end_of (clocked set) (first_clock set) turns

-- a machine of a set has taken these turns: the steps among them led to its state, and each tile owes what its touches
-- cost and is not paid
pub record HasTaken (set : ProgramSet) (m : Running) (turns : List ℕ) : Type 0 where
  pub same : m.set ≡ set
  pub lawful : IsLawful (clocked set) (first_clock set) turns
  pub run : IsRunBy m (steps_of set (first_clock set) turns)
  pub owed : (t : ℕ) → t < tile_count set.topo →
      paid_by (clock_by set turns) t + slice_index m.owed t ≡ cost_of set t (touched_by (clock_by set turns) t)

-- no processor owes but tiles
abbrev pub OnlyTilesOwe : Running → Type 0
OnlyTilesOwe m = (p : ℕ) → tile_count m.set.topo ≤ p → p < proc_count m.set.topo → slice_index m.owed p ≡ 0

-- these are the turns of all processors
abbrev pub AreTurns : Running → List Turn → Type 0
AreTurns m turns = (p : ℕ) → p < proc_count m.set.topo → slice_get turns p ≡ Some (turn_of m p)

-- where a processor was noted as stopped, it is so
abbrev pub StaysStopped : Running → List Turn → ℕ → Type 0
StaysStopped m turns p = slice_get turns p ≡ Some Stopped → turn_of m p ≡ Stopped

-- the turns of all processors but p are those that they were
abbrev pub AreOthersAlike : ℕ → List Turn → List Turn → Type 0
AreOthersAlike p old new = (q : ℕ) → q ≢ p → slice_get new q ≡ slice_get old q

-- what a turn of processor p sends was counted
abbrev pub AreSent : Turn → Running → ℕ → List ℕ → List ℕ → Type 0
AreSent Fired m p before after = AreCounted (event_of (machine_of m.set) m.state p).sent before after
AreSent _ m p before after = after ≡ before

-- a processor was given its turn, and what it sent was counted, or nothing was done
abbrev pub Took : Bool → Running → Running → ℕ → List ℕ → List ℕ → Type 0
Took true old new p before after = (turn : Turn) × IsTurnOf old new p turn × AreSent turn old p before after
Took false old new p before after = (new ≡ old) × (after ≡ before)

-- From one machine to the other there was one cycle: whatever turns the first has taken, the other has taken these
-- and those of a cycle. Where the first numbers are how many values were sent on each wire, the second ones are so
-- after it.
abbrev pub IsCycle : Running → Running → List ℕ → List ℕ → Type 0
IsCycle old new before after =
    (turns : List ℕ) → HasTaken old.set old turns → HaveSent old.set turns before →
    HasTaken old.set new (turns ++ all_enabled (clocked old.set) (clock_by old.set turns))
    × HaveSent old.set (turns ++ all_enabled (clocked old.set) (clock_by old.set turns)) after

-- one of the first n processors goes on, or none
abbrev pub SomeGoes : Running → ℕ → Type 0
SomeGoes m n = (p : ℕ) × (p < n) × (goes (turn_of m p) ≡ true)

abbrev pub NoneGoes : Running → ℕ → Type 0
NoneGoes m n = (p : ℕ) → p < n → goes (turn_of m p) ≡ false
