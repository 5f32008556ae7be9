-- Words of the laws of machines, which `src/laws.rt` claims.
use Rattle.std.specs.Prelude.{◌≡◌, ◌≢◌, ℕ, ◌≤◌, Some, List, ◌∷◌, length, slice_get, slice_set, IsTrue}
use Rattle.raw_network.specs.Network.{Event, values_on, event_of}
use Rattle.raw_network.specs.Runs.{events_of}
use Rattle.raw_network.specs.Laws.{received}
use Rattle.raw_model.specs.Program.{ProgramSet}
use Rattle.raw_model.specs.Local.{Local}
use Rattle.raw_model.specs.Machine.{machine_of}
use Rattle.raw_model.specs.Start.{MachineState}
use Rattle.raw_model.specs.Rest.{enabled, step, IsLawfulFrom, end_from, IsQuiet}
use Rattle.raw_model.specs.Serial.{IsJoined}

-- two different processors that are both enabled
pub record AreEnabled (set : ProgramSet) (s : MachineState) (p q : ℕ) : Type 0 where
  pub differ : p ≢ q
  pub first : IsTrue (enabled set s p)
  pub second : IsTrue (enabled set s q)

-- what the next step of processor p takes, sends and touches, and the local state that it leads to
abbrev pub next_event : ProgramSet → MachineState → ℕ → Event Local
next_event set s p = event_of (machine_of set) s p

-- the same of each step of processor p in a list of steps from a state, in order
abbrev pub events_at : ProgramSet → MachineState → List ℕ → ℕ → List (Event Local)
events_at set s steps p = events_of (machine_of set) s steps p

-- a lawful list of steps from a state that ends where no processor is enabled
pub record ComesToRest (set : ProgramSet) (s : MachineState) (steps : List ℕ) : Type 0 where
  pub lawful : IsLawfulFrom set s steps
  pub quiet : IsQuiet set (end_from set s steps)

-- the values that the steps took from wire w, in order
abbrev pub received_on : ProgramSet → MachineState → List ℕ → ℕ → List ℕ
received_on set s steps w = received (machine_of set) s steps w

-- no wire holds more values than the set says
abbrev pub IsWithinDepth : ProgramSet → MachineState → Type 0
IsWithinDepth set s = (w : ℕ) → length (values_on s.wires w) ≤ set.depth

-- a lawful list of steps from a state that is joined from these logs
pub record IsLawfulJoining (set : ProgramSet) (s : MachineState) (logs : List (List ℕ)) (steps : List ℕ) : Type 0 where
  pub lawful : IsLawfulFrom set s steps
  pub joined : IsJoined steps logs

-- log w begins with processor p, and `rest` is behind it
pub record BeginsWith (logs : List (List ℕ)) (w p : ℕ) (rest : List ℕ) : Type 0 where
  pub log : slice_get logs w ≡ Some (p ∷ rest)

-- what is left of a joined list once the first entry p of log w steps first: `others` is lawful from there, is
-- joined from the logs without that entry, and ends where the whole list does
pub record IsLeft (set : ProgramSet) (s : MachineState) (logs : List (List ℕ)) (w p : ℕ) (rest steps others : List ℕ) : Type 0 where
  pub joining : IsLawfulJoining set (step set s p) (slice_set logs w rest) others
  pub ends : end_from set (step set s p) others ≡ end_from set s steps
