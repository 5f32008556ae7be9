-- Which states lawful lists of steps lead to, machines that take such lists, and stall turns that are passed over.
use Rattle.std.specs.Prelude.{◌≡◌, ℕ, ◌-◌, ◌<◌, ◌≤◌, List, ◌++◌, length, Some, slice_get, slice_index, slice_set, if◌then◌else◌}
use Rattle.raw_model.specs.Program.{ProgramSet}
use Rattle.raw_model.specs.Start.{MachineState}
use Rattle.raw_model.specs.Rest.{IsLawfulFrom, end_from, stopped}
use Rattle.raw_model.specs.Bounds.{all_left}
use Rattle.raw_processor.specs.declared.end_wires.EndWires.{EndWires}
use Rattle.raw_processor.specs.declared.processor.Processor.{Processor}
use Rattle.raw_serial.specs.Running.{Running, IsRunBy, TakesNone}
use Rattle.raw_serial.specs.Parts.{running_of, AreParts}

-- a lawful list of steps leads from one state to the other
pub record LeadsBy (set : ProgramSet) (from to : MachineState) (steps : List ℕ) : Type 0 where
  pub lawful : IsLawfulFrom set from steps
  pub there : end_from set from steps ≡ to

-- some lawful list of steps does
abbrev pub Leads : ProgramSet → MachineState → MachineState → Type 0
Leads set from to = ∥ ((steps : List ℕ) × LeadsBy set from to steps) ∥₁

-- The one machine has taken these steps and is now the other: each was enabled when its turn came, the state is the one
-- that they lead to, its caches and its counts of misses are those after them, and each tile owes at most what `OwesLast`
-- allows. A processor that took none of them owes no more than before.
pub record HasTaken (old new : Running) (steps : List ℕ) : Type 0 where
  pub set : new.set ≡ old.set
  pub led : LeadsBy old.set old.state new.state steps
  pub run : (earlier : List ℕ) → IsRunBy old earlier → IsRunBy new (earlier ++ steps)
  pub owed : (p : ℕ) → TakesNone p steps → slice_index new.owed p ≤ slice_index old.owed p

-- it has taken some list of steps
abbrev pub HasRun : Running → Running → Type 0
HasRun old new = ∥ ((steps : List ℕ) × HasTaken old new steps) ∥₁

-- it has taken some list of so many steps
abbrev pub HasRunFor : Running → Running → ℕ → Type 0
HasRunFor old new count = ∥ ((steps : List ℕ) × (length steps ≡ count) × HasTaken old new steps) ∥₁

-- one machine ran on to the other, by lawful steps; of `most` steps that it might take, `left` are left, and it took the others
pub record IsRunFor (old new : Running) (most left : ℕ) : Type 0 where
  pub few : left ≤ most
  pub set : new.set ≡ old.set
  pub ran : HasRunFor old new (most - left)
  pub less : left < most → all_left old.set new.state < all_left old.set old.state
  pub stays : left ≡ most → new.state ≡ old.state

-- the machine after processor p has taken all its stall turns; one that is stopped takes none
abbrev pub past_stalls : Running → ℕ → Running
past_stalls m p = record m { owed = if stopped m.set m.state p then m.owed else slice_set m.owed p 0 }

-- processor p of some machine
pub record IsOfSome (set : ProgramSet) (p : ℕ) (x : Processor) (wires : List (List ℕ)) : Type 0 where
  pub ends : List EndWires
  pub processors : List Processor
  pub parts : AreParts set ends processors wires
  pub here : slice_get processors p ≡ Some x

-- whichever machine it is of, that machine runs on where processor p and the wires become these
abbrev pub RunsOn : ProgramSet → ℕ → Processor → Processor → List (List ℕ) → List (List ℕ) → ℕ → ℕ → Type 0
RunsOn set p old new wires later most left =
    (ends : List EndWires) (processors : List Processor) → AreParts set ends processors wires → slice_get processors p ≡ Some old
    → AreParts set ends (slice_set processors p new) later
    × IsRunFor (running_of set processors wires) (running_of set (slice_set processors p new) later) most left
