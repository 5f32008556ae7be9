-- A machine beside the steps that it has taken.
use Rattle.std.specs.Prelude.{◌≡◌, ◌+◌, ◌≤◌, vec_len}
use Rattle.raw_model.specs.Program.{ProgramSet}
use Rattle.raw_model.specs.Bounds.{all_left}
use Rattle.raw_serial.specs.Running.{Running, IsRunBy}
use Rattle.raw_steps.specs.Taking.{numbers}
use Rattle.raw_workers.specs.declared.record.Kept.{Kept}

-- the machine is run by the steps from the start of the set
pub record IsKept (set : ProgramSet) (kept : Kept) : Type 0 where
  pub set_is : kept.machine.set ≡ set
  pub run : IsRunBy kept.machine (numbers kept.steps.items)

-- the same, and another machine of the set is in the same state
pub record IsKeptBeside (set : ProgramSet) (kept : Kept) (other : Running) : Type 0 where
  pub is_kept : IsKept set kept
  pub other_set : other.set ≡ set
  pub same : other.state ≡ kept.machine.state

-- a machine was run on, and its steps were kept
pub record IsKeptOn (set : ProgramSet) (old new : Kept) : Type 0 where
  pub is_kept : IsKept set new
  pub many : vec_len old.steps ≤ vec_len new.steps
  pub less : all_left set new.machine.state + vec_len new.steps ≤ all_left set old.machine.state + vec_len old.steps
  pub stays : vec_len new.steps ≡ vec_len old.steps → new.machine.state ≡ old.machine.state
