-- Logs of workers, and lists that are joined from them.
use Rattle.std.specs.Prelude.{◌≡◌, ℕ, Some, List, map, slice_get}
use Rattle.raw_model.specs.Program.{ProgramSet}
use Rattle.raw_model.specs.Start.{MachineState}
use Rattle.raw_model.specs.Laws.{IsLawfulJoining}
use Rattle.raw_steps.specs.declared.log.PassLog.{PassLog}
use Rattle.raw_steps.specs.Taking.{numbers}

-- the steps of each log
abbrev pub steps_in : List PassLog → List (List ℕ)
steps_in logs = map (λ (log : PassLog). numbers log.steps.items) logs

-- the logs are in the order of their workers
abbrev pub AreInOrder : List PassLog → Type 0
AreInOrder logs = (w : ℕ) (log : PassLog) → slice_get logs w ≡ Some log → log.worker ≡ w

-- there is at least one log, and from the state some lawful list of steps is joined from the logs
abbrev pub HaveLawfulJoining : ProgramSet → MachineState → List (List ℕ) → Type 0
HaveLawfulJoining set s logs = ∥ ((steps : List ℕ) × IsLawfulJoining set s logs steps) ∥₁
