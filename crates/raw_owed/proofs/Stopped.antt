-- A chain of waits that is reported ends in a processor that is stopped.
use Rattle.std.proofs.Common.{◌≡◌, arith}
use Rattle.std.specs.Prelude.{length}
use Rattle.raw_grid.specs.Topology.{proc_count}
use Rattle.raw_model.specs.Program.{ProgramSet}
use Rattle.raw_model.specs.Start.{MachineState}
use Rattle.raw_model.specs.Outcomes.{Outcome, IsOutcome, ChainsEndStopped}
use Rattle.raw_model.specs.Outcomes.Outcome.{Stuck as OutcomeStuck}
use Rattle.raw_owed.specs.EachRun.{EndsStopped}

-- where no cycle is, the chain of waits that is reported ends in a processor that is stopped
pub ends_stopped : (set : ProgramSet) (s : MachineState) (how : Outcome) → IsOutcome set s how → ChainsEndStopped set s
    → length s.locals ≡ proc_count set.topo → EndsStopped set s how
ends_stopped set s (OutcomeStuck p) says chains fits = chains says.0 p (omega (arith, says.3.there, fits))
ends_stopped set s _ says chains fits = tt
