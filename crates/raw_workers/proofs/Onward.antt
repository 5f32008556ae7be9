-- Machines that are run on, and their steps kept.
use Rattle.std.proofs.Common.{◌≡◌, List, [], sym, subst}
use Rattle.raw_grid.specs.declared.parts.ProcId.{ProcId}
use Rattle.raw_model.specs.Program.{ProgramSet}
use Rattle.raw_serial.specs.Running.{IsRunBy}
use Rattle.raw_serial.specs.Fresh.{IsFresh}
use Rattle.raw_serial.proofs.Freshly.{fresh_run}
use Rattle.raw_steps.specs.Taking.{numbers}
use Rattle.raw_workers.specs.declared.record.Kept.{Kept}
use Rattle.raw_workers.specs.Kept.{IsKept}

-- a machine that has done nothing is kept with no steps
pub kept_fresh : (set : ProgramSet) (kept : Kept) → IsFresh set kept.machine → kept.steps.items ≡ [] → IsKept set kept
kept_fresh set kept fresh none =
    record {
      set_is = fresh.set;
      run = subst (λ (steps : List ProcId). IsRunBy kept.machine (numbers steps)) (sym none) (fresh_run set kept.machine fresh);
    }
