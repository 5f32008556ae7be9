-- What one run says of a claim each run says.
use Rattle.std.proofs.Common.{◌≡◌, List, Option, ap, ap₂, ◌∙◌, ℕ}
use Rattle.raw_model.specs.Program.{ProgramSet, IsSet}
use Rattle.raw_model.specs.Start.{MachineState, start}
use Rattle.raw_model.specs.Rest.{IsQuiet, end}
use Rattle.raw_model.specs.Serial.{serial}
use Rattle.raw_model.specs.Waits.{waits_for}
use Rattle.raw_model.specs.Outcomes.{outcome}
use Rattle.raw_model.proofs.Sweeping.{serial_rests}
use Rattle.raw_serial.specs.Leading.{Leads}
use Rattle.raw_outcome.specs.declared.ends.Outcome.{Outcome}
use Rattle.raw_outcome.specs.Told.{told}
use Rattle.raw_flow.specs.Flows.{Dataflow, outs_of}
use Rattle.raw_term.specs.declared.place.Place.{Place}
use Rattle.raw_term.specs.Seen.{miscount, seen}
use Rattle.raw_prove.proofs.Resting.{each_tells, same_miscount, same_seen}
use Rattle.raw_refute.specs.declared.fault.Fault.{Fault}
use Rattle.raw_refute.specs.Judged.{judged, IsJudged}

-- a state at rest to which steps lead
pub record IsRest (set : ProgramSet) (s : MachineState) (how : Outcome) : Type 0 where
  pub valid : IsSet set
  pub quiet : IsQuiet set s
  pub tells : told (waits_for set s) how ≡ outcome set s
  pub leads : Leads set (start set) s

pub judged_so : (set : ProgramSet) (flow : Dataflow) (places : List Place) (words : List ℕ) (s : MachineState) (how : Outcome) (fault : Option Fault)
    → IsRest set s how → fault ≡ judged how (miscount places s.locals) (seen places s) (outs_of flow words) → IsJudged set flow places words fault
judged_so set flow places words s how fault r is = record {
  some = (serial set, serial_rests set r.valid);
  each = λ steps run. record {
    how = how;
    tells = each_tells set r.valid s r.quiet how r.tells steps run r.leads;
    is = is
        ∙ ap₂ (λ (counts : Option (ℕ × ℕ)) (got : List ℕ). judged how counts got (outs_of flow words))
        (same_miscount set r.valid s r.quiet how r.tells steps run places r.leads) (same_seen set r.valid s r.quiet how r.tells steps run places r.leads);
  };
}
