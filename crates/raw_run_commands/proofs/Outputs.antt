-- A machine that came to rest gives the output of a run.
use Rattle.std.proofs.Common.{◌≡◌, ℕ, List, refl, sym, ap, subst, ◌∙◌}
use Rattle.std.specs.Prelude.{◌==◌, if◌then◌else◌}
use Rattle.std.proofs.Math.Nat.{ℕ_set}
use Rattle.std.proofs.Math.Logic.{∥∥₁_elim}
use Rattle.raw_model.specs.Program.{ProgramSet}
use Rattle.raw_model.specs.Start.{MachineState, start}
use Rattle.raw_model.specs.Rest.{end, IsQuiet, IsRun}
use Rattle.raw_model.specs.Outcomes.{outcome, ending_of}
use Rattle.raw_serial.specs.Leading.{Leads, LeadsBy}
use Rattle.raw_model.specs.declared.ending.Ending.{Ending}
use Rattle.raw_model.specs.declared.ending.Ending.TheVariants.{Done, Deadlock, Stuck, Trapped, Limit}
use Rattle.raw_shell.specs.declared.ending.CommandEnding.TheVariants.{Rested}
use Rattle.raw_shell.specs.Answers.{ending_status}
use Rattle.raw_owed.specs.EachRun.{StandsForAll}
use Rattle.raw_command_line.specs.declared.arguments.RunOutput.{RunOutput}
use Rattle.raw_command_line.specs.declared.arguments.SetForm.{SetForm}
use Rattle.raw_inputs.specs.Inputs.{whole, Means}
use Rattle.raw_owed.specs.Owed.{IsRunOutput, run_text}

-- how a grid came to rest, by the status of its command
abbrev ending_with : ℕ → Ending
ending_with status =
    if status == 0 then Done else (if status == 3 then Deadlock else (if status == 4 then Stuck else (if status == 5 then Trapped else Limit)))

ending_back : (ending : Ending) → ending_with (ending_status (Rested ending)) ≡ ending
ending_back Done = refl
ending_back _ = refl

-- two endings with one status are one
pub same_ending : (a b : Ending) → ending_status (Rested a) ≡ ending_status (Rested b) → Rested a ≡ Rested b
same_ending a b e = ap Rested (sym (ending_back a) ∙ ap ending_with e ∙ ending_back b)

module _ (set : ProgramSet) (state : MachineState) (steps : List ℕ) (quiet : IsQuiet set state) (leads : Leads set (start set) state) (run : IsRun set steps) (all : StandsForAll set steps) where
  -- a quiet state that some list leads to ends as each list does that comes to rest
  ended_alike : Rested (ending_of (outcome set state)) ≡ Rested (ending_of (outcome set (end set steps)))
  ended_alike =
      same_ending (ending_of (outcome set state)) (ending_of (outcome set (end set steps)))
      (∥∥₁_elim leads (ℕ_set (ending_status (Rested (ending_of (outcome set state)))) (ending_status (Rested (ending_of (outcome set (end set steps))))))
      (λ (led : (others : List ℕ) × LeadsBy set (start set) state others).
      let other_run : IsRun set led.0 = record { lawful = led.1.lawful; quiet = subst (IsQuiet set) (sym led.1.there) quiet } in
      ap (λ s. ending_status (Rested (ending_of (outcome set s)))) (sym led.1.there ∙ (all.alike led.0 other_run).ends)))

  pub run_output : (said output : RunOutput) → said ≡ output → (form : SetForm) (input : List ℕ) → Means (whole form) input set
      → IsRunOutput said form input (run_text output set steps) (Rested (ending_of (outcome set state)))
  run_output said output is form input meaning = record {
    set = set;
    meaning = meaning;
    steps = steps;
    run = run;
    written = ap (λ o. run_text o set steps) (sym is);
    ended = ended_alike;
    for_all = all;
  }
