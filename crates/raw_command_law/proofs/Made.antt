-- What `run` owes of the text of a set that was made.
use Rattle.std.proofs.Common.{◌≡◌, ◌∙◌, ℕ, ◌≤◌, Bool, true, false, List, [], ◌∷◌, Option, length, sym, ap, subst, arith}
use Rattle.std.proofs.Math.Seq.{take-length}
use Rattle.raw_model.specs.Program.{ProgramSet, IsSet}
use Rattle.raw_model.specs.Bounds.{all_words}
use Rattle.raw_model.specs.Rest.{IsRun, end}
use Rattle.raw_model.specs.Outcomes.{outcome, ending_of}
use Rattle.raw_model.specs.Outcomes.Outcome.{Done as OutcomeDone}
use Rattle.raw_report.specs.Report.{report}
use Rattle.raw_set_text.specs.Texts.{Meaning}
use Rattle.raw_set_text.specs.Listing.{listing}
use Rattle.raw_route.specs.Planned.{sendings}
use Rattle.raw_route.specs.Laws as route
use Rattle.raw_plan_text.specs.Plans.{HaulPlan}
use Rattle.raw_plan_text.specs.Texts.{IsOnePlanText}
use Rattle.raw_flow.specs.Flows.{Dataflow, AreInputs}
use Rattle.raw_flow.specs.Right as flow
use Rattle.raw_flow_text.specs.Flows.{FedFlow}
use Rattle.raw_flow_text.specs.Texts as flow_text
use Rattle.raw_stream.specs.Unrolled.{unrolled}
use Rattle.raw_stream_text.specs.Streams.{FedStream}
use Rattle.raw_stream_text.specs.Texts as stream_text
use Rattle.raw_stream_choice.specs.StreamSets.{HasItsWords, EachHasItsWords}
use Rattle.raw_either_flow.specs.Placed.{PlacedFlow}
use Rattle.raw_either_flow.specs.Texts.{IsOneText}
use Rattle.raw_schedule.specs.Whole.{with_programs, IsSetFor}
use Rattle.raw_model.specs.Fed.{fed as fed_with}
use Rattle.raw_term.specs.Claims.{Meets, IsRight, AreWords}
use Rattle.raw_command_line.specs.declared.arguments.SetForm.TheVariants as set_form
use Rattle.raw_inputs.specs.declared.form.InputForm.{InputForm}
use Rattle.raw_inputs.specs.declared.form.InputForm.TheVariants as form
use Rattle.raw_command_line.specs.declared.arguments.StateOutput.TheVariants.{Report}
use Rattle.raw_command_line.specs.declared.arguments.RunOutput.TheVariants.{State}
use Rattle.raw_command_line.specs.declared.arguments.ReadingCommand.TheVariants.{Run}
use Rattle.raw_shell.specs.declared.ending.CommandEnding.{CommandEnding}
use Rattle.raw_shell.specs.declared.ending.CommandEnding.TheVariants.{Rested}
use Rattle.raw_model.specs.declared.ending.Ending.TheVariants.{Done}
use Rattle.raw_shell.specs.Seen.{limit}
use Rattle.raw_owed.specs.Schedules.{is_stream_text, IsFlowSchedule, IsStreamSchedule, IsSchedule, IsScheduleOutput, IsOneFlow}
use Rattle.raw_owed.specs.Owed.{IsRunOutput, IsSetOutput}
use Rattle.raw_owed.specs.Owed.{Accepts}
use Rattle.raw_command_law.specs.MadeSets.{text_run, PlanRuns, FlowRuns, ScheduledComputes, ScheduledRuns, StreamRuns, MadeRuns}
use Rattle.raw_inputs.specs.Inputs.{planned_of, compiled_of, IsOneInput}

-- ---- what `run` says of the text of a set that is made

-- a text that is the listing of a set, and what `run` of it gives
module _ (one : (form : InputForm) (input : List ℕ) → IsOneInput form input)
    (back : (set : ProgramSet) → IsSet set → Meaning (listing set) set)
    (short : (set : ProgramSet) → IsSet set → length (listing set) ≤ limit) where
  means_listed : (set : ProgramSet) (text : List ℕ) → IsSet set → text ≡ listing set → Meaning text set
  means_listed set text lawful written = subst (λ listed. Meaning listed set) (sym written) (back set lawful)

  takes_listed : (set : ProgramSet) (text : List ℕ) (workers : Option ℕ) → IsSet set → text ≡ listing set → Accepts (Run (text_run workers)) text
  takes_listed set text workers lawful written = record {
    short = subst (λ listed. length listed ≤ limit) (sym written) (short set lawful);
    valid = (set, means_listed set text lawful written);
  }

  run_is : (set : ProgramSet) (text output : List ℕ) (ending : CommandEnding) → IsSet set → text ≡ listing set → (run : IsRunOutput (State Report) set_form.Text text output ending) → run.set ≡ set
  run_is set text output ending lawful written run = (one form.Text text).one_set run.set set run.meaning (means_listed set text lawful written)

  ended : (set other : ProgramSet) (steps : List ℕ) (ending : CommandEnding) → set ≡ other → ending ≡ Rested (ending_of (outcome set (end set steps))) → outcome other (end other steps) ≡ OutcomeDone → ending ≡ Rested Done
  ended set other steps ending same is done = is ∙ ap (λ g. Rested (ending_of (outcome g (end g steps)))) same ∙ ap (λ o. Rested (ending_of o)) done

  pub plan_runs : (input text : List ℕ) (ending : CommandEnding) → IsOnePlanText input → route.EachDelivers → IsSetOutput form.Plan listing input text ending → PlanRuns input text
  plan_runs input text ending one_text delivers list =
      let made = list.meaning in
      let plan : HaulPlan = made.meant in
      let planned : ProgramSet = planned_of plan in
      let lawful : IsSet list.set = (one form.Plan input).lawful list.set made in
      record {
        plan = plan;
        meaning = made.meaning;
        taken = λ workers. takes_listed list.set text workers lawful list.written;
        runs = λ workers output next (run : IsRunOutput (State Report) set_form.Text text output next).
            let same : run.set ≡ planned = run_is list.set text output next lawful list.written run ∙ made.is in
            let is_run : IsRun planned run.steps = subst (λ set. IsRun set run.steps) same run.run in
            let delivered = delivers plan.cols plan.rows (sendings plan.hauls plan.words) (subst IsSet made.is lawful) (one_text.valid plan made.meaning).sends run.steps is_run in
            record {
              steps = run.steps;
              run = is_run;
              written = run.written ∙ ap (λ set. report set run.steps) same;
              delivered = delivered;
              done = ended run.set planned run.steps next same run.ended delivered.done;
            };
      }

  pub flow_runs : (input text : List ℕ) (ending : CommandEnding) → IsOneText input → flow.EachPlacedFlowIsRight → IsSetOutput form.Flow listing input text ending → FlowRuns input text
  flow_runs input text ending one_text is_right list =
      let made = list.meaning in
      let placed : PlacedFlow = made.meant in
      let compiled : ProgramSet = compiled_of placed in
      let lawful : IsSet list.set = (one form.Flow input).lawful list.set made in
      let valid = one_text.valid placed made.meaning in
      record {
        placed = placed;
        meaning = made.meaning;
        taken = λ workers. takes_listed list.set text workers lawful list.written;
        runs = λ workers output next (run : IsRunOutput (State Report) set_form.Text text output next).
            let same : run.set ≡ compiled = run_is list.set text output next lawful list.written run ∙ made.is in
            let is_run : IsRun compiled run.steps = subst (λ set. IsRun set run.steps) same run.run in
            let right = is_right placed.flow placed.ports placed.inputs valid.flow valid.ports valid.inputs (subst IsSet made.is lawful) run.steps is_run in
            record {
              steps = run.steps;
              run = is_run;
              written = run.written ∙ ap (λ set. report set run.steps) same;
              right = right;
              done = ended run.set compiled run.steps next same run.ended right.done;
            };
      }

  -- ---- a scheduled set

  -- a set for a flow has the words of the inputs in its source
  own_words : (flow : Dataflow) (inputs : List ℕ) (set : ProgramSet) → IsSetFor flow inputs set → fed_with set inputs ≡ set
  own_words flow inputs set same =
      subst (λ (g : ProgramSet). fed_with g inputs ≡ g) (sym same)
      (ap (λ words. let g : ProgramSet = record (with_programs flow inputs set.tiles) { ports = record { words = words; capacity = 0 } ∷ record { words = []; capacity = length flow.outs } ∷ [] } in g)
      (take-length inputs))

  are_words : (flow : Dataflow) (inputs : List ℕ) (set : ProgramSet) → IsSetFor flow inputs set → AreInputs flow inputs → AreWords set inputs
  are_words flow inputs set same are = record {
    each = let many : all_words (with_programs flow inputs set.tiles) ≡ length inputs = omega arith in sym (ap all_words same ∙ many);
    words = are.words;
  }

  -- what a run gives of a set that meets a flow, with these words in its sources
  computes : (flow : Dataflow) (words : List ℕ) (set : ProgramSet) (text : List ℕ) → IsSet set → text ≡ listing set → fed_with set words ≡ set → AreWords set words → Meets set flow
      → (output : List ℕ) (ending : CommandEnding) → IsRunOutput (State Report) set_form.Text text output ending → ScheduledComputes flow words set output ending
  computes flow words set text valid listed own are meets output ending run =
      let same : run.set ≡ set = run_is set text output ending valid listed run in
      let is_run : IsRun set run.steps = subst (λ g. IsRun g run.steps) same run.run in
      let met = meets words are in
      let right : IsRight set flow words (end set run.steps) =
      subst (λ g. IsRight set flow words (end g run.steps)) own (met.right run.steps (subst (λ g. IsRun g run.steps) (sym own) is_run)) in
      record {
        steps = run.steps;
        run = is_run;
        written = run.written ∙ ap (λ g. report g run.steps) same;
        right = right;
        done = ended run.set set run.steps ending same run.ended (subst (λ g. outcome g (end set run.steps) ≡ OutcomeDone) own right.done);
      }

  scheduled_runs : (input text : List ℕ) (set : ProgramSet) → flow_text.IsOneText input → IsFlowSchedule input set → text ≡ listing set → ScheduledRuns input text
  scheduled_runs input text set one_text made listed =
      let fed : FedFlow = made.fed in
      let choice = made.choice in
      let own = own_words fed.flow fed.inputs set choice.same in
      let are = are_words fed.flow fed.inputs set choice.same (one_text.valid fed made.meaning).inputs in
      record {
        fed = fed;
        meaning = made.meaning;
        set = set;
        choice = choice;
        taken = λ workers. takes_listed set text workers choice.valid listed;
        runs = λ workers output ending (run : IsRunOutput (State Report) set_form.Text text output ending).
            computes fed.flow fed.inputs set text choice.valid listed own are choice.meets output ending run;
      }

  stream_runs : (input text : List ℕ) (set : ProgramSet) → stream_text.IsOneText input → EachHasItsWords → IsStreamSchedule input set → text ≡ listing set → StreamRuns input text
  stream_runs input text set one_text its_words made listed =
      let fed : FedStream = made.fed in
      let is = made.choice.is in
      let valid = one_text.valid fed made.meaning in
      let has : HasItsWords fed.stream fed.words set = its_words fed.stream fed.words set valid.enough is.same in
      record {
        fed = fed;
        meaning = made.meaning;
        set = set;
        choice = made.choice;
        taken = λ workers. takes_listed set text workers is.valid listed;
        runs = λ workers output ending (run : IsRunOutput (State Report) set_form.Text text output ending).
            computes (unrolled fed.stream) fed.words set text is.valid listed has.own (record { each = has.each; words = valid.words }) is.meets output ending run;
      }

  made_by : (input text : List ℕ) (set : ProgramSet) → IsOneFlow input → EachHasItsWords → (rows : Bool) → IsSchedule rows input set → text ≡ listing set → MadeRuns rows input text
  made_by input text set one its_words true made listed = stream_runs input text set one.stream its_words made listed
  made_by input text set one its_words false made listed = scheduled_runs input text set one.flow made listed

  pub made_runs : (input text : List ℕ) (ending : CommandEnding) → IsOneFlow input → EachHasItsWords → IsScheduleOutput input text ending → MadeRuns (is_stream_text input) input text
  made_runs input text ending one its_words out = made_by input text out.set one its_words (is_stream_text input) out.schedule out.written
