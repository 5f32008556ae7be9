-- What `run` says of the texts that `plan` and `flow` write.
use Rattle.std.specs.Prelude.{◌≡◌, Bool, true, false, ℕ, Option, List}
use Rattle.raw_model.specs.Program.{ProgramSet}
use Rattle.raw_model.specs.Rest.{IsRun, end}
use Rattle.raw_report.specs.Report.{report}
use Rattle.raw_route.specs.Planned.{sendings}
use Rattle.raw_route.specs.Delivered.{IsDelivered}
use Rattle.raw_plan_text.specs.Plans.{HaulPlan}
use Rattle.raw_plan_text.specs.Texts.{PlanMeaning}
use Rattle.raw_flow.specs.Flows.{Dataflow}
use Rattle.raw_flow.specs.Right.{IsRightAt}
use Rattle.raw_flow_text.specs.Flows.{FedFlow}
use Rattle.raw_flow_text.specs.Texts.{FlowMeaning}
use Rattle.raw_either_flow.specs.Placed.{PlacedFlow}
use Rattle.raw_either_flow.specs.Texts.{EitherMeaning}
use Rattle.raw_stream.specs.Unrolled.{unrolled}
use Rattle.raw_stream_text.specs.Streams.{FedStream}
use Rattle.raw_stream_text.specs.Texts.{StreamMeaning}
use Rattle.raw_choice.specs.Choice.{IsChoice}
use Rattle.raw_stream_choice.specs.Choice.{IsStreamChoice}
use Rattle.raw_term.specs.Claims as claims
use Rattle.raw_command_line.specs.declared.arguments.SetForm.TheVariants as set_form
use Rattle.raw_command_line.specs.declared.arguments.RunOptions.{RunOptions}
use Rattle.raw_command_line.specs.declared.arguments.StateOutput.TheVariants.{Report}
use Rattle.raw_command_line.specs.declared.arguments.RunOutput.TheVariants.{State}
use Rattle.raw_command_line.specs.declared.arguments.FlowSet.TheVariants.{Compiled, Scheduled}
use Rattle.raw_command_line.specs.declared.arguments.ReadingCommand.TheVariants as reading
use Rattle.raw_command_line.specs.declared.arguments.Command.TheVariants.{Reads}
use Rattle.raw_shell.specs.declared.ending.CommandEnding.{CommandEnding}
use Rattle.raw_shell.specs.declared.ending.CommandEnding.TheVariants.{Rested}
use Rattle.raw_model.specs.declared.ending.Ending.TheVariants.{Done}
use Rattle.raw_inputs.specs.Inputs.{planned_of, compiled_of}
use Rattle.raw_owed.specs.Schedules.{is_stream_text}
use Rattle.raw_owed.specs.Owed.{Owes}
use Rattle.raw_owed.specs.Owed.{Accepts}

-- `run` of a text, by so many workers where they are said
abbrev pub text_run : Option ℕ → RunOptions
text_run workers = record { output = State Report; form = set_form.Text; workers = workers }

-- the report of a run of the planned set that is done, and has brought each word to its targets
pub record RunDelivers (plan : HaulPlan) (output : List ℕ) (ending : CommandEnding) : Type 0 where
  pub steps : List ℕ
  pub run : IsRun (planned_of plan) steps
  pub written : output ≡ report (planned_of plan) steps
  pub delivered : IsDelivered (planned_of plan) (sendings plan.hauls plan.words) (end (planned_of plan) steps)
  pub done : ending ≡ Rested Done

-- the text of a planned set: the first bytes mean the plan, and `run` takes the text and owes such a report, and nothing else
pub record PlanRuns (input text : List ℕ) : Type 0 where
  pub plan : HaulPlan
  pub meaning : PlanMeaning input plan
  pub taken : (workers : Option ℕ) → Accepts (reading.Run (text_run workers)) text
  pub runs : (workers : Option ℕ) (output : List ℕ) (ending : CommandEnding) → Owes (Reads (reading.Run (text_run workers))) text output ending → RunDelivers plan output ending

-- so is what `plan` writes
abbrev pub EachPlanRuns : Type 0
EachPlanRuns = (input text : List ℕ) (ending : CommandEnding) → Owes (Reads reading.Plan) input text ending → PlanRuns input text

-- the report of a run of the compiled set that is done, and has brought the values of the outs to the sinks
pub record RunComputes (placed : PlacedFlow) (output : List ℕ) (ending : CommandEnding) : Type 0 where
  pub steps : List ℕ
  pub run : IsRun (compiled_of placed) steps
  pub written : output ≡ report (compiled_of placed) steps
  pub right : IsRightAt placed.flow placed.ports placed.inputs (end (compiled_of placed) steps)
  pub done : ending ≡ Rested Done

-- the text of a compiled set: the first bytes mean the flow, and `run` takes the text and owes such a report, and nothing else
pub record FlowRuns (input text : List ℕ) : Type 0 where
  pub placed : PlacedFlow
  pub meaning : EitherMeaning input placed
  pub taken : (workers : Option ℕ) → Accepts (reading.Run (text_run workers)) text
  pub runs : (workers : Option ℕ) (output : List ℕ) (ending : CommandEnding) → Owes (Reads (reading.Run (text_run workers))) text output ending → RunComputes placed output ending

-- so is what `flow` writes
abbrev pub EachFlowRuns : Type 0
EachFlowRuns = (input text : List ℕ) (ending : CommandEnding) → Owes (Reads (reading.Flow Compiled)) input text ending → FlowRuns input text

-- the report of a run of a scheduled set that is done, and has brought the values of the outs to the sinks, where the sources have these words
pub record ScheduledComputes (flow : Dataflow) (words : List ℕ) (set : ProgramSet) (output : List ℕ) (ending : CommandEnding) : Type 0 where
  pub steps : List ℕ
  pub run : IsRun set steps
  pub written : output ≡ report set steps
  pub right : claims.IsRight set flow words (end set steps)
  pub done : ending ≡ Rested Done

-- the text of a set for a flow: the first bytes mean the flow, and `run` takes the text and owes such a report, and nothing else
pub record ScheduledRuns (input text : List ℕ) : Type 0 where
  pub fed : FedFlow
  pub meaning : FlowMeaning input fed
  pub set : ProgramSet
  pub choice : IsChoice fed.flow fed.inputs set
  pub taken : (workers : Option ℕ) → Accepts (reading.Run (text_run workers)) text
  pub runs : (workers : Option ℕ) (output : List ℕ) (ending : CommandEnding)
      → Owes (Reads (reading.Run (text_run workers))) text output ending → ScheduledComputes fed.flow fed.inputs set output ending

-- the same of a stream: each sink has, row by row, what it is due
pub record StreamRuns (input text : List ℕ) : Type 0 where
  pub fed : FedStream
  pub meaning : StreamMeaning input fed
  pub set : ProgramSet
  pub choice : IsStreamChoice fed.stream fed.words set
  pub taken : (workers : Option ℕ) → Accepts (reading.Run (text_run workers)) text
  pub runs : (workers : Option ℕ) (output : List ℕ) (ending : CommandEnding)
      → Owes (Reads (reading.Run (text_run workers))) text output ending → ScheduledComputes (unrolled fed.stream) fed.words set output ending

-- of a stream, or of a flow
abbrev pub MadeRuns : Bool → List ℕ → List ℕ → Type 0
MadeRuns true input text = StreamRuns input text
MadeRuns false input text = ScheduledRuns input text

-- so is what `flow --schedule` writes
abbrev pub EachScheduledRuns : Type 0
EachScheduledRuns = (input text : List ℕ) (ending : CommandEnding) → Owes (Reads (reading.Flow Scheduled)) input text ending → MadeRuns (is_stream_text input) input text
