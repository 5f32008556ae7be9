-- What each command owes for its input, and where it refuses its input.
use Rattle.std.specs.Prelude.{Bool, true, false, ◌≡◌, ◌↔◌, ◌⊎◌, ℕ, suc, ◌+◌, ◌<◌, List, ◌++◌, Some, None, [], ◌≤◌, Option, length}
use Rattle.std.specs.Option.{unwrap_or}
use Rattle.raw_grid.specs.Topology.{proc_count}
use Rattle.raw_model.specs.Program.{ProgramSet}
use Rattle.raw_model.specs.Rest.{end, IsRun, IsLawful}
use Rattle.raw_model.specs.Outcomes.{outcome, ending_of}
use Rattle.raw_report.specs.Report.{report}
use Rattle.raw_report.specs.History.{history_text}
use Rattle.raw_picture.specs.Picture.{picture}
use Rattle.raw_clock.specs.Clock.{HasCycles, clock_steps}
use Rattle.raw_clock.specs.Laws.{NoneIsSooner}
use Rattle.raw_clock_text.specs.Text.{cycles_text}
use Rattle.raw_lost.specs.Lost.{LostAddUp}
use Rattle.raw_lost.specs.Text.{lost_text}
use Rattle.raw_path.specs.Text.{path_text}
use Rattle.raw_path.specs.Laws.{IsItsPath}
use Rattle.raw_trace.specs.Text.{trace_text}
use Rattle.raw_trace.specs.Whole.{has_whole}
use Rattle.raw_viewer.specs.Page.{head, tail}
use Rattle.raw_depths.specs.Text.{depths_text}
use Rattle.raw_depths.specs.Found.{AreItsCycles}
use Rattle.raw_steadiness.specs.declared.steadying.Steadiness.{Steadiness}
use Rattle.raw_steadiness.specs.Steadiness.{IsSteadiness}
use Rattle.raw_steadiness.specs.Text.{steadiness_text}
use Rattle.raw_names.specs.Names.{names_text}
use Rattle.raw_lines.specs.Lines.{lines_text, sources_text}
use Rattle.raw_debug.specs.Script.{past_end, script_text}
use Rattle.raw_generated.specs.Generated.{generated}
use Rattle.raw_generated.specs.Summary.{summary}
use Rattle.raw_set_text.specs.Listing.{listing}
use Rattle.raw_set_text.specs.Texts.{token_lines}
use Rattle.raw_image.specs.Image.{image}
use Rattle.raw_command_line.specs.declared.arguments.SetForm.{SetForm}
use Rattle.raw_inputs.specs.declared.form.InputForm.{InputForm}
use Rattle.raw_inputs.specs.declared.form.InputForm.TheVariants as form
use Rattle.raw_shell.specs.declared.arguments.FixedText.{FixedText}
use Rattle.raw_command_line.specs.declared.arguments.StateOutput.TheVariants.{Report, Picture}
use Rattle.raw_command_line.specs.declared.arguments.RunOutput.{RunOutput}
use Rattle.raw_command_line.specs.declared.arguments.RunOutput.TheVariants.{State, History}
use Rattle.raw_command_line.specs.declared.arguments.CyclesOptions.{CyclesOptions}
use Rattle.raw_command_line.specs.declared.arguments.TraceOutput.{TraceOutput}
use Rattle.raw_command_line.specs.declared.arguments.TraceOutput.TheVariants.{Lines, Page}
use Rattle.raw_command_line.specs.declared.arguments.TraceOptions.{TraceOptions}
use Rattle.raw_owed.specs.declared.limits.TheConstants.{DEFAULT_TRACE_CYCLES}
use Rattle.raw_command_line.specs.declared.arguments.FlowSet.TheVariants.{Compiled, Scheduled, Endless}
use Rattle.raw_command_line.specs.declared.arguments.AloneCommand.TheVariants.{Fixed, Work}
use Rattle.raw_command_line.specs.declared.arguments.ReadingCommand.{ReadingCommand}
use Rattle.raw_command_line.specs.declared.arguments.ReadingCommand.TheVariants as reading
use Rattle.raw_command_line.specs.declared.arguments.Command.{Command}
use Rattle.raw_command_line.specs.declared.arguments.Command.TheVariants.{Alone, Reads}
use Rattle.raw_shell.specs.declared.ending.CommandEnding.{CommandEnding}
use Rattle.raw_shell.specs.declared.ending.CommandEnding.TheVariants.{Done, Rested}
use Rattle.raw_inputs.specs.declared.flaw.Refusal.{Refusal}
use Rattle.raw_owed.specs.Answers.{fixed_text_of}
use Rattle.raw_owed.specs.EachRun.{StandsForAll}
use Rattle.raw_model.specs.Start.{start}
use Rattle.raw_steps.specs.declared.checking.CheckAnswer.{CheckAnswer}
use Rattle.raw_steps.specs.declared.checking.CheckAnswer.TheVariants.{Lawful}
use Rattle.raw_steps.specs.Checking.{IsAnswer}
use Rattle.raw_owed.specs.Checked.{check_line, check_ending}
use Rattle.raw_owed.specs.Proved.{steady_ending}
use Rattle.raw_inputs.specs.Inputs.{labels_before, whole, lines_behind, Means, HasFault, HasStreamFault, SaysSteps, SaysScript}
use Rattle.raw_owed.specs.ClaimOutputs.{IsProveOutput}
use Rattle.raw_owed.specs.LiveOutputs.{IsLiveOutput}
use Rattle.raw_owed.specs.Schedules.{is_stream_text, IsScheduleOutput, IsEndlessOutput, HasTextFault}
use Rattle.raw_stream_text.specs.Streams.{FedStream}
use Rattle.raw_stream_text.specs.Texts.{StreamMeaning}
use Rattle.std.specs.Borrow.{Bor}
use Rattle.raw_text.specs.declared.text.Text.{Text}
use Rattle.raw_text.specs.Text.{text_lines}
use Rattle.raw_command_line.specs.declared.arguments.SetForm.TheVariants as set_form
use Rattle.raw_shell.specs.Seen.{limit}

-- how the input of a command is written
abbrev pub form_of : ReadingCommand → InputForm
form_of (reading.Run options) = whole options.form
form_of (reading.Cycles options) = whole options.form
form_of (reading.Path set_form) = whole set_form
form_of (reading.Trace options) = whole options.form
form_of (reading.Depths set_form) = whole set_form
form_of (reading.Steady set_form) = whole set_form
form_of (reading.Names set_form) = whole set_form
form_of reading.Lines = form.Text
form_of reading.Asm = form.Text
form_of reading.List = form.Image
form_of reading.Plan = form.Plan
form_of (reading.Flow made) = form.Flow
form_of reading.Check = form.History
form_of reading.Debug = form.Script
form_of reading.Prove = form.Claim
form_of reading.ProveLive = form.Claim

-- what a trace tells of the text of a set: which line gives each instruction, and which labels stand there
abbrev pub sources_in : SetForm → List ℕ → ProgramSet → List ℕ
sources_in set_form.Text input set = sources_text set.topo (token_lines input)
sources_in _ input set = []

-- the same of a text that was read, where there is one
abbrev pub sources_told : Option (Bor Text) → ProgramSet → List ℕ
sources_told None set = []
sources_told (Some text) set = sources_text set.topo (text_lines text.now)

-- what is written of a list of steps of a set: the report of the state that it leads to, or the picture of it, or the listing of the
-- set and then the history of the list
abbrev pub run_text : RunOutput → ProgramSet → List ℕ → List ℕ
run_text (State Report) set steps = report set steps
run_text (State Picture) set steps = picture set steps
run_text History set steps = listing set ++ history_text steps

-- `run`, `picture` and `history`: what is written of a lawful list of steps of the set that the input means; the list comes to
-- rest, and stands for each other such list
pub record IsRunOutput (output : RunOutput) (form : SetForm) (input bytes : List ℕ) (ending : CommandEnding) : Type 0 where
  pub set : ProgramSet
  pub meaning : Means (whole form) input set
  pub steps : List ℕ
  pub run : IsRun set steps
  pub written : bytes ≡ run_text output set steps
  pub ended : ending ≡ Rested (ending_of (outcome set (end set steps)))
  pub for_all : StandsForAll set steps

-- the text of the clock of a set that has n cycles, with the lines of its lost cycles or without them
abbrev pub counted_text : Bool → ProgramSet → ℕ → List ℕ
counted_text false set n = cycles_text set n
counted_text true set n = lost_text set n

-- `cycles`: the text of the clock of the set that the input means, at the number of its cycles; its steps are a run, and no schedule is
-- sooner. The lost cycles of each processor are together those in which it waited
pub record IsCyclesOutput (options : CyclesOptions) (input bytes : List ℕ) (ending : CommandEnding) : Type 0 where
  pub set : ProgramSet
  pub meaning : Means (whole options.form) input set
  pub cycles : ℕ
  pub counted : HasCycles set cycles
  pub run : IsRun set (clock_steps set cycles)
  pub soonest : NoneIsSooner set cycles
  pub lost : (p : ℕ) → p < proc_count set.topo → LostAddUp set cycles p
  pub written : bytes ≡ counted_text options.lost set cycles
  pub ended : ending ≡ Rested (ending_of (outcome set (end set (clock_steps set cycles))))

-- `path`: the text of the path of the set that the input means, at the number of its cycles. Where it has a cycle,
-- the path is a chain of turns, one of each cycle, each of which needs the one before it. No schedule has its last
-- turn sooner.
pub record IsPathOutput (form : SetForm) (input bytes : List ℕ) (ending : CommandEnding) : Type 0 where
  pub set : ProgramSet
  pub meaning : Means (whole form) input set
  pub cycles : ℕ
  pub counted : HasCycles set cycles
  pub path : (k : ℕ) → suc k ≡ cycles → IsItsPath set k
  pub written : bytes ≡ path_text set cycles
  pub ended : ending ≡ Rested (ending_of (outcome set (end set (clock_steps set cycles))))

-- the trace of a set that has n cycles, with this in front, or the page that shows it: the viewer before and behind the place of the trace
abbrev pub written_as : TraceOutput → List ℕ → ProgramSet → Bool → ℕ → ℕ → ℕ → List ℕ
written_as Lines front set whole n from most = trace_text front set whole n from most
written_as Page front set whole n from most = head ++ (trace_text front set whole n from most ++ tail)

-- the cycles of a trace, from the one on that the words say, or else from the first one, and at most so many as they say, or else 1,000,
-- with the lines of the whole run where they ask for them; the trace of a set that has n cycles, or the page that shows it. Behind the
-- listing stands what is told of its text
abbrev pub traced : TraceOptions → List ℕ → ProgramSet → ℕ → List ℕ
traced options sources set n =
    written_as options.output (listing set ++ sources) set (has_whole options.whole set n) n (unwrap_or options.from 0) (unwrap_or options.cycles DEFAULT_TRACE_CYCLES)

-- what is written of the cycles of the set that the input means, where this is told of its text; the steps of its clock are a run
pub record IsTracedWith (sources : ProgramSet → List ℕ) (options : TraceOptions) (input bytes : List ℕ) (ending : CommandEnding) : Type 0 where
  pub set : ProgramSet
  pub meaning : Means (whole options.form) input set
  pub cycles : ℕ
  pub counted : HasCycles set cycles
  pub run : IsRun set (clock_steps set cycles)
  pub written : bytes ≡ traced options (sources set) set cycles
  pub ended : ending ≡ Rested (ending_of (outcome set (end set (clock_steps set cycles))))

-- `trace` and `explore`: of an input that is a text, it is told which line gives each instruction, and which labels stand there
abbrev pub IsTraceOutput : TraceOptions → List ℕ → List ℕ → CommandEnding → Type 0
IsTraceOutput options input bytes ending = IsTracedWith (sources_in options.form input) options input bytes ending

-- `depths`: the text of the set that the input means at each depth; its cycles are those of its clock, and where at rest none waits for
-- room, no greater depth has more
pub record IsDepthsOutput (form : SetForm) (input output : List ℕ) (ending : CommandEnding) : Type 0 where
  pub set : ProgramSet
  pub meaning : Means (whole form) input set
  pub cycles : AreItsCycles set
  pub written : output ≡ depths_text set
  pub ended : ending ≡ Done

-- `steady`: what the serial run with terms says of the time of the set that the input means. Where it says that the set is steady, its
-- clock is the same with all words in its sources
pub record IsSteadyOutput (form : SetForm) (input output : List ℕ) (ending : CommandEnding) : Type 0 where
  pub set : ProgramSet
  pub meaning : Means (whole form) input set
  pub steadiness : Steadiness
  pub says : IsSteadiness set steadiness
  pub written : output ≡ steadiness_text steadiness
  pub ended : ending ≡ steady_ending steadiness

-- the set that the input means, as these bytes of it
pub record IsSetOutput (form : InputForm) (bytes_of : ProgramSet → List ℕ) (input output : List ℕ) (ending : CommandEnding) : Type 0 where
  pub set : ProgramSet
  pub meaning : Means form input set
  pub written : output ≡ bytes_of set
  pub ended : ending ≡ Done

-- `lines`: which line of the input gives each instruction of the programs of its set, and which labels stand there
abbrev pub IsLinesOutput : List ℕ → List ℕ → CommandEnding → Type 0
IsLinesOutput input output ending = IsSetOutput form.Text (λ set. lines_text set.topo (token_lines input)) input output ending

-- `check`: whether the steps that the input says are lawful from the start of its set; of steps that are not, the place of the first that is not
-- enabled when its turn comes, and why
pub record IsCheckOutput (input output : List ℕ) (ending : CommandEnding) : Type 0 where
  pub set : ProgramSet
  pub meaning : SaysSteps input set
  pub answer : CheckAnswer
  pub exactly : (answer ≡ Lawful) ↔ IsLawful set meaning.steps
  pub says : IsAnswer set (start set) meaning.steps answer
  pub written : output ≡ check_line meaning.steps answer
  pub ended : ending ≡ check_ending answer

-- `debug`: what the script shows that the input says, all of whose lines go to steps that are there
pub record IsDebugOutput (input output : List ℕ) (ending : CommandEnding) : Type 0 where
  pub set : ProgramSet
  pub meaning : SaysScript input set
  pub within : past_end (labels_before set input meaning.place) set (lines_behind input meaning.place) ≡ None
  pub written : output ≡ script_text (labels_before set input meaning.place) set (lines_behind input meaning.place)
  pub ended : ending ≡ Done

-- what the lines before this one show; it is the first that names more steps of a processor than there are
pub record IsPastOutput (input output : List ℕ) (line : ℕ) : Type 0 where
  pub set : ProgramSet
  pub meaning : SaysScript input set
  pub at : ℕ
  pub past : past_end (labels_before set input meaning.place) set (lines_behind input meaning.place) ≡ Some at
  pub line_is : line ≡ meaning.place + 1 + at + 1
  pub written : output ≡ script_text (labels_before set input meaning.place) set (lines_behind input meaning.place)

-- `work n`: the line of a lawful list of steps of the generated set of n words that comes to rest, and so of each such
-- list
pub record IsWorkOutput (n : ℕ) (output : List ℕ) (ending : CommandEnding) : Type 0 where
  pub steps : List ℕ
  pub run : IsRun (generated n) steps
  pub written : output ≡ summary n steps
  pub ended : ending ≡ Rested (ending_of (outcome (generated n) (end (generated n) steps)))
  pub alike : (others : List ℕ) → IsRun (generated n) others → summary n others ≡ summary n steps

-- `--help` and `--version`: the text
pub record IsTextOutput (text : FixedText) (output : List ℕ) (ending : CommandEnding) : Type 0 where
  pub written : output ≡ fixed_text_of text
  pub ended : ending ≡ Done

-- A command's output for an input, and how it ended. `asm` owes the image, in version 2, of the set that its text
-- means, and `list` the listing of the set whose image it reads. `plan` owes that of the planned set, and `flow`
-- that of the compiled one or of one that is scheduled, for the rows of its text or for rows without end. A command
-- that reads nothing has the empty input.
abbrev pub Owes : Command → List ℕ → List ℕ → CommandEnding → Type 0
Owes (Alone (Fixed text)) input output ending = IsTextOutput text output ending
Owes (Alone (Work n workers)) input output ending = IsWorkOutput n output ending
Owes (Reads (reading.Run options)) input output ending = IsRunOutput options.output options.form input output ending
Owes (Reads (reading.Cycles options)) input output ending = IsCyclesOutput options input output ending
Owes (Reads (reading.Path form)) input output ending = IsPathOutput form input output ending
Owes (Reads (reading.Trace options)) input output ending = IsTraceOutput options input output ending
Owes (Reads (reading.Depths form)) input output ending = IsDepthsOutput form input output ending
Owes (Reads (reading.Steady form)) input output ending = IsSteadyOutput form input output ending
Owes (Reads (reading.Names form)) input output ending = IsSetOutput (whole form) names_text input output ending
Owes (Reads reading.Lines) input output ending = IsLinesOutput input output ending
Owes (Reads reading.Asm) input output ending = IsSetOutput form.Text image input output ending
Owes (Reads reading.List) input output ending = IsSetOutput form.Image listing input output ending
Owes (Reads reading.Plan) input output ending = IsSetOutput form.Plan listing input output ending
Owes (Reads (reading.Flow Compiled)) input output ending = IsSetOutput form.Flow listing input output ending
Owes (Reads (reading.Flow Scheduled)) input output ending = IsScheduleOutput input output ending
Owes (Reads (reading.Flow Endless)) input output ending = IsEndlessOutput input output ending
Owes (Reads reading.Check) input output ending = IsCheckOutput input output ending
Owes (Reads reading.Debug) input output ending = IsDebugOutput input output ending
Owes (Reads reading.Prove) input output ending = IsProveOutput input output ending
Owes (Reads reading.ProveLive) input output ending = IsLiveOutput input output ending

-- a command puts this output, and then tells that this line goes past the end: `debug` alone does so
abbrev pub GoesPast : Command → List ℕ → List ℕ → ℕ → Type 0
GoesPast (Reads reading.Debug) input output line = IsPastOutput input output line
GoesPast _ input output line = ⊥

-- what is put whole where nothing fails: the output that is owed, or that of the lines before the one that goes past the end; and nothing for
-- an input that is refused
abbrev pub IsDue : Command → List ℕ → List ℕ → Type 0
IsDue command input output = ((ending : CommandEnding) × Owes command input output ending) ⊎ ((line : ℕ) × GoesPast command input output line)

-- A command refuses an input that has a fault, and tells it: a text at the line of its least fault, an image at the
-- offset of its first. `flow --schedule` may also refuse a flow or a stream whose compiled set is not made. With
-- `--endless` it refuses each text that has a fault as that of a stream.
abbrev pub Refuses : Command → List ℕ → Refusal → Type 0
Refuses (Alone command) input refusal = ⊥
Refuses (Reads (reading.Flow Endless)) input refusal = HasStreamFault input refusal
Refuses (Reads command) input refusal = HasFault (form_of command) input refusal

-- a command that reads has to refuse an input that has this fault
abbrev pub IsRefused : ReadingCommand → List ℕ → Refusal → Type 0
IsRefused (reading.Flow Scheduled) input refusal = HasTextFault (is_stream_text input) input refusal
IsRefused (reading.Flow Endless) input refusal = HasStreamFault input refusal
IsRefused command input refusal = HasFault (form_of command) input refusal

-- an input that a command takes: it means a set, and a script goes nowhere past the end; or it means a stream, for rows without end
abbrev pub IsValid : ReadingCommand → List ℕ → Type 0
IsValid reading.Debug input =
    (set : ProgramSet) × (said : SaysScript input set) × (past_end (labels_before set input said.place) set (lines_behind input said.place) ≡ None)
IsValid (reading.Flow Endless) input = (fed : FedStream) × StreamMeaning input fed
IsValid command input = (set : ProgramSet) × Means (form_of command) input set

-- a lawful command with a valid input
pub record Accepts (command : ReadingCommand) (input : List ℕ) : Type 0 where
  pub short : length input ≤ limit
  pub valid : IsValid command input
