-- What each call of the program promises. The headline is about `run`; one record has all else.
use Rattle.std.specs.Prelude.{ℕ, Option}
use Rattle.raw_set_text.specs.Listing.{listing}
use Rattle.raw_image.specs.Image.{image}
use Rattle.raw_names.specs.Names.{names_text}
use Rattle.raw_command_line.specs.declared.arguments.SetForm.{SetForm}
use Rattle.raw_inputs.specs.declared.form.InputForm.TheVariants as form
use Rattle.raw_shell.specs.declared.arguments.FixedText.{FixedText}
use Rattle.raw_command_line.specs.declared.arguments.StateOutput.TheVariants.{Report, Picture}
use Rattle.raw_command_line.specs.declared.arguments.CyclesOptions.{CyclesOptions}
use Rattle.raw_command_line.specs.declared.arguments.TraceOptions.{TraceOptions}
use Rattle.raw_command_line.specs.declared.arguments.RunOutput.{RunOutput}
use Rattle.raw_command_line.specs.declared.arguments.RunOutput.TheVariants.{State, History}
use Rattle.raw_command_line.specs.declared.arguments.FlowSet.TheVariants.{Compiled, Scheduled, Endless}
use Rattle.raw_command_line.specs.declared.arguments.AloneCommand.TheVariants.{Fixed, Work}
use Rattle.raw_command_line.specs.declared.arguments.ReadingCommand.TheVariants as reading
use Rattle.raw_owed.specs.Owed.{IsRunOutput, IsCyclesOutput, IsPathOutput, IsTraceOutput, IsDepthsOutput, IsSteadyOutput, IsSetOutput, IsLinesOutput, IsCheckOutput, IsDebugOutput, IsWorkOutput, IsTextOutput}
use Rattle.raw_owed.specs.ClaimOutputs.{IsProveOutput}
use Rattle.raw_owed.specs.LiveOutputs.{IsLiveOutput}
use Rattle.raw_owed.specs.Schedules.{IsScheduleOutput, IsEndlessOutput}
use Rattle.raw_inputs.specs.Inputs.{whole}
use Rattle.raw_commands.specs.Ended.{Ended}
use Rattle.raw_commands.specs.Call.{Call}
use Rattle.raw_commands.specs.Served.{Written, WrittenAlone, ReadsNothing, Complete, CompleteAlone, TooLongExactly, TooLongAlways, FaultExactly, PastExactly}
use Rattle.raw_commands.specs.Causes.{Causes}

-- A run of a set in any form, by however many workers: what is due of it stands once it has ended with the status of an outcome.
abbrev pub RunWritten : RunOutput → Call → Type 0
RunWritten output call =
    (form : SetForm) (workers : Option ℕ)
    → Written (reading.Run (record { output = output; form = form; workers = workers })) (IsRunOutput output form) call

-- The headline. After `run` and the status of an outcome, out has the report of a lawful list of steps of the set that the input
-- means. The list comes to rest, the status is that of its outcome, and it stands for every other lawful list.
abbrev pub Headline : Call → Type 0
Headline call = RunWritten (State Report) call

-- All else that a call promises.
pub record Promises (call : Call) : Type 0 where
  -- After `picture` and the status of an outcome, out has the picture of the state that a lawful list of steps leads to.
  pub picture : RunWritten (State Picture) call
  -- After `history` and the status of an outcome, out has the listing of the set, and then the history of a lawful list of steps
  -- that comes to rest.
  pub history : RunWritten History call
  -- After `cycles` and the status of an outcome, out has the text of the clock of the set: how many cycles it takes, and who waits
  -- in them. No schedule is sooner. With `--lost` it also has of each processor how many cycles it lost to roots of each kind; they
  -- add up to those in which it waited.
  pub cycles : (options : CyclesOptions) → Written (reading.Cycles options) (IsCyclesOutput options) call
  -- After `path` and the status of an outcome, out has the path of the set: one turn of each cycle, each of which needs the one
  -- before it. So no schedule has the last of them sooner; nor, where none waited for room, has one with deeper wires.
  pub path : (form : SetForm) → Written (reading.Path form) (IsPathOutput form) call
  -- After `trace` or `explore` and the status of an outcome, out has the trace of the clock of the set, in the cycles that are
  -- asked for, or the page that shows it.
  pub trace : (options : TraceOptions) → Written (reading.Trace options) (IsTraceOutput options) call
  -- After `depths` and status 0, out has how the set comes to rest at each depth, after how many cycles, and what is so of all.
  -- Where none waits for room at rest, no greater depth has more cycles.
  pub depths : (form : SetForm) → Written (reading.Depths form) (IsDepthsOutput form) call
  -- After `steady` and status 0 or 12, out has the line that says whether the clock of the set is the same with any words in its
  -- sources, as one run with terms shows. Where it is steady, each processor has the same turn in each cycle with all words.
  pub steady : (form : SetForm) → Written (reading.Steady form) (IsSteadyOutput form) call
  -- After `names` and status 0, out has the names of the processors and wires of the set.
  pub names : (form : SetForm) → Written (reading.Names form) (IsSetOutput (whole form) names_text) call
  -- After `lines` and status 0, out has which line of the text gives each instruction of the programs, and which labels stand there.
  pub lines : Written reading.Lines IsLinesOutput call
  -- After `asm` and status 0, out has the image, in version 2, of the set that the text means.
  pub asm : Written reading.Asm (IsSetOutput form.Text image) call
  -- After `list` and status 0, out has the listing of the set whose image the input is.
  pub list : Written reading.List (IsSetOutput form.Image listing) call
  -- After `plan` and status 0, out has the listing of the planned set of the plan that the text means.
  pub plan : Written reading.Plan (IsSetOutput form.Plan listing) call
  -- After `flow` and status 0, out has the listing of the compiled set of the flow that the text means.
  pub flow : Written (reading.Flow Compiled) (IsSetOutput form.Flow listing) call
  -- After `flow --schedule` and status 0, out has the listing of a set for the flow or the stream that the text
  -- means, which meets the flow, or that which the stream is when it is unrolled. With any words in its sources,
  -- each lawful list of its steps that comes to rest ends done, and each sink has the values of its outs for these
  -- words. It takes no more cycles than the compiled set, where that is made. A set for a flow that is not the
  -- compiled set takes its cycles with any words.
  pub schedule : Written (reading.Flow Scheduled) IsScheduleOutput call
  -- After `flow --schedule --endless` and status 0, out has the listing of a set with the grid and the ports of the
  -- stream that the text means, without words, which meets the stream row by row. So it is for all numbers of rows
  -- from one number on up to more than twice as many. Fed with so many rows of any words, some list of its steps
  -- comes to rest. Each that does leaves in each sink what it is due of all these rows, in order, but for some last
  -- words, no more than the least of these numbers. After status 12 out says that none was proved.
  pub endless : Written (reading.Flow Endless) IsEndlessOutput call
  -- After `check` and status 0 or 11, out has the line that says whether the steps behind the set are lawful, exactly.
  pub check : Written reading.Check IsCheckOutput call
  -- After `debug` and status 0, out has what the script shows.
  pub debug : Written reading.Debug IsDebugOutput call
  -- After `prove` and status 0, 12 or 13, out has what is said of the claim behind the set, exactly. Where it is
  -- proved, the set meets it, and its clock has as many cycles as the line tells. With any words in its sources,
  -- each lawful list of its steps that comes to rest ends done. At the places of the claim, or where it names none
  -- at the sinks, are then the values of its outs for these words. Where words refute it, each lawful list of the
  -- set with these words that comes to rest ends as is told. They are the set's own where these refute it.
  pub prove : Written reading.Prove IsProveOutput call
  -- After `prove --live` and status 0, out has for which numbers of rows the set is proved against the stream
  -- behind it. Fed with so many rows of any words, some list of its steps comes to rest. Each that does leaves in
  -- each sink what it is due of all these rows, in order, but for the last words, as many as the line tells of the
  -- sink. After status 12 out says that no proof was found.
  pub prove_live : Written reading.ProveLive IsLiveOutput call
  -- A script that goes past the end is refused at the line that does, once what the lines before it show was put.
  pub past : PastExactly call
  -- After `work n` and the status of an outcome, out has the line of a lawful list of steps of the generated set of n words, and
  -- so of each such list.
  pub work : (n : ℕ) (workers : Option ℕ) → WrittenAlone (Work n workers) (IsWorkOutput n) call
  -- After `--help` or `--version` and status 0, out has its text.
  pub text : (text : FixedText) → WrittenAlone (Fixed text) (IsTextOutput text) call
  -- A command that reads nothing does not ask the source, whatever its status.
  pub reads_nothing : ReadsNothing call
  -- Each status has its cause, and says what was read and what then stands on out and err.
  pub causes : Causes call
  -- Too long an input gets status 10, and nothing else does.
  pub too_long : TooLongExactly call
  -- Where the source tells too many bytes and does not fail, the status is 10, or 9.
  pub too_long_always : TooLongAlways call
  -- A faulty input gets status 2, whatever out does.
  pub fault : FaultExactly call
  -- Lawful words and a valid input are served.
  pub complete : Complete call
  -- So is a command that reads nothing, which does not ask the source.
  pub complete_alone : CompleteAlone call
  -- The relation that all of these come from, which also holds for streams that tell no bytes.
  pub ended : Ended call
