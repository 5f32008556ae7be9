-- What `flow --schedule` owes for the text of a flow and for that of a stream, and where it has to refuse it.
use Rattle.std.specs.Prelude.{◌≡◌, Bool, true, false, Option, Some, None, IfSome, List, ℕ}
use Rattle.raw_model.specs.Program.{ProgramSet}
use Rattle.raw_set_text.specs.Texts.{token_lines}
use Rattle.raw_set_text.specs.Listing.{listing}
use Rattle.raw_flow_text.specs.Flows.{FedFlow}
use Rattle.raw_flow_text.specs.Texts.{FlowMeaning, FlowFault}
use Rattle.raw_flow_text.specs.Texts as flow_text
use Rattle.raw_stream_text.specs.Streams.{FedStream}
use Rattle.raw_stream_text.specs.Meaning.{is_stream}
use Rattle.raw_stream_text.specs.Texts.{StreamMeaning}
use Rattle.raw_stream_text.specs.Texts as stream_text
use Rattle.raw_choice.specs.Choice.{IsChoice}
use Rattle.raw_stream_choice.specs.Choice.{IsStreamChoice}
use Rattle.raw_stream_choice.specs.Endless.{IsEndlessChoice}
use Rattle.raw_verdict.specs.LiveText.{no_cut_line}
use Rattle.raw_inputs.specs.declared.flaw.LineKind.TheVariants.{Set}
use Rattle.raw_inputs.specs.declared.flaw.Refusal.{Refusal}
use Rattle.raw_inputs.specs.declared.flaw.Refusal.TheVariants.{Line}
use Rattle.raw_shell.specs.declared.ending.CommandEnding.{CommandEnding}
use Rattle.raw_shell.specs.declared.ending.CommandEnding.TheVariants.{Done, Unproved}
use Rattle.raw_inputs.specs.Inputs.{HasStreamFault}

-- the text is that of a stream: its second line with tokens says how many rows there are
abbrev pub is_stream_text : List ℕ → Bool
is_stream_text input = is_stream (token_lines input)

-- a set for the flow that the input means. It has the grid, the ports and the words of the compiled set, and it meets the flow: with any words
-- in the place of those, each lawful list of its steps that comes to rest ends done, and the sink has the values of the outs for these words.
-- It takes no more cycles than the compiled set, where that is made; where it is not the compiled set, it has its cycles with any words
pub record IsFlowSchedule (input : List ℕ) (set : ProgramSet) : Type 0 where
  pub fed : FedFlow
  pub meaning : FlowMeaning input fed
  pub choice : IsChoice fed.flow fed.inputs set

-- a set for the stream that the input means. It has the grid, the ports and the words of the stream, and it meets the flow that the stream is
-- when it is unrolled: with any words in the place of those, each lawful list of its steps that comes to rest ends done, and each sink has, row
-- by row, the values of its outs for these words. It takes no more cycles than the compiled set, where that is made
pub record IsStreamSchedule (input : List ℕ) (set : ProgramSet) : Type 0 where
  pub fed : FedStream
  pub meaning : StreamMeaning input fed
  pub choice : IsStreamChoice fed.stream fed.words set

-- a set for the stream that the input means, where that is true, and else for the flow
abbrev pub IsSchedule : Bool → List ℕ → ProgramSet → Type 0
IsSchedule true input set = IsStreamSchedule input set
IsSchedule false input set = IsFlowSchedule input set

-- `flow --schedule`: the listing of such a set
pub record IsScheduleOutput (input output : List ℕ) (ending : CommandEnding) : Type 0 where
  pub set : ProgramSet
  pub schedule : IsSchedule (is_stream_text input) input set
  pub written : output ≡ listing set
  pub ended : ending ≡ Done

-- what is written of a set that was found for rows without end, or of none
abbrev pub endless_text : Option ProgramSet → List ℕ
endless_text None = no_cut_line
endless_text (Some set) = listing set

abbrev pub endless_ending : Option ProgramSet → CommandEnding
endless_ending None = Unproved
endless_ending (Some set) = Done

-- `flow --schedule --endless`: the listing of a set for the stream that the input means, or that none is proved. The set has the grid and the
-- ports of the stream, and it meets it row by row: for all numbers of rows from one number on up to a greater one, fed with so many rows of any
-- words, some lawful list of its steps comes to rest, and each that does leaves in each sink what it is due of all rows, in order, but for some
-- last words. The number of rows that the text says and the words that it feeds have no part in it
pub record IsEndlessOutput (input output : List ℕ) (ending : CommandEnding) : Type 0 where
  pub fed : FedStream
  pub meaning : StreamMeaning input fed
  pub found : Option ProgramSet
  pub set : IfSome found (IsEndlessChoice fed.stream)
  pub written : output ≡ endless_text found
  pub ended : ending ≡ endless_ending found

-- the fault of the text of a stream, or of a flow, at its line. An input with such a fault has to be refused; one whose compiled set is not made
-- may be, since another set may be found for it
abbrev pub HasTextFault : Bool → List ℕ → Refusal → Type 0
HasTextFault true input refusal = HasStreamFault input refusal
HasTextFault false input (Line line (Set kind)) = FlowFault input line kind
HasTextFault false input _ = ⊥

-- the text of a flow, and that of a stream, means one thing or has one fault
pub record IsOneFlow (input : List ℕ) : Type 0 where
  pub flow : flow_text.IsOneText input
  pub stream : stream_text.IsOneText input
