-- What `prove --live` owes for its input.
use Rattle.std.specs.Prelude.{◌≡◌, ℕ, Bool, true, false, Option, Some, None, List, map, slice_index}
use Rattle.raw_model.specs.Program.{ProgramSet}
use Rattle.raw_flow.specs.Flows.{Dataflow}
use Rattle.raw_stream.specs.Streams.{Stream}
use Rattle.raw_stream_text.specs.Streams.{FedStream}
use Rattle.raw_term.specs.declared.place.Place.{Place}
use Rattle.raw_cut.specs.Live.{IsMetFrom}
use Rattle.raw_cut.specs.declared.extent.Extent.{Extent}
use Rattle.raw_verdict.specs.LiveText.{lacks_text, proved_rows_line, no_cut_line}
use Rattle.raw_claim_text.specs.Texts.{ClaimMeaning}
use Rattle.raw_row_claim_text.specs.Texts.{RowMeaning}
use Rattle.raw_row_claim_text.specs.Seats.{IsSeatedAs}
use Rattle.raw_shell.specs.declared.ending.CommandEnding.{CommandEnding}
use Rattle.raw_shell.specs.declared.ending.CommandEnding.TheVariants.{Done, Unproved}
use Rattle.raw_inputs.specs.Claimed.{says_rows}

-- where numbers of rows are told, the set meets the stream for each of them, but for the last words of each port
abbrev pub IsLiveAnswer : ProgramSet → Stream → Option Extent → Type 0
IsLiveAnswer set s None = Unit {0}
IsLiveAnswer set s (Some extent) = IsMetFrom set s extent.least extent.most extent.lacks.items

-- the line of it: of what each sink of the claim lacks, in their order
abbrev pub live_text : List ℕ → Option Extent → List ℕ
live_text order None = no_cut_line
live_text order (Some extent) = proved_rows_line extent.least extent.most (lacks_text (map (slice_index extent.lacks.items) order))

abbrev pub live_ending : Option Extent → CommandEnding
live_ending None = Unproved
live_ending (Some extent) = Done

-- What is said of the set and the stream that the input says; `seated` is the stream with the ports of the set that stand at its places, `order`
-- has those of its sinks. Where it is proved for some numbers of rows: with any words, fed with so many rows of them, some list of its steps
-- comes to rest, and each that does leaves in each sink what it is due of all rows, in order, but for the last words, as many as are told. The
-- number of rows that the claim says, the words of the set and those of the claim have no part in it
pub record IsRowsProvedLive (input output : List ℕ) (ending : CommandEnding) : Type 0 where
  pub set : ProgramSet
  pub fed : FedStream
  pub meaning : RowMeaning input set fed
  pub seated : Stream
  pub order : List ℕ
  pub seats : IsSeatedAs set.topo fed.stream seated order
  pub answer : Option Extent
  pub says : IsLiveAnswer set seated answer
  pub written : output ≡ live_text order answer
  pub ended : ending ≡ live_ending answer

-- of a claim of a flow, which has no rows, nothing is proved so
pub record IsNotProvedLive (input output : List ℕ) (ending : CommandEnding) : Type 0 where
  pub set : ProgramSet
  pub flow : Dataflow
  pub places : List Place
  pub meaning : ClaimMeaning input set flow places
  pub written : output ≡ no_cut_line
  pub ended : ending ≡ Unproved

-- what is said of the claim that the input says, of a stream where that is true; of a flow nothing is proved
abbrev pub IsLiveOutputBy : Bool → List ℕ → List ℕ → CommandEnding → Type 0
IsLiveOutputBy false input output ending = IsNotProvedLive input output ending
IsLiveOutputBy true input output ending = IsRowsProvedLive input output ending

-- `prove --live`: for which numbers of rows the claim that the input says is proved
abbrev pub IsLiveOutput : List ℕ → List ℕ → CommandEnding → Type 0
IsLiveOutput input output ending = IsLiveOutputBy (says_rows input) input output ending
