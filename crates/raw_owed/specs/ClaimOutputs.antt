-- What `prove` owes for its input.
use Rattle.std.specs.Prelude.{◌≡◌, ℕ, Bool, true, false, nat_lt, Some, List, [], if◌then◌else◌}
use Rattle.raw_model.specs.Program.{ProgramSet}
use Rattle.raw_model.specs.Bounds.{all_words}
use Rattle.raw_text.specs.Lines.{written_lines}
use Rattle.raw_set_text.specs.Listing.{source_lines}
use Rattle.raw_flow.specs.Flows.{Dataflow}
use Rattle.raw_stream.specs.Streams.{Stream}
use Rattle.raw_stream_text.specs.Streams.{FedStream}
use Rattle.raw_term.specs.declared.place.Place.{Place}
use Rattle.raw_steady.specs.Count.{cycle_count}
use Rattle.raw_steady.specs.Steady.{KeepsCycles}
use Rattle.raw_refute.specs.declared.said.Answer.{Answer as ClaimAnswer}
use Rattle.raw_refute.specs.declared.said.Answer.TheVariants as claim_answer
use Rattle.raw_refute.specs.Answers.{IsAnswer as IsClaimAnswer}
use Rattle.raw_refute.specs.RowAnswers.{IsRowsAnswer}
use Rattle.raw_verdict.specs.Text.{answer_text}
use Rattle.raw_claim_text.specs.Texts.{ClaimMeaning}
use Rattle.raw_row_claim_text.specs.Texts.{RowMeaning}
use Rattle.raw_row_claim_text.specs.Seats.{IsSeatedAs}
use Rattle.raw_shell.specs.declared.ending.CommandEnding.{CommandEnding}
use Rattle.raw_owed.specs.declared.limits.TheConstants.{MAX_TOLD_WORDS}
use Rattle.raw_owed.specs.Proved.{prove_ending}
use Rattle.raw_inputs.specs.Claimed.{says_rows}

-- What is said of the claim, of the set and the flow that the input says; `left` is the set with the words of a refutation. The
-- set's own words come first: where they show that the claim is false, they are told. Where it is proved, the set meets it. With any
-- words in its sources, each lawful list of its steps that comes to rest ends done. At the places of the claim, or at the sinks where it
-- names none, are then the values of its outs for these words, and each sink has as many words as are claimed of it. The clock of the set
-- has as many cycles as the line tells. Where it is refuted, each lawful list that comes to rest with the words that are told ends as is
-- told, and none ends right
pub record IsFlowAnswered (input output : List ℕ) (ending : CommandEnding) : Type 0 where
  pub set : ProgramSet
  pub flow : Dataflow
  pub places : List Place
  pub meaning : ClaimMeaning input set flow places
  pub answer : ClaimAnswer
  pub left : ProgramSet
  pub says : IsClaimAnswer set flow places left answer
  pub takes : (outs : ℕ) → answer ≡ claim_answer.Proved outs → KeepsCycles set (cycle_count set)
  pub written : output ≡ answer_text (Some (cycle_count set)) (written_lines (source_lines left)) answer
  pub ended : ending ≡ prove_ending answer

-- the lines of the words with which a set is left, that are told of a claim of rows: none where they are more than 4,096
abbrev pub told_words : ProgramSet → List ℕ
told_words left = if nat_lt MAX_TOLD_WORDS (all_words left) then [] else written_lines (source_lines left)

-- What is said of the claim, of the set and the stream that the input says. `seated` is the stream with the ports of the set that stand at its places,
-- and `order` has those of its sinks. Where it is proved, the set meets the flow that the stream is when it is unrolled. Each sink has received what
-- it is due of all rows, row by row: with any words in its sources, in each lawful list of its steps that comes to rest, which ends done. Where it is
-- proved by rows, the line tells no cycles. Where it is proved by one run over all rows, the clock of the set has as many cycles as the line tells.
pub record IsRowsAnswered (input output : List ℕ) (ending : CommandEnding) : Type 0 where
  pub set : ProgramSet
  pub fed : FedStream
  pub meaning : RowMeaning input set fed
  pub seated : Stream
  pub order : List ℕ
  pub seats : IsSeatedAs set.topo fed.stream seated order
  pub answer : ClaimAnswer
  pub left : ProgramSet
  pub says : IsRowsAnswer set seated order left answer
  pub takes : (outs : ℕ) → answer ≡ claim_answer.Proved outs → KeepsCycles set (cycle_count set)
  pub written : output ≡ answer_text (Some (cycle_count set)) (told_words left) answer
  pub ended : ending ≡ prove_ending answer

-- what is said of the claim that the input says, of a stream where that is true, and else of a flow
abbrev pub IsProveOutputBy : Bool → List ℕ → List ℕ → CommandEnding → Type 0
IsProveOutputBy false input output ending = IsFlowAnswered input output ending
IsProveOutputBy true input output ending = IsRowsAnswered input output ending

-- `prove`: what is said of the claim that the input says
abbrev pub IsProveOutput : List ℕ → List ℕ → CommandEnding → Type 0
IsProveOutput input output ending = IsProveOutputBy (says_rows input) input output ending
