-- What is said of a claim: that it is proved, that words refute it, or neither.
use Rattle.std.specs.Prelude.{◌≡◌, ◌⊎◌, ℕ, Option, Some, None, List}
use Rattle.std.specs.List.{flat_map}
use Rattle.raw_model.specs.Program.{ProgramSet, PortProgram, IsSet}
use Rattle.raw_model.specs.Bounds.{all_words}
use Rattle.raw_model.specs.Fed.{fed}
use Rattle.raw_flow.specs.Flows.{Dataflow, inputs_in}
use Rattle.raw_term.specs.declared.verdict.Verdict.{Verdict}
use Rattle.raw_term.specs.declared.verdict.Verdict.TheVariants.{Proved}
use Rattle.raw_term.specs.declared.place.Place.{Place}
use Rattle.raw_term.specs.Claims.{AreWords, MeetsAt}
use Rattle.raw_term.specs.Verdicts.{IsVerdict}
use Rattle.raw_term.specs.Refuted.{IsRefutedBy}
use Rattle.raw_refute.specs.declared.fault.Fault.{Fault}
use Rattle.raw_refute.specs.declared.said.Answer.{Answer}
use Rattle.raw_refute.specs.declared.said.Answer.TheVariants as answer
use Rattle.raw_refute.specs.Judged.{IsJudged}

-- the words of all sources of a set, those of the first port first
abbrev pub own_words : ProgramSet → List ℕ
own_words set = flat_map (λ (port : PortProgram). port.words) set.ports

-- the set's own words do not show that the claim is false
abbrev pub OwnWordsAreRight : ProgramSet → Dataflow → List Place → Type 0
OwnWordsAreRight set flow places = inputs_in flow.nodes ≡ all_words set → IsJudged set flow places (own_words set) None

-- these are the set's own words, as many as the claim has inputs, and they do not show that it is false
pub record AreRight (set : ProgramSet) (flow : Dataflow) (places : List Place) (own : List ℕ) : Type 0 where
  pub are : own ≡ own_words set
  pub counts : inputs_in flow.nodes ≡ all_words set
  pub right : OwnWordsAreRight set flow places

-- a claim is proved, and the set stays as it is
pub record IsProof (set : ProgramSet) (flow : Dataflow) (places : List Place) (left : ProgramSet) (outs : ℕ) : Type 0 where
  pub verdict : IsVerdict set flow places (Proved outs)
  pub meets : MeetsAt set flow places
  pub own : OwnWordsAreRight set flow places
  pub stays : left ≡ set

-- Words refute a claim of as many inputs as there are words: each run with them differs from it so. They are the set's own, or those do not
-- refute it. The set is left with them.
pub record IsRefutation (set : ProgramSet) (flow : Dataflow) (places : List Place) (left : ProgramSet) (words : List ℕ) (fault : Fault) : Type 0 where
  pub counts : inputs_in flow.nodes ≡ all_words set
  pub are : AreWords set words
  pub first : (words ≡ own_words set) ⊎ OwnWordsAreRight set flow places
  pub judged : IsJudged (fed set words) flow places words (Some fault)
  pub refuted : IsRefutedBy set flow places words
  pub fed_so : left ≡ fed set words

-- the run with terms does not prove the claim, the set's own words do not refute it, and no others were found
pub record IsOpen (set : ProgramSet) (flow : Dataflow) (places : List Place) (left : ProgramSet) (verdict : Verdict) : Type 0 where
  pub verdict_is : IsVerdict set flow places verdict
  pub unproved : (outs : ℕ) → ¬ (verdict ≡ Proved outs)
  pub own : OwnWordsAreRight set flow places
  pub stays : left ≡ set

-- what is said of a claim, and the set that is left; a claim that is no stream has no rows to be proved by
abbrev pub IsAnswer : ProgramSet → Dataflow → List Place → ProgramSet → Answer → Type 0
IsAnswer set flow places left (answer.Proved outs) = IsProof set flow places left outs
IsAnswer set flow places left (answer.ProvedByRows outs) = ⊥
IsAnswer set flow places left (answer.Refuted words fault) = IsRefutation set flow places left words.items fault
IsAnswer set flow places left (answer.Unproved verdict) = IsOpen set flow places left verdict

-- a run with other words shows this: words refute the claim, or the set stays as it is
abbrev pub IsTried : ProgramSet → Dataflow → List Place → ProgramSet → Option Answer → Type 0
IsTried set flow places left None = left ≡ set
IsTried set flow places left (Some (answer.Refuted words fault)) = IsRefutation set flow places left words.items fault
IsTried set flow places left (Some _) = ⊥
