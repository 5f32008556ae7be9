-- Words that show that a set does not meet a claim.
use Rattle.std.specs.Prelude.{ℕ, List}
use Rattle.raw_model.specs.Program.{ProgramSet, IsSet}
use Rattle.raw_model.specs.Rest.{IsRun, end}
use Rattle.raw_model.specs.Fed.{fed}
use Rattle.raw_flow.specs.Flows.{Dataflow}
use Rattle.raw_term.specs.declared.place.Place.{Place}
use Rattle.raw_term.specs.Claims.{AreWords, IsRightAt, MeetsAt}

-- with these words in its sources it is a set, some list of its steps comes to rest, and none that does ends right
pub record IsRefutedBy (set : ProgramSet) (flow : Dataflow) (places : List Place) (inputs : List ℕ) : Type 0 where
  pub are : AreWords set inputs
  pub valid : IsSet (fed set inputs)
  pub some : (steps : List ℕ) × IsRun (fed set inputs) steps
  pub wrong : (steps : List ℕ) → IsRun (fed set inputs) steps → ¬ (IsRightAt set flow places inputs (end (fed set inputs) steps))

-- a set that words refute does not meet the claim
abbrev pub EachRefutedIsNotMet : Type 0
EachRefutedIsNotMet = (set : ProgramSet) (flow : Dataflow) (places : List Place) (inputs : List ℕ) → IsRefutedBy set flow places inputs → ¬ (MeetsAt set flow places)
