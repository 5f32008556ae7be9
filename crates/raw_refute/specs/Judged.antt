-- What the rest of a run says of a claim.
use Rattle.std.specs.Prelude.{◌≡◌, ℕ, ◌+◌, ◌==◌, Option, Some, None, List, [], ◌∷◌, length, if◌then◌else◌}
use Rattle.raw_model.specs.Program.{ProgramSet}
use Rattle.raw_model.specs.Start.{MachineState}
use Rattle.raw_model.specs.Rest.{IsRun, end}
use Rattle.raw_model.specs.Waits.{waits_for}
use Rattle.raw_model.specs.Outcomes.{outcome}
use Rattle.raw_outcome.specs.declared.ends.Outcome.{Outcome}
use Rattle.raw_outcome.specs.declared.ends.Outcome.TheVariants as answer
use Rattle.raw_outcome.specs.Told.{told}
use Rattle.raw_flow.specs.Flows.{Dataflow, outs_of}
use Rattle.raw_term.specs.declared.place.Place.{Place}
use Rattle.raw_term.specs.Seen.{miscount, seen}
use Rattle.raw_refute.specs.declared.fault.Fault.{Fault}
use Rattle.raw_refute.specs.declared.fault.Fault.TheVariants.{Ends, Words, Out}

-- the first place, from k on, where two lists of words differ
abbrev pub first_other : ℕ → List ℕ → List ℕ → Option Fault
first_other k [] ys = None
first_other k (x ∷ xs) [] = None
first_other k (x ∷ xs) (y ∷ ys) = if x == y then first_other (k + 1) xs ys else Some (Out k x y)

-- what the words at the places of a claim say of its outs, where all is done
unfoldable pub of_done : List ℕ → List ℕ → Option Fault
of_done got outs = if length got == length outs then first_other 0 got outs else Some (Words (length got) (length outs))

-- the same, where a sink may have another number of words than are claimed of it
abbrev pub of_counts : Option (ℕ × ℕ) → List ℕ → List ℕ → Option Fault
of_counts None got outs = of_done got outs
of_counts (Some counts) got outs = Some (Words counts.0 counts.1)

-- what a rest says: how it came, the counts of a sink that differ, the words at the places, the values of the outs
abbrev pub judged : Outcome → Option (ℕ × ℕ) → List ℕ → List ℕ → Option Fault
judged answer.Done counts got outs = of_counts counts got outs
judged how counts got outs = Some (Ends how)

-- a state at rest says this of a claim of these words
pub record IsFaultOf (set : ProgramSet) (flow : Dataflow) (places : List Place) (words : List ℕ) (s : MachineState) (fault : Option Fault) : Type 0 where
  pub how : Outcome
  pub tells : told (waits_for set s) how ≡ outcome set s
  pub is : fault ≡ judged how (miscount places s.locals) (seen places s) (outs_of flow words)

-- some list of the set's steps comes to rest, and each that does says this of the claim
pub record IsJudged (set : ProgramSet) (flow : Dataflow) (places : List Place) (words : List ℕ) (fault : Option Fault) : Type 0 where
  pub some : (steps : List ℕ) × IsRun set steps
  pub each : (steps : List ℕ) → IsRun set steps → IsFaultOf set flow places words (end set steps) fault
