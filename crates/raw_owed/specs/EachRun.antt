-- What a lawful list of steps that comes to rest has to do with each other lawful list of its set.
use Rattle.std.specs.Prelude.{◌≡◌, ℕ, ◌<◌, ◌≤◌, true, List, slice_get}
use Rattle.raw_network.specs.Network.{count_of}
use Rattle.raw_network.specs.Laws.{IsPrefix}
use Rattle.raw_model.specs.Program.{ProgramSet, IsSet}
use Rattle.raw_model.specs.Start.{MachineState, start}
use Rattle.raw_model.specs.Rest.{end, stopped, passed_on, kth_local, IsLawful, IsRun}
use Rattle.raw_model.specs.Laws.{events_at}
use Rattle.raw_model.specs.Outcomes.{Outcome, outcome, IsOutcome, chain_end}
use Rattle.raw_model.specs.Outcomes.Outcome.{Stuck}
use Rattle.raw_report.specs.Report.{report}
use Rattle.raw_picture.specs.Picture.{picture}
use Rattle.raw_model.specs.MissStreams.{AreAlikeButMisses}
use Rattle.raw_owed.specs.MissStreams.{DoesTheSame}

-- two lists of steps end in the same state, have the same report and the same picture, and send the same values on each wire
pub record AreAlike (set : ProgramSet) (others steps : List ℕ) : Type 0 where
  pub ends : end set others ≡ end set steps
  pub reports : report set others ≡ report set steps
  pub pictures : picture set others ≡ picture set steps
  pub passed : (w : ℕ) → passed_on set (start set) others w ≡ passed_on set (start set) steps w

-- A list of steps goes no further than another: no processor has more steps in it. The k-th step of each, at k - 1,
-- takes, sends and touches the same in both, and the local state right after it is the same. What passes on each
-- wire begins what passes there in the other.
pub record GoesNoFurther (set : ProgramSet) (others steps : List ℕ) : Type 0 where
  pub at_most_as_often : (p : ℕ) → count_of p others ≤ count_of p steps
  pub same_locals : (p k : ℕ) → k ≤ count_of p others
      → kth_local set (start set) others p k ≡ kth_local set (start set) steps p k
  pub same_events : (p i : ℕ) → i < count_of p others
      → slice_get (events_at set (start set) others p) i ≡ slice_get (events_at set (start set) steps p) i
  pub prefix : (w : ℕ) → IsPrefix (passed_on set (start set) others w) (passed_on set (start set) steps w)

-- of a state that came to rest stuck: the chain of waits that is reported ends in a processor that is stopped
abbrev pub EndsStopped : ProgramSet → MachineState → Outcome → Type 0
EndsStopped set s (Stuck p) = stopped set s (chain_end set s p) ≡ true
EndsStopped set s _ = Unit {0}

-- A lawful list of steps that comes to rest stands for all. Its outcome is true of the state that the list leads to: of a
-- deadlock, these processors are the cycle of waits with the least processor on any cycle, and of each other outcome there
-- is no cycle. Where it is stuck, the chain of waits that is reported ends in a processor that is stopped. Each other such
-- list is alike, and each lawful list goes no further. A set that differs in miss streams alone has the same lawful lists,
-- and reports that are equal but for the turns.
pub record StandsForAll (set : ProgramSet) (steps : List ℕ) : Type 0 where
  pub says : IsOutcome set (end set steps) (outcome set (end set steps))
  pub stops : EndsStopped set (end set steps) (outcome set (end set steps))
  pub alike : (others : List ℕ) → IsRun set others → AreAlike set others steps
  pub part : (others : List ℕ) → IsLawful set others → GoesNoFurther set others steps
  pub delays : (other : ProgramSet) (list : List ℕ) → AreAlikeButMisses set other → DoesTheSame set other list

-- each lawful list of steps of a set that comes to rest stands for all
abbrev pub EachRunStandsForAll : Type 0
EachRunStandsForAll = (set : ProgramSet) (steps : List ℕ) → IsSet set → IsRun set steps → StandsForAll set steps
