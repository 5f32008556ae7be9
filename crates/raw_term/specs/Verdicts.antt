-- The serial run with terms, and what it says of a claim.
use Rattle.std.specs.Prelude.{◌≡◌, ℕ, zero, suc, ◌+◌, ◌≤◌, Bool, true, false, ◌==◌, Option, Some, None, ◌⊎◌, List, [], ◌∷◌, length, map, slice_index, if◌then◌else◌}
use Rattle.std.specs.List.{range_with_len}
use Rattle.raw_grid.specs.Topology.{proc_count}
use Rattle.raw_model.specs.Program.{ProgramSet, IsSet}
use Rattle.raw_model.specs.Rest.{enabled, IsQuiet}
use Rattle.raw_model.specs.Start.{MachineState}
use Rattle.raw_model.specs.Rest.{IsRun, end}
use Rattle.raw_model.specs.Bounds.{most_steps, all_words}
use Rattle.raw_model.specs.Outcomes.{outcome}
use Rattle.raw_model.specs.Waits.{waits_for}
use Rattle.raw_outcome.specs.declared.ends.Outcome.{Outcome}
use Rattle.raw_outcome.specs.declared.ends.Outcome.TheVariants as answer
use Rattle.raw_outcome.specs.Told.{told}
use Rattle.raw_flow.specs.Flows.{Dataflow, inputs_in}
use Rattle.raw_term.specs.declared.verdict.Verdict.{Verdict}
use Rattle.raw_term.specs.declared.verdict.Verdict.TheVariants.{Proved, Hangs, TooMany, Rests, Inputs, Words, Differs}
use Rattle.raw_flow.specs.declared.node.Node.{Node}
use Rattle.raw_term.specs.Terms.{is_within}
use Rattle.raw_term.specs.Same.{is_same}
use Rattle.raw_term.specs.Classes.{AreClasses}
use Rattle.raw_term.specs.TermMachine.{TermState, term_step, term_start, numbered}
use Rattle.raw_term.specs.declared.place.Place.{Place}
use Rattle.raw_term.specs.Seen.{miscount, terms_seen}
use Rattle.raw_term.specs.Claims.{claim_terms, claimed, IsConstant, MeetsAt}

-- why a run goes no further: a processor hangs on an input, or there would be more terms than a table holds
pub data Break : Type 0 where
  OnInput : ℕ → Break
  OnTable : Break

-- a run: where it is, how many steps it has taken, and why it goes no further, once it does not
pub record TermRun : Type 0 where
  pub at : TermState
  pub steps : ℕ
  pub broken : Option Break

-- after a step of processor p
abbrev pub stepped : TermRun → ℕ → Option TermState → TermRun
stepped r p None = record r { broken = Some (OnInput p) }
stepped r p (Some s) =
    if is_within s.nodes then record { at = s; steps = r.steps + 1; broken = None } else record r { broken = Some OnTable }

-- a turn of processor p, which steps where it is enabled
abbrev pub turn_if : ProgramSet → TermRun → ℕ → Bool → TermRun
turn_if set r p true = stepped r p (term_step set r.at p)
turn_if set r p false = r

-- a run that goes no further stays where it is
abbrev pub turned : ProgramSet → TermRun → ℕ → Option Break → TermRun
turned set r p (Some why) = r
turned set r p None = turn_if set r p (enabled set r.at.state p)

-- turns of these processors
abbrev pub swept : ProgramSet → TermRun → List ℕ → TermRun
swept set r [] = r
swept set r (p ∷ ps) = swept set (turned set r p r.broken) ps

-- so many sweeps over all processors, by rising number: the serial order
abbrev pub ran : ProgramSet → ℕ → TermRun → TermRun
ran set zero r = r
ran set (suc n) r = ran set n (swept set r (range_with_len 0 (proc_count set.topo)))

-- a run that begins in a state; it goes no further where that has too many terms
abbrev pub begun : TermState → TermRun
begun s = record { at = s; steps = 0; broken = if is_within s.nodes then None else Some OnTable }

-- a run from the start
abbrev pub first_run : ProgramSet → TermRun
first_run set = begun (term_start set)

-- the run has ended: it goes no further, or no processor is enabled
abbrev pub HasEnded : ProgramSet → TermRun → Option Break → Type 0
HasEnded set r None = IsQuiet set r.at.state
HasEnded set r (Some why) = Unit {0}

-- the first place, from k on, where the terms of two lists are not seen to be the same, and `Proved` where there is none
abbrev pub compared : List Node → ℕ → List ℕ → List ℕ → Verdict
compared nodes k [] [] = Proved k
compared nodes k [] (y ∷ ys) = Differs k
compared nodes k (x ∷ xs) [] = Differs k
compared nodes k (x ∷ xs) (y ∷ ys) = if is_same nodes x y then compared nodes (k + 1) xs ys else Differs k

-- what the terms of the words at the places of a claim say of its outs
abbrev pub of_words : TermState → Dataflow → List ℕ → Verdict
of_words s flow got =
    if length got == length flow.outs
    then (if is_within (claim_terms s flow).nodes then compared (claim_terms s flow).nodes 0 got (claimed s flow) else TooMany)
    else Words (length got) (length flow.outs)

-- what is said of terms by their classes
pub record ByClasses (nodes : List Node) (xs ys : List ℕ) (verdict : Verdict) : Type 0 where
  pub table : List Node
  pub classes : List ℕ
  pub are : AreClasses nodes table classes
  pub each : length classes ≡ length nodes
  pub is : verdict ≡ compared table 0 (map (slice_index classes) xs) (map (slice_index classes) ys)

-- a term is not seen to be that of its out as they stand, and this is said by classes
abbrev pub IsOfClasses : TermState → Dataflow → List ℕ → Verdict → Type 0
IsOfClasses s flow got verdict = ((k : ℕ) × (of_words s flow got ≡ Differs k)) × ByClasses (claim_terms s flow).nodes got (claimed s flow) verdict

-- what the terms say as they stand, or by their classes
abbrev pub IsOfWords : TermState → Dataflow → List ℕ → Verdict → Type 0
IsOfWords s flow got verdict = (verdict ≡ of_words s flow got) ⊎ IsOfClasses s flow got verdict

-- what is said where a sink has another number of words than are claimed of it, or else by the words
abbrev pub IsOfCounts : Option (ℕ × ℕ) → TermState → Dataflow → List ℕ → Verdict → Type 0
IsOfCounts None s flow got verdict = IsOfWords s flow got verdict
IsOfCounts (Some counts) s flow got verdict = verdict ≡ Words counts.0 counts.1

-- a state that came to rest so says this of a claim at these places
abbrev pub IsSaid : Outcome → TermState → Dataflow → List Place → Verdict → Type 0
IsSaid answer.Done s flow places verdict = IsOfCounts (miscount places s.state.locals) s flow (terms_seen places s.state) verdict
IsSaid how s flow places verdict = verdict ≡ Rests how

-- a state at rest says this of a claim, where `how` tells how it came to rest
pub record IsOfRest (set : ProgramSet) (flow : Dataflow) (places : List Place) (s : TermState) (verdict : Verdict) : Type 0 where
  pub how : Outcome
  pub tells : told (waits_for set s.state) how ≡ outcome set s.state
  pub is : IsSaid how s flow places verdict

-- a run that has ended says this of a claim
abbrev pub IsOfRun : ProgramSet → Dataflow → List Place → TermRun → Verdict → Option Break → Type 0
IsOfRun set flow places r verdict None = IsOfRest set flow places r.at verdict
IsOfRun set flow places r verdict (Some (OnInput p)) = verdict ≡ Hangs r.steps (record { 0 = p })
IsOfRun set flow places r verdict (Some OnTable) = verdict ≡ TooMany

-- the serial run with terms ends, and says this of the claim
pub record IsVerdictOfRun (set : ProgramSet) (flow : Dataflow) (places : List Place) (verdict : Verdict) : Type 0 where
  pub sweeps : ℕ
  pub ended : HasEnded (numbered set) (ran (numbered set) sweeps (first_run set)) (ran (numbered set) sweeps (first_run set)).broken
  pub is : IsOfRun (numbered set) flow places (ran (numbered set) sweeps (first_run set)) verdict (ran (numbered set) sweeps (first_run set)).broken

-- where the claim has as many inputs as the sources have words, it is what the run says
abbrev pub IsVerdictWhere : Bool → ProgramSet → Dataflow → List Place → Verdict → Type 0
IsVerdictWhere true set flow places verdict = IsVerdictOfRun set flow places verdict
IsVerdictWhere false set flow places verdict = verdict ≡ Inputs (inputs_in flow.nodes) (all_words set)

-- what is said of a claim at these places
abbrev pub IsVerdict : ProgramSet → Dataflow → List Place → Verdict → Type 0
IsVerdict set flow places verdict = IsVerdictWhere (inputs_in flow.nodes == all_words set) set flow places verdict

-- a set of which a claim is proved meets it
abbrev pub EachProvedIsMet : Type 0
EachProvedIsMet =
    (set : ProgramSet) (flow : Dataflow) (places : List Place) (n : ℕ) → IsSet set → IsConstant flow → IsVerdict set flow places (Proved n)
    → MeetsAt set flow places

-- as long as a run with terms goes on, it has no more steps than a lawful list of the set's
abbrev pub EachRunIsShort : Type 0
EachRunIsShort =
    (set : ProgramSet) (n : ℕ) (ps : List ℕ) → IsSet set → (swept (numbered set) (ran (numbered set) n (first_run set)) ps).broken ≡ None
    → (swept (numbered set) (ran (numbered set) n (first_run set)) ps).steps ≤ most_steps set

-- a state with terms at rest came to rest as this one of the set
pub record RestsAs (set : ProgramSet) (s : TermState) (t : MachineState) : Type 0 where
  pub waits : waits_for (numbered set) s.state ≡ waits_for set t
  pub rests : outcome (numbered set) s.state ≡ outcome set t

-- a run with terms that comes to rest does so as each run of the set
abbrev pub EachRestIsAlike : Type 0
EachRestIsAlike =
    (set : ProgramSet) (n : ℕ) (steps : List ℕ) → IsSet set → IsRun set steps → (ran (numbered set) n (first_run set)).broken ≡ None
    → IsQuiet (numbered set) (ran (numbered set) n (first_run set)).at.state → RestsAs set (ran (numbered set) n (first_run set)).at (end set steps)
