-- What the ends of a run say of a claim.
use Rattle.std.proofs.Common.{◌≡◌, ℕ, true, cond, List, Option, Some, None, Ok, Err, refl, sym, ap, ◌∙◌, subst, eq-eqb, length}
use Rattle.std.specs.Prelude.{Result, IfOk}
use Rattle.std.proofs.lemmas.Bool.{lt-leb, ne_eqb}
use Rattle.raw_grid.specs.declared.parts.ProcId.{ProcId}
use Rattle.raw_model.specs.Program.{ProgramSet, IsSet}
use Rattle.raw_model.specs.Rest.{IsQuiet}
use Rattle.raw_model.specs.Bounds.{all_words}
use Rattle.raw_flow.specs.Flows.{Dataflow, IsFlow, inputs_in}
use Rattle.raw_flow.specs.declared.node.Node.TheVariants.{Const}
use Rattle.raw_term.specs.declared.limits.TheConstants.{MAX_TERMS}
use Rattle.raw_term.specs.declared.verdict.Verdict.{Verdict}
use Rattle.raw_term.specs.declared.verdict.Verdict.TheVariants.{Proved, Hangs, TooMany, Inputs}
use Rattle.raw_term.specs.Terms.{is_within, Overflows}
use Rattle.raw_term.specs.TermMachine.{TermState, numbered, term_start}
use Rattle.raw_term.specs.declared.place.Place.{Place}
use Rattle.raw_term.specs.Claims.{MeetsAt}
use Rattle.raw_term.specs.Verdicts.{Break, OnInput, OnTable, TermRun, ran, first_run, begun, HasEnded, IsOfRest, IsOfRun, IsVerdictOfRun, IsVerdictWhere, IsVerdict, EachProvedIsMet}
use Rattle.raw_prove.specs.declared.machine.Machine.{Machine}
use Rattle.raw_prove.specs.declared.running.End.{End}
use Rattle.raw_prove.specs.declared.proof.Proof.{Proof}
use Rattle.raw_prove.specs.declared.running.End.TheVariants as run
use Rattle.raw_prove.specs.Units.{state_of}
use Rattle.raw_prove.specs.Runs.{IsReached, RestsAt, Breaks, IsEnd, EndsAs}

-- the counts of inputs and words
pub no_run : (set : ProgramSet) (flow : Dataflow) (places : List Place) (inputs words : ℕ) → inputs ≡ inputs_in flow.nodes → words ≡ all_words set → (inputs ≡ words → ⊥) → IsVerdict set flow places (Inputs inputs words)
no_run set flow places inputs words ei ew other =
    subst (λ b. IsVerdictWhere b set flow places (Inputs inputs words)) (sym (ne_eqb (inputs_in flow.nodes) (all_words set) (λ e. other (ei ∙ e ∙ sym ew))))
    (λ k. Inputs (ei k) (ew k))

pub by_run : (set : ProgramSet) (flow : Dataflow) (places : List Place) (inputs words : ℕ) (verdict : Verdict) → inputs ≡ inputs_in flow.nodes → words ≡ all_words set → inputs ≡ words → IsVerdictOfRun set flow places verdict → IsVerdict set flow places verdict
by_run set flow places inputs words verdict ei ew same run =
    subst (λ b. IsVerdictWhere b set flow places verdict) (sym (eq-eqb (inputs_in flow.nodes) (all_words set) (sym ei ∙ same ∙ ew))) run

-- a run that breaks off
broke_so : (set : ProgramSet) (flow : Dataflow) (places : List Place) (n : ℕ) (verdict : Verdict) (q : Break) → (ran (numbered set) n (first_run set)).broken ≡ Some q
    → IsOfRun (numbered set) flow places (ran (numbered set) n (first_run set)) verdict (Some q) → IsVerdictOfRun set flow places verdict
broke_so set flow places n verdict q e h =
    let r : TermRun = ran (numbered set) n (first_run set) in
    record {
      sweeps = n;
      ended = subst (λ (o : Option Break). HasEnded (numbered set) r o) (sym e) tt;
      is = subst (λ (o : Option Break). IsOfRun (numbered set) flow places r verdict o) (sym e) h;
    }

pub hangs_so : (set : ProgramSet) (flow : Dataflow) (places : List Place) (step : ℕ) (p : ProcId) → Breaks set (run.Hangs step p) → IsVerdictOfRun set flow places (Hangs step p)
hangs_so set flow places step p breaks = broke_so set flow places breaks.sweeps (Hangs step p) (OnInput p.0) breaks.as_said.0 (ap (λ k. Hangs k p) (sym breaks.as_said.1))

pub start_over : (set : ProgramSet) (flow : Dataflow) (places : List Place) → Overflows (term_start set).nodes → IsVerdictOfRun set flow places TooMany
start_over set flow places over =
    broke_so set flow places 0 TooMany OnTable (ap (λ b. cond b None (Some OnTable)) (lt-leb (length (term_start set).nodes) MAX_TERMS over)) refl

-- a run that rests
pub rests_so : (set : ProgramSet) (flow : Dataflow) (places : List Place) (m : Machine) (verdict : Verdict) → RestsAt set m → IsOfRest (numbered set) flow places (state_of m) verdict → IsVerdictOfRun set flow places verdict
rests_so set flow places m verdict rests is = record {
  sweeps = rests.sweeps;
  ended = subst (λ (r : TermRun). HasEnded (numbered set) r r.broken) (sym rests.there) rests.quiet;
  is = subst (λ (r : TermRun). IsOfRun (numbered set) flow places r verdict r.broken) (sym rests.there) is;
}

-- the same, where there are as many inputs as words
pub result_so : (set : ProgramSet) (flow : Dataflow) (places : List Place) (m : Machine) (inputs words : ℕ) (verdict : Verdict) → inputs ≡ inputs_in flow.nodes → words ≡ all_words set → inputs ≡ words → RestsAt set m
    → IsOfRest (numbered set) flow places (state_of m) verdict → IsVerdict set flow places verdict
result_so set flow places m inputs words verdict ei ew same rests is = by_run set flow places inputs words verdict ei ew same (rests_so set flow places m verdict rests is)

-- the run at the start
pub reached_first : (set : ProgramSet) (m : Machine) → state_of m ≡ term_start set → is_within (state_of m).nodes ≡ true → IsReached set m 0
reached_first set m start within = record {
  sweeps = 0;
  there = ap (λ (s : TermState). begun s) (sym start) ∙ ap (λ b. record { at = state_of m; steps = 0; broken = cond b None (Some OnTable) }) within;
}

-- a claim that is proved is met
pub met_so : {E : Type 0} (set : ProgramSet) (flow : Dataflow) (places : List Place) (result : Result Proof E) → EachProvedIsMet → IsSet set → IsFlow flow → IfOk result (λ proof. IsVerdict set flow places proof.verdict)
    → IfOk result (λ proof. (n : ℕ) → proof.verdict ≡ Proved n → MeetsAt set flow places)
met_so set flow places (Ok proof) law valid is_flow h = λ n e. law set flow places n valid (λ v word at. is_flow.nodes v (Const word) at) (subst (λ verdict. IsVerdict set flow places verdict) e h)
met_so set flow places (Err e) law valid is_flow h = tt

-- the run alone, whatever is claimed
pub ends_over : (set : ProgramSet) → Overflows (term_start set).nodes → EndsAs set run.TooMany
ends_over set over = record {
  sweeps = 0;
  as_said = ap (λ b. cond b None (Some OnTable)) (lt-leb (length (term_start set).nodes) MAX_TERMS over);
}

pub ends_as : (set : ProgramSet) (m : Machine) (end : End) → IsEnd set m end → EndsAs set end
ends_as set m run.Rests rests = (
  rests.sweeps,
  record {
    free = ap (λ (r : TermRun). r.broken) rests.there;
    rests = subst (λ (r : TermRun). IsQuiet (numbered set) r.at.state) (sym rests.there) rests.quiet;
  },
)
ends_as set m (run.Hangs step p) breaks = breaks
ends_as set m run.TooMany breaks = breaks

pub result_as : {E : Type 0} (set : ProgramSet) (m : Machine) (result : Result End E) → IfOk result (IsEnd set m) → IfOk result (EndsAs set)
result_as set m (Ok end) is = ends_as set m end is
result_as set m (Err e) is = tt
