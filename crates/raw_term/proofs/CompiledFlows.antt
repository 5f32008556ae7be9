-- The compiled set of a flow meets the flow: other words for its inputs make the compiled set of those, and its sinks are one, the last processor.
use Rattle.std.proofs.Common.{◌≡◌, ℕ, zero, suc, ◌+◌, ◌-◌, ◌*◌, ◌<◌, Bool, true, false, cond, List, [], ◌∷◌, ◌++◌, length, take, Some, refl, ap, sym, subst, ◌∙◌, arith}
use Rattle.std.specs.Prelude.{slice_get, nat_lt}
use Rattle.std.specs.List.{flat_map}
use Rattle.std.specs.Option.{option_map}
use Rattle.std.proofs.Math.Seq.{take-length}
use Rattle.std.proofs.lemmas.List.{append-nil}
use Rattle.raw_grid.specs.declared.parts.ProcKind.TheVariants as proc
use Rattle.raw_grid.specs.Topology.{kind_at, port_proc}
use Rattle.raw_model.specs.Program.{ProgramSet, IsSet}
use Rattle.raw_model.specs.Local.{Local, Tile, Switch, Source, Sink}
use Rattle.raw_model.specs.Start.{MachineState, Fits, IsFit, start}
use Rattle.raw_model.specs.Rest.{IsRun, IsLawfulFrom, end, end_from}
use Rattle.raw_model.specs.Outcomes.{outcome}
use Rattle.raw_model.specs.Serial.{serial}
use Rattle.raw_model.specs.Parts.{got_of, got_by, received}
use Rattle.raw_model.specs.Bounds.{all_words}
use Rattle.raw_flow.specs.Flows.{Dataflow, IsFlow, AreInputs}
use Rattle.raw_flow.specs.Compiled.{compiled_at, compiled, tiles_in, flow_topo}
use Rattle.raw_flow.specs.Right.{EachFlowIsRight, EachIsSet}
use Rattle.raw_codegen.specs.Limits.{AreShort}
use Rattle.raw_model.specs.Fed.{fed}
use Rattle.raw_term.specs.Claims.{AreWords, IsMetBy}
use Rattle.raw_term.specs.CompiledFlows.{EachCompiledMeets}

-- ---- the words of sinks

got_is : (l : Local) → got_by l ≡ got_of (Some l)
got_is (Tile l) = refl
got_is _ = refl

-- where none before the last has got a word, all words are those of the last
of_last : (n : ℕ) (locals : List Local) → length locals ≡ n + 1 → ((i : ℕ) (l : Local) → slice_get locals i ≡ Some l → i < n → got_by l ≡ [])
    → flat_map got_by locals ≡ got_of (slice_get locals n)
of_last zero [] many none = absurd (omega arith)
of_last zero (l ∷ []) many none = append-nil (got_by l) ∙ got_is l
of_last zero (l ∷ m ∷ locals) many none = absurd (omega arith)
of_last (suc n) [] many none = absurd (omega arith)
of_last (suc n) (l ∷ locals) many none =
    ap (λ words. words ++ flat_map got_by locals) (none 0 l refl (omega arith))
    ∙ of_last n locals (omega arith) (λ i m at less. none (suc i) m at (omega arith))

-- no processor before the last is a sink
no_sink : (flow : Dataflow) (p : ℕ) → p < 2 * tiles_in flow + 1 → kind_at (flow_topo flow) p ≡ Some proc.Sink → ⊥
no_sink flow p less is = by (nat_lt p (tiles_in flow)) (nat_lt p (2 * tiles_in flow)) refl refl is where
  by : (b c : Bool) → nat_lt p (tiles_in flow) ≡ b → nat_lt p (2 * tiles_in flow) ≡ c
      → cond b (Some proc.Tile) (cond c (Some proc.Switch) (option_map (λ place. port_proc place.kind) (slice_get (flow_topo flow).places (p - 2 * tiles_in flow)))) ≡ Some proc.Sink → ⊥
  by true c e f g = absurd (cc g)
  by false true e f g = absurd (cc g)
  by false false e f g =
      let first : p - 2 * tiles_in flow ≡ 0 = omega arith in
      let source : Some proc.Source ≡ Some proc.Sink = sym (ap (λ i. option_map (λ place. port_proc place.kind) (slice_get (flow_topo flow).places i)) first) ∙ g in
      absurd (cc source)

module _ (flow : Dataflow) (words : List ℕ) (s : MachineState) (fits : Fits (compiled flow words) s) where
  nothing_before : (p : ℕ) (l : Local) → slice_get s.locals p ≡ Some l → p < 2 * tiles_in flow + 1 → got_by l ≡ []
  unfolding compiled compiled_at
  nothing_before p l at less = by l (fits.locals p l at) where
    by : (l : Local) → IsFit (compiled flow words) p l → got_by l ≡ []
    by (Tile l) fit = refl
    by (Switch l) fit = refl
    by (Source l) fit = refl
    by (Sink l) fit = absurd (no_sink flow p less fit.0)

  received_at_sink : received s ≡ got_of (slice_get s.locals (2 * tiles_in flow + 1))
  unfolding compiled compiled_at
  received_at_sink = of_last (2 * tiles_in flow + 1) s.locals (fits.processors ∙ omega arith) nothing_before

-- ---- other words

fed_compiled : (flow : Dataflow) (inputs words : List ℕ) → length words ≡ length inputs → fed (compiled flow inputs) words ≡ compiled flow words
unfolding compiled compiled_at
fed_compiled flow inputs words same = ap (compiled flow) (ap (λ n. take n words) (sym same) ∙ take-length words)

count_of_words : (flow : Dataflow) (inputs : List ℕ) → all_words (compiled flow inputs) ≡ length inputs
unfolding compiled compiled_at
count_of_words flow inputs = omega arith

short_with : (flow : Dataflow) (inputs words : List ℕ) → AreShort (compiled flow inputs).tiles → AreShort (compiled flow words).tiles
unfolding compiled compiled_at
short_with flow inputs words short = short

-- ---- the law

-- what the law stands on: laws of flows and of machines
pub record Laws : Type 0 where
  pub right : EachFlowIsRight
  pub sets : EachIsSet
  pub run : (set : ProgramSet) → IsSet set → IsRun set (serial set)
  pub start_fits : (set : ProgramSet) → IsSet set → Fits set (start set)
  pub end_fits : (set : ProgramSet) (s : MachineState) (h : List ℕ) → IsSet set → Fits set s → IsLawfulFrom set s h → Fits set (end_from set s h)

module _ (laws : Laws) (flow : Dataflow) (inputs words : List ℕ) (is_flow : IsFlow flow) (are_inputs : AreInputs flow inputs) (short : AreShort (compiled flow inputs).tiles)
    (are_words : AreWords (compiled flow inputs) words) where
  as_many : length words ≡ length inputs
  as_many = are_words.each ∙ count_of_words flow inputs

  also_inputs : AreInputs flow words
  also_inputs = record { each = as_many ∙ are_inputs.each; words = are_words.words }

  is_set : IsSet (compiled flow words)
  is_set = laws.sets flow words is_flow also_inputs (short_with flow inputs words short)

  fed_is : fed (compiled flow inputs) words ≡ compiled flow words
  fed_is = fed_compiled flow inputs words as_many

  met_by : IsMetBy (compiled flow inputs) flow [] words
  met_by = record {
    valid = subst IsSet (sym fed_is) is_set;
    some = subst (λ (set : ProgramSet). (steps : List ℕ) × IsRun set steps) (sym fed_is) (serial (compiled flow words), laws.run (compiled flow words) is_set);
    right = λ steps run.
        let over : IsRun (compiled flow words) steps = subst (λ (set : ProgramSet). IsRun set steps) fed_is run in
        let ended = laws.right flow words is_flow also_inputs is_set steps over in
        let fits = laws.end_fits (compiled flow words) (start (compiled flow words)) steps is_set (laws.start_fits (compiled flow words) is_set) over.lawful in
        record {
          done = ap (λ (set : ProgramSet). outcome set (end set steps)) fed_is ∙ ended.done;
          counts = refl;
          values = ap (λ (set : ProgramSet). received (end set steps)) fed_is
              ∙ received_at_sink flow words (end (compiled flow words) steps) fits ∙ ended.values;
        };
  }

pub compiled_meets : Laws → EachCompiledMeets
compiled_meets laws flow inputs is_flow are_inputs short words are_words = met_by laws flow inputs words is_flow are_inputs short are_words
