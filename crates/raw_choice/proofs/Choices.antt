-- The compiled set of a flow is a choice for it, and so is each better set.
use Rattle.std.proofs.Common.{◌≡◌, ◌∙◌, ℕ, ◌^◌, ◌<◌, ◌≤◌, Option, Some, None, IfSome, List, [], ◌∷◌, length, refl, sym, ap, inl, inr, subst, arith}
use Rattle.std.specs.List.{All}
use Rattle.std.proofs.lemmas.List.Elements.{All-head, All-weaker}
use Rattle.raw_model.specs.Program.{ProgramSet, IsTileProgram, IsPortProgram, IsSet}
use Rattle.raw_codegen.specs.Limits.{IsShort, AreShort}
use Rattle.raw_flow.specs.Flows.{Dataflow, IsFlow, inputs_in}
use Rattle.raw_flow.specs.Compiled.{compiled_at, compiled}
use Rattle.raw_schedule.specs.Whole.{IsSetFor}
use Rattle.raw_clock.specs.Clock.{HasCycles}
use Rattle.raw_term.specs.Claims.{Meets}
use Rattle.raw_term.specs.CompiledFlows.{EachCompiledMeets}
use Rattle.raw_steady.specs.Steady.{KeepsCycles}
use Rattle.raw_steady.specs.Count.{cycle_count}
use Rattle.raw_choice.specs.Choice.{IsMade, IsChoice}

-- the programs of a set are within its limits
are_short : (set : ProgramSet) → IsSet set → AreShort set.tiles
are_short set is = record {
  each = All-weaker IsTileProgram IsShort (λ tile program. record { code = program.few; switch = program.few_switch }) set.tiles is.tile_programs;
  all_code = is.totals.instructions;
  all_switch = is.totals.switch_instructions;
}

same : (flow : Dataflow) (inputs : List ℕ) → IsSetFor flow inputs (compiled flow inputs)
unfolding compiled compiled_at
same flow inputs = refl

-- the words of its source are words
are_words : (flow : Dataflow) (inputs : List ℕ) → IsSet (compiled flow inputs) → All (λ word. word < 2 ^ 32) inputs
unfolding compiled compiled_at
are_words flow inputs is =
    (All-head IsPortProgram (record { words = inputs; capacity = 0 }) (record { words = []; capacity = length flow.outs } ∷ []) is.port_programs).words

-- a choice of so many cycles
abbrev pub IsBest : Dataflow → List ℕ → ProgramSet → ℕ → Type 0
IsBest flow inputs set n = (choice : IsChoice flow inputs set) × (choice.cycles ≡ n)

-- a set has one number of cycles
abbrev pub EachHasOne : Type 0
EachHasOne = (set : ProgramSet) (n : ℕ) → IsSet set → HasCycles set n → n ≡ cycle_count set

pub compiled_is : EachCompiledMeets → EachHasOne → (flow : Dataflow) (inputs : List ℕ) (n : ℕ) → IsFlow flow → length inputs ≡ inputs_in flow.nodes
    → IsSet (compiled flow inputs) → HasCycles (compiled flow inputs) n → IsBest flow inputs (compiled flow inputs) n
compiled_is law one flow inputs n is each valid has = (
  record {
    valid = valid;
    same = same flow inputs;
    meets = law flow inputs is (record { each = each; words = are_words flow inputs valid }) (are_short (compiled flow inputs) valid);
    cycles = n;
    has = has;
    no_more = λ short most other.
        let a = one (compiled flow inputs) n valid has in
        let b = one (compiled flow inputs) most valid other in
        omega (arith, a, b);
    keeps = inl refl;
  },
  refl,
)

-- the best so far is a choice of so many cycles; where there is none, the compiled set is not made
abbrev pub IsBestOf : Dataflow → List ℕ → Option ProgramSet → ℕ → Type 0
IsBestOf flow inputs (Some set) n = IsBest flow inputs set n
IsBestOf flow inputs None n = ¬ (IsMade flow inputs)

-- so is each set in its place that meets the flow and has fewer cycles
pub better_is : (flow : Dataflow) (inputs : List ℕ) (old : Option ProgramSet) (new : ProgramSet) (n m : ℕ) → IsBestOf flow inputs old n → IsSet new → IsSetFor flow inputs new
    → Meets new flow → HasCycles new m → m < n → KeepsCycles new m → IsBest flow inputs new m
better_is flow inputs old new n m best valid same meets has less keeps = (
  record {
    valid = valid;
    same = same;
    meets = meets;
    cycles = m;
    has = has;
    no_more = no_more old best;
    keeps = inr keeps;
  },
  refl,
)
  where
    no_more : (o : Option ProgramSet) → IsBestOf flow inputs o n → IsMade flow inputs → (most : ℕ) → HasCycles (compiled flow inputs) most → m ≤ most
    no_more (Some set) b made most other = let few = b.0.no_more made most other in omega (arith, few, less, b.1)
    no_more None b made most other = absurd (b made)

-- the same where what was found of it is that it has so many cycles, fewer than the choice has, and meets the flow
pub taken : (flow : Dataflow) (inputs : List ℕ) (old : Option ProgramSet) (new : ProgramSet) (n m : ℕ) (found : Option ℕ) → IsBestOf flow inputs old n → IsSet new
    → IsSetFor flow inputs new → found ≡ Some m → IfSome found (λ k. HasCycles new k) → IfSome found (λ k. k < n) → IfSome found (λ k. Meets new flow)
    → IfSome found (KeepsCycles new) → IsBest flow inputs new m
taken flow inputs old new n m found best valid same is has less meets keeps =
    better_is flow inputs old new n m best valid same
    (subst (λ (o : Option ℕ). IfSome o (λ k. Meets new flow)) is meets)
    (subst (λ (o : Option ℕ). IfSome o (λ k. HasCycles new k)) is has)
    (subst (λ (o : Option ℕ). IfSome o (λ k. k < n)) is less)
    (subst (λ (o : Option ℕ). IfSome o (KeepsCycles new)) is keeps)

-- what it begins with
pub first_is : EachCompiledMeets → EachHasOne → ((set : ProgramSet) → IsSet set → HasCycles set (cycle_count set)) → (flow : Dataflow) (inputs : List ℕ) (o : Option ProgramSet) (n : ℕ) → IsFlow flow
    → length inputs ≡ inputs_in flow.nodes → IfSome o (λ set. set ≡ compiled flow inputs) → (o ≡ None → ¬ (IsMade flow inputs)) → IfSome o (λ set. n ≡ cycle_count set)
    → IfSome o IsSet → IsBestOf flow inputs o n
first_is law one has flow inputs (Some set) n is each compiled_set none many valid =
    let lawful : IsSet (compiled flow inputs) = subst (λ (g : ProgramSet). IsSet g) compiled_set valid in
    let count : cycle_count (compiled flow inputs) ≡ n = sym (many ∙ ap cycle_count compiled_set) in
    subst (λ (g : ProgramSet). IsBest flow inputs g n) (sym compiled_set)
    (compiled_is law one flow inputs n is each lawful (subst (λ k. HasCycles (compiled flow inputs) k) count (has (compiled flow inputs) lawful)))
first_is law one has flow inputs None n is each compiled_set none many valid = none refl
