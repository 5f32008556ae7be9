use Rattle.std.proofs.Common.{◌≡◌, Option, None, IfSome, sym, subst}
use Rattle.raw_model.specs.Program.{ProgramSet}
use Rattle.raw_flow.specs.Flows.{Dataflow, IsFlow}
use Rattle.raw_flow.specs.Compiled.{compiled}
use Rattle.raw_schedule.specs.Whole.{IsSetFor}
use Rattle.raw_choice.specs.declared.choosing.Best.{Best}
use Rattle.raw_choice.specs.Choice.{IsMade}
use Rattle.raw_choice.proofs.Choices.{IsBestOf, first_is, taken}
use Rattle.raw_choice.proofs.choosing.choose.Goals as goal
use Rattle.raw_choice.proofs.choosing.choose.Goals.{in-Some-2, in_default-2}

pub candidates-init : goal.candidates-init
candidates-init c =
    let flow = c.args.flow.now in
    let inputs = c.args.inputs.now in
    let best = c.in_ok-best.best in
    let is : IsFlow flow = subst (λ (f : Dataflow). IsFlow f) c.flow.view_is c.flow.invariant in
    first_is c.law_compiled_meets.ensures c.law_count.ensures.only c.law_count.ensures.has flow inputs best.set best.cycles is c.requires.inputs
    (subst (λ (o : Option ProgramSet). IfSome o (λ (set : ProgramSet). set ≡ compiled flow inputs)) (sym c.in_ok-best.ensures.set) c.requires.compiled)
    (subst (λ (o : Option ProgramSet). o ≡ None → ¬ (IsMade flow inputs)) (sym c.in_ok-best.ensures.set) c.requires.none)
    c.in_ok-best.ensures.cycles c.in_ok-best.ensures.valid

pub candidates-preserved : goal.candidates-preserved
candidates-preserved c =
    let flow = c.args.flow.now in
    let inputs = c.args.inputs.now in
    let now = c.match-branch-6 in
    let same : IsSetFor flow inputs c.in-Some.candidate =
    subst (λ (found : Option ProgramSet). IfSome found (IsSetFor flow inputs)) c.in-Some.is c.in_ok-candidate.ensures in
    elim now.branch [
      | in-Some-2 w ↦
          subst (λ (b : Best). IsBestOf flow inputs b.set b.cycles) (sym w.best-is)
          (taken flow inputs c.candidates.best.set c.in-Some.candidate c.candidates.best.cycles w.in-Some-2.cycles _ c.candidates.invariant c.fewer_cycles.ensures.valid
          same w.in-Some-2.is c.in_ok-cycles.ensures.cycles c.in_ok-cycles.ensures.fewer c.in_ok-cycles.ensures.meets
          c.in_ok-cycles.ensures.keeps)
      | in_default-2 w ↦ subst (λ (b : Best). IsBestOf flow inputs b.set b.cycles) (sym w.best-is) c.candidates.invariant
    ]
