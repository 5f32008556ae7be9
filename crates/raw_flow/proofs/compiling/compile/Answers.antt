use Rattle.std.proofs.Common.{◌≡◌, ◌⊎◌, sym, subst}
use Rattle.std.specs.Prelude.{IfOk, IfErr}
use Rattle.std.proofs.lemmas.Result.{IfOk-weaker}
use Rattle.raw_model.specs.Program.{ProgramSet}
use Rattle.raw_codegen.specs.Limits.{AreShort}
use Rattle.raw_codegen.specs.declared.programs.GiveRefusal.{GiveRefusal}
use Rattle.raw_codegen.specs.declared.programs.GiveRefusal.TheVariants.{TooMany, Memory}
use Rattle.raw_flow.specs.Ports.{FlowPorts, ArePorts, usual_ports}
use Rattle.raw_flow.specs.Compiled.{compiled_at, compiled}
use Rattle.raw_flow.specs.Right.{EachRunIsRightAt, EachRunIsRight}
use Rattle.raw_flow.proofs.Usual.{usual_are, run_is_right}
use Rattle.raw_flow.proofs.compiling.compile.Goals as goal

pub compile_at-requires-clause-ports : goal.compile_at-requires-clause-ports
compile_at-requires-clause-ports c =
    subst (λ (p : FlowPorts). ArePorts c.args.flow.now p) (sym c.in_ok-ports.ensures) (usual_are c.args.flow.now c.keeps_rules.ensures.valid)

pub returns-clause-set : goal.returns-clause-set
unfolding compiled
returns-clause-set c =
    subst (λ (p : FlowPorts). IfOk c.compile_at.result (λ (set : ProgramSet). set ≡ compiled_at c.args.flow.now p c.args.inputs.now)) c.in_ok-ports.ensures c.compile_at.ensures.set

pub returns-clause-right : goal.returns-clause-right
returns-clause-right c =
    let flow = c.args.flow.now in
    let inputs = c.args.inputs.now in
    IfOk-weaker c.compile_at.result (λ (set : ProgramSet). EachRunIsRightAt flow usual_ports inputs) (λ (set : ProgramSet). EachRunIsRight flow inputs) (λ set right. run_is_right flow inputs right)
    (subst (λ (p : FlowPorts). IfOk c.compile_at.result (λ (set : ProgramSet). EachRunIsRightAt flow p inputs)) c.in_ok-ports.ensures c.compile_at.ensures.right)

pub returns-clause-refusal : goal.returns-clause-refusal
unfolding compiled
returns-clause-refusal c =
    subst (λ (p : FlowPorts). IfErr c.compile_at.result (λ (refusal : GiveRefusal). (refusal ≡ Memory) ⊎ ((refusal ≡ TooMany) × (AreShort (compiled_at c.args.flow.now p c.args.inputs.now).tiles → ⊥)))) c.in_ok-ports.ensures
    c.compile_at.ensures.refusal
