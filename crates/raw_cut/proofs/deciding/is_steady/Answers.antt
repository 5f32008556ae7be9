use Rattle.std.proofs.Common.{ℕ, List, ◌∙◌, subst}
use Rattle.std.proofs.lemmas.Result.{IfOk-weaker}
use Rattle.raw_flow.specs.declared.node.Node.{Node}
use Rattle.raw_rows.specs.Kernels.{Leads}
use Rattle.raw_cut.specs.Cuts.{cut_of}
use Rattle.raw_cut.proofs.Decided.{unknown_is}
use Rattle.raw_cut.proofs.deciding.is_steady.Goals as goal

pub returns : goal.returns
returns c =
    IfOk-weaker c.leads.result _ _
    (λ yes leads e. subst (λ (nodes : List Node). Leads c.args.set.now c.args.stream.now c.args.proof.now.limit nodes (cut_of c.args.proof.now.cut) c.args.proof.now.kernel.items c.args.proof.now.rows (cut_of c.args.proof.now.cut))
    (c.deref.ensures.value ∙ unknown_is c.args.stream.now c.in-Some.widths.carried c.in_ok-carried.carried.items c.in_ok-carried.ensures c.in-Some.ensures.carried)
    (subst (λ (steps : List ℕ). Leads c.args.set.now c.args.stream.now c.args.proof.now.limit c.deref.result.now (cut_of c.args.proof.now.cut) steps c.args.proof.now.rows (cut_of c.args.proof.now.cut)) c.deref-2.ensures.value (leads e)))
    c.leads.ensures
