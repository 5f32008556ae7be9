use Rattle.std.proofs.Common.{ℕ, List, subst}
use Rattle.std.proofs.lemmas.Result.{IfOk-weaker}
use Rattle.raw_model.specs.Program.{ProgramSet}
use Rattle.raw_flow.specs.Flows.{AreNodes}
use Rattle.raw_stream.specs.Streams.{Stream}
use Rattle.raw_rows.specs.Kernels.{Leads, start_cut, known}
use Rattle.raw_cut.specs.Cuts.{cut_of}
use Rattle.raw_cut.proofs.Decided.{words_of_nodes}
use Rattle.raw_cut.proofs.deciding.is_live_proof.Goals as goal

pub returns : goal.returns
returns c =
    let set : ProgramSet = c.args.set.now in
    let s : Stream = c.args.stream.now in
    let w = c.args.proof.now in
    IfOk-weaker c.all_rest.result _ _
    (λ yes rests e. record {
      constants = words_of_nodes w.cut.nodes.items (subst AreNodes c.deref.ensures.value (c.are_nodes.ensures c.if-not-are_nodes.false));
      opens = subst (λ (steps : List ℕ). Leads set s w.first_limit (known s) (start_cut set) steps w.first_rows (cut_of w.cut)) c.deref-2.ensures.value (c.in_ok-opens.ensures c.if-not-branch.false);
      steady = c.in_ok-is_steady.ensures c.if-not-branch-2.false;
      rests = rests e;
    })
    c.all_rest.ensures
