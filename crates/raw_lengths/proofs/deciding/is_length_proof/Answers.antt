use Rattle.std.proofs.Common.{◌≡◌, ℕ, List, subst, ap, ◌∙◌}
use Rattle.std.proofs.lemmas.Result.{IfOk-weaker}
use Rattle.raw_model.specs.Program.{ProgramSet}
use Rattle.raw_flow.specs.Flows.{AreNodes}
use Rattle.raw_stream.specs.declared.row_node.RowNode.{RowNode}
use Rattle.raw_stream.specs.Streams.{Stream, AreRowNodes}
use Rattle.raw_rows.specs.Kernels.{Leads, start_cut, known}
use Rattle.raw_rows.specs.Lengths.{LengthProof, with_counters}
use Rattle.raw_cut.proofs.Copies.{some_so}
use Rattle.raw_cut.proofs.Decided.{words_of_nodes}
use Rattle.raw_lengths.specs.Proofs.{proof_of}
use Rattle.raw_lengths.proofs.deciding.is_length_proof.Goals as goal

pub passes_on-requires : goal.passes_on-requires
passes_on-requires c = record {
  extended = some_so _ c.in_ok-extended.field-0 c.in-Some.extended c.in-Some.is c.in_ok-extended.ensures ∙ ap (λ (ns : List RowNode). with_counters c.args.stream.now ns) c.deref-4.ensures.value;
}

pub returns : goal.returns
returns c =
    let set : ProgramSet = c.args.set.now in
    let s : Stream = c.args.stream.now in
    let w : LengthProof = proof_of c.args.proof.now in
    let extended_is : c.in-Some.extended ≡ with_counters s w.counters =
    some_so _ c.in_ok-extended.field-0 c.in-Some.extended c.in-Some.is c.in_ok-extended.ensures ∙ ap (λ (ns : List RowNode). with_counters s ns) c.deref-4.ensures.value in
    IfOk-weaker c.passes_on.result _ _
    (λ yes parts e. record {
      counters = subst (λ (ns : List RowNode). AreRowNodes 0 ns) c.deref.ensures.value (c.are_counters.ensures c.if-not-are_counters.false);
      constants = words_of_nodes w.cut.at.nodes (subst AreNodes c.deref-2.ensures.value (c.are_nodes.ensures c.if-not-are_nodes.false));
      looks = words_of_nodes w.looks (subst AreNodes c.deref-3.ensures.value (c.are_nodes-2.ensures c.if-not-are_nodes-2.false));
      count = c.passes_all.ensures.count c.if-not-passes_all.false ∙ ap (λ (x : Stream). x.count) c.stream.view_is;
      window = c.passes_all.ensures.window c.if-not-passes_all.false;
      opens = subst (λ (x : Stream). Leads set x w.first_limit (known x) (start_cut set) w.opening w.first_rows w.cut) extended_is
          (subst (λ (steps : List ℕ). Leads set c.in-Some.extended w.first_limit (known c.in-Some.extended) (start_cut set) steps w.first_rows w.cut) c.deref-5.ensures.value (c.in_ok-opens.ensures c.if-not-branch.false));
      steady = (parts e).0;
      ends = (parts e).1;
    })
    c.passes_on.ensures
