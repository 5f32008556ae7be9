use Rattle.std.proofs.Common.{◌≡◌, ℕ, List, subst, ap, ◌∙◌}
use Rattle.std.proofs.lemmas.Result.{IfOk-weaker}
use Rattle.std.specs.List.{filter_map}
use Rattle.raw_model.specs.Program.{ProgramSet}
use Rattle.raw_flow.specs.declared.node.Node.{Node}
use Rattle.raw_stream.specs.declared.row_node.RowNode.{RowNode}
use Rattle.raw_stream.specs.Streams.{Stream, first_of, first_words}
use Rattle.std.specs.Prelude.{length}
use Rattle.raw_rows.specs.Lengths.{LengthProof, counting}
use Rattle.raw_cut.proofs.Copies.{some_so}
use Rattle.raw_lengths.specs.Proofs.{proof_of, IsSteadySeen, EndsSeeing, AreCounted}
use Rattle.raw_lengths.proofs.Passing.{steady_of, ends_of}
use Rattle.raw_lengths.proofs.deciding.passes_on.Goals as goal

pub returns : goal.returns
returns c =
    let set : ProgramSet = c.args.set.now in
    let s : Stream = c.args.stream.now in
    let extended : Stream = c.args.extended.now in
    let w : LengthProof = proof_of c.args.proof.now in
    let many : ℕ = c.in-Some.counts.counters in
    let own : ℕ = c.in-Some.counts.own in
    let places : List ℕ = c.in-Some-2.places.items in
    let last : List ℕ = c.in-Some-3.last.items in
    let many_is : many ≡ length (first_words (counting s w.counters)) = c.in-Some.ensures.counters ∙ ap (λ (ns : List RowNode). length (filter_map first_of ns)) c.deref.ensures.value in
    let own_is : own ≡ length (first_words s) = c.in-Some.ensures.own in
    let seen : IsSteadySeen set extended w.limit w.cut w.kernel w.rows own many w.looks places =
    subst (λ (ls : List Node). IsSteadySeen set extended w.limit w.cut w.kernel w.rows own many ls places) c.deref-3.ensures.value
    (subst (λ (ks : List ℕ). IsSteadySeen set extended w.limit w.cut ks w.rows own many c.deref-3.result.now places) c.deref-2.ensures.value
    (some_so _ c.in_ok-places.field-0 c.in-Some-2.places c.in-Some-2.is c.in_ok-places.ensures)) in
    let counted = some_so _ c.in_ok-last.field-0 c.in-Some-3.last c.in-Some-3.is c.in_ok-last.ensures in
    let some : AreCounted w.counters w.looks places w.first_rows w.rows w.kernels = subst (λ (ps : List ℕ). AreCounted w.counters w.looks ps w.first_rows w.rows w.kernels) c.deref-4.ensures.value counted.0 in
    IfOk-weaker c.ends.result _ _
    (λ yes ends e.
    let there : EndsSeeing set extended w.last_limit c.in_ok-carried.carried.items w.cut w.ending w.last_rows =
    subst (λ (ks : List ℕ). EndsSeeing set extended w.last_limit c.in_ok-carried.carried.items w.cut ks w.last_rows) c.deref-7.ensures.value
    (subst (λ (ns : List Node). EndsSeeing set extended w.last_limit ns w.cut c.deref-7.result.now w.last_rows) c.deref-6.ensures.value (ends e)) in (
      steady_of set s extended w places c.requires.extended own many own_is many_is some seen,
      ends_of set s extended w places c.requires.extended own c.deref-5.result.now c.in_ok-carried.carried.items own_is (c.deref-5.ensures.value ∙ counted.1 s) c.in_ok-carried.ensures there,
    ))
    c.ends.ensures
