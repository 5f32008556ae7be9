use Rattle.std.proofs.Common.{◌≡◌, ℕ, ◌+◌, ◌*◌, List, subst, ap, arith, ◌∙◌}
use Rattle.std.proofs.lemmas.Option.{IfSome_then}
use Rattle.std.proofs.lemmas.Result.{IfOk-weaker}
use Rattle.raw_flow.specs.declared.node.Node.{Node}
use Rattle.raw_stream.specs.declared.row_node.RowNode.{RowNode}
use Rattle.raw_stream.specs.Streams.{Stream}
use Rattle.raw_rows.specs.Lengths.{counted}
use Rattle.raw_lengths.specs.Proofs.{AreCounted}
use Rattle.raw_lengths.proofs.deciding.counted_last.Goals as goal

pub returns : goal.returns
returns c =
    let first : ℕ = c.args.proof.now.first_rows in
    let rows : ℕ = c.args.proof.now.rows in
    let kernels : ℕ = c.args.proof.now.kernels in
    let places : List ℕ = c.args.places.now in
    let counters : List RowNode = c.deref-counters.result.now in
    let words : (s : Stream) → c.in_ok-words.words.items ≡ counted s counters first =
    λ s. c.in_ok-words.ensures s 0 (c.in_ok-first.ensures s) ∙ ap (counted s counters) (omega arith) in
    IfOk-weaker c.pass_kernels.result _ _
    (λ found h. IfSome_then found h
    (λ last both.
    let here = both first words in
    subst (λ (cs : List RowNode). AreCounted cs c.args.proof.now.looks.items places first rows kernels × ((s : Stream) → last.items ≡ counted s cs (first + kernels * rows))) c.deref-counters.ensures.value
    (subst (λ (ls : List Node). AreCounted counters ls places first rows kernels × ((s : Stream) → last.items ≡ counted s counters (first + kernels * rows))) c.deref-3.ensures.value here)))
    c.pass_kernels.ensures
