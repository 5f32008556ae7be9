use Rattle.std.proofs.Common.{◌≡◌, ℕ, ◌+◌, ◌*◌, List, [], ap, subst, arith, ◌∙◌}
use Rattle.raw_flow.specs.Flows.{values_from}
use Rattle.raw_stream.specs.Streams.{Stream}
use Rattle.raw_rows.specs.Lengths.{counted}
use Rattle.raw_lengths.specs.Looks.{AreSome}
use Rattle.raw_lengths.specs.Proofs.{AreCounted}
use Rattle.raw_lengths.proofs.Kernels.{counted_more, rows_more}
use Rattle.raw_lengths.proofs.deciding.pass_kernels.Goals as goal

pub loop-k-preserved : goal.loop-k-preserved
loop-k-preserved c = λ first h.
    let k : ℕ = c.loop-k._k in
    let before = c.loop-k.invariant first h in
    let some : AreSome c.in_ok-values.values.items c.args.places.now =
    subst (λ (vs : List ℕ). AreSome vs c.args.places.now) c.deref-in-loop-k.ensures.value (c.are_some.ensures c.if-not-are_some.false) in (
      counted_more c.args.counters.now c.args.looks.now c.args.places.now first c.args.rows k c.loop-k.now.items c.in_ok-values.values.items before.0 before.1
          (c.in_ok-values.ensures ∙ ap (λ (words : List ℕ). values_from words 0 [] c.args.looks.now) c.deref.ensures.value) some,
      λ s. c.in_ok-now.ensures s (first + k * c.args.rows) (before.1 s) ∙ ap (counted s c.args.counters.now) (rows_more first k c.args.rows),
    )

pub returns : goal.returns
returns c = λ first h.
    let same : c.loop-k._k ≡ c.args.kernels = omega (arith, c.loop-k.auto._k-end, c.loop-k-test.false) in
    subst
    (λ (n : ℕ). AreCounted c.args.counters.now c.args.looks.now c.args.places.now first c.args.rows n × ((s : Stream) → c.loop-k.now.items ≡ counted s c.args.counters.now (first + n * c.args.rows)))
    same (c.loop-k.invariant first h)
