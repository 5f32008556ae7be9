use Rattle.std.proofs.Common.{◌≡◌, ◌+◌, ◌<◌, length, Some, refl, sym, ap, ◌∙◌, subst, arith}
use Rattle.std.specs.Prelude.{slice_get, slice_index}
use Rattle.std.proofs.lemmas.Option.{slice_get_read}
use Rattle.raw_stream.specs.Streams.{Stream}
use Rattle.raw_stream.proofs.Unrolled.{EachValue}
use Rattle.raw_unroll.specs.Values.{row_at, AreNext, AreValues, HasValue, node_value}
use Rattle.raw_unroll.proofs.Values.{value_is, has_value, next_more, values_more, row_whole}
use Rattle.raw_unroll.proofs.valued.row_values.Goals as goal

pub node_value-value-requires-clause-value : goal.node_value-value-requires-clause-value
node_value-value-requires-clause-value c =
    let s : Stream = c.args.stream.now in
    let all = c.args.words.now in
    let row = c.args.row in
    let v = c.loop-v.v in
    let next = c.loop-v.next.items in
    let values = c.loop-v.values.items in
    let node = c.index.result.now in
    let nodes : c.stream.inside.nodes.items ≡ s.nodes = cc (ap (λ (x : Stream). x.nodes) c.stream.view_is) in
    let within : v < length c.stream.inside.nodes.items = omega arith in
    let there : slice_get s.nodes v ≡ Some node = subst (λ xs. slice_get xs v ≡ Some node) nodes (slice_get_read c.stream.inside.nodes.items (length c.stream.inside.nodes.items) v node refl within c.index.ensures) in
    subst (λ vs. HasValue next all c.args.before.now vs row node) (sym c.deref.ensures.value)
    (has_value s c.requires.named all row v next c.args.before.now values node c.requires.row c.requires.words there c.loop-v.invariant.next c.requires.before c.loop-v.invariant.values)

pub loop-v-preserved : goal.loop-v-preserved
loop-v-preserved c =
    let s : Stream = c.args.stream.now in
    let all = c.args.words.now in
    let row = c.args.row in
    let v = c.loop-v.v in
    let next = c.loop-v.next.items in
    let values = c.loop-v.values.items in
    let node = c.index.result.now in
    let nodes : c.stream.inside.nodes.items ≡ s.nodes = cc (ap (λ (x : Stream). x.nodes) c.stream.view_is) in
    let within : v < length c.stream.inside.nodes.items = omega arith in
    let there : slice_get s.nodes v ≡ Some node = subst (λ xs. slice_get xs v ≡ Some node) nodes (slice_get_read c.stream.inside.nodes.items (length c.stream.inside.nodes.items) v node refl within c.index.ensures) in
    let each : EachValue = record { input = c.law_values.ensures.input; constant = c.law_values.ensures.constant; operation = c.law_values.ensures.operation } in
    let value : c.node_value-value.result ≡ slice_index (row_at s all row) v = c.node_value-value.ensures.value ∙ ap (λ vs. node_value next all c.args.before.now vs row node) c.deref.ensures.value
    ∙ value_is each s c.requires.named all row next c.args.before.now values v node there c.loop-v.invariant.next c.requires.before c.loop-v.invariant.values in
    record {
      next = subst (AreNext s row (v + 1)) (sym c.node_value-value.ensures.next) (next_more s c.requires.named row v node next there c.loop-v.invariant.next);
      values = subst (AreValues s all row (v + 1)) (sym c.in_ok-push.ensures.items) (values_more s all row v c.node_value-value.result values c.loop-v.invariant.values value);
    }

pub returns-clause-values : goal.returns-clause-values
returns-clause-values c =
    let s : Stream = c.args.stream.now in
    let last : c.loop-v.v ≡ length s.nodes = omega (arith, ap (λ (x : Stream). length x.nodes) c.stream.view_is) in
    row_whole s c.args.words.now c.args.row c.loop-v.values.items (subst (λ n. AreValues s c.args.words.now c.args.row n c.loop-v.values.items) last c.loop-v.invariant.values)
