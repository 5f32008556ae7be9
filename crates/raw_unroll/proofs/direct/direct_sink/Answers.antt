use Rattle.std.proofs.Common.{◌≡◌, ◌++◌, length, sym, ap, ◌∙◌, arith}
use Rattle.std.specs.List.{flat_map, range_with_len}
use Rattle.raw_stream.specs.Streams.{Stream, due_at, valued}
use Rattle.raw_unroll.specs.Values.{row_at}
use Rattle.raw_unroll.proofs.Dues.{range_more}
use Rattle.raw_unroll.proofs.Values.{row_long, next_first, before_next, all_due_of}
use Rattle.raw_unroll.proofs.direct.direct_sink.Goals as goal

pub loop-row-init : goal.loop-row-init
loop-row-init c = record { next = next_first c.args.stream.now c.in_ok-next.next.items c.in_ok-next.ensures; before = tt; got = c.new-got.ensures.items }

pub add_row-requires-clause-values : goal.add_row-requires-clause-values
add_row-requires-clause-values c =
    ap length (c.deref-in-loop-row.ensures.value ∙ c.in_ok-values.ensures.values) ∙ row_long c.args.stream.now c.args.words.now c.loop-row.row

pub loop-row-preserved : goal.loop-row-preserved
loop-row-preserved c =
    let s : Stream = c.args.stream.now in
    let all = c.args.words.now in
    let dues = due_at s c.args.port in
    let before = flat_map (λ r. valued (row_at s all r) dues) (range_with_len 0 c.loop-row.row) in
    let values : c.deref-in-loop-row.result.now ≡ row_at s all c.loop-row.row = c.deref-in-loop-row.ensures.value ∙ c.in_ok-values.ensures.values in
    record {
      next = c.in_ok-values.ensures.next;
      before = before_next s all c.loop-row.row c.in_ok-values.values.items c.in_ok-values.ensures.values;
      got = c.in_ok-add_row.ensures ∙ ap (λ xs. xs ++ valued c.deref-in-loop-row.result.now dues) c.loop-row.invariant.got ∙ ap (λ vs. before ++ valued vs dues) values
          ∙ sym (range_more (λ r. valued (row_at s all r) dues) c.loop-row.row);
    }

pub returns : goal.returns
returns c =
    let s : Stream = c.args.stream.now in
    let all = c.args.words.now in
    let last : c.loop-row.row ≡ s.count = omega (arith, ap (λ (x : Stream). x.count) c.stream.view_is) in
    c.loop-row.invariant.got ∙ ap (λ n. flat_map (λ r. valued (row_at s all r) (due_at s c.args.port)) (range_with_len 0 n)) last ∙ all_due_of s all c.args.port
