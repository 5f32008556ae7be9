use Rattle.std.proofs.Common.{◌≡◌, ◌+◌, ◌-◌, ◌<◌, ◌≤◌, length, sym, ap, subst, arith}
use Rattle.std.specs.Prelude.{sum_by}
use Rattle.std.specs.List.{range_with_len}
use Rattle.std.proofs.lemmas.Bool.{lt-ltb}
use Rattle.raw_model.specs.declared.limits.TheConstants.{MAX_ALL_CAPACITIES}
use Rattle.raw_stream.specs.Streams.{Stream}
use Rattle.raw_stream.specs.Kept.{due_count, all_due_count}
use Rattle.raw_stream.proofs.Sums.{sum_more, sums_grow}
use Rattle.raw_stream.proofs.stream.StreamFlow.has_full_sinks.Goals as goal

pub returns-then-total-from : goal.returns-then-total-from
returns-then-total-from c =
    let s : Stream = c.args.self.now in
    let q = c.loop-port.port in
    let within : q < length s.sinks = omega (arith, ap (λ (x : Stream). length x.sinks) c.self.view_is) in
    let rest : (q + 1) + (length s.sinks - (q + 1)) ≡ length s.sinks = omega (arith, within) in
    let grown = subst (λ n. sum_by (due_count s) (range_with_len 0 (q + 1)) ≤ sum_by (due_count s) (range_with_len 0 n)) rest (sums_grow (due_count s) (q + 1) (length s.sinks - (q + 1))) in
    let more = sum_more (due_count s) q in
    let over : MAX_ALL_CAPACITIES < all_due_count s = omega (arith, grown, more, c.due_of-total.ensures.value, c.loop-port.invariant.sum) in
    sym (lt-ltb MAX_ALL_CAPACITIES (all_due_count s) over)

pub loop-port-preserved : goal.loop-port-preserved
loop-port-preserved c =
    let more = sum_more (due_count c.args.self.now) c.loop-port.port in
    record {
      sum = omega (arith, more, c.due_of-total.ensures.value, c.loop-port.invariant.sum);
      few = omega arith;
    }
