use Rattle.std.proofs.Common.{◌<◌, ◌≤◌, length, sym, ap, arith}
use Rattle.std.specs.Prelude.{nat_lt}
use Rattle.std.proofs.lemmas.Bool.{lt-ltb, le-ltb}
use Rattle.raw_model.specs.declared.limits.TheConstants.{MAX_CAPACITY}
use Rattle.raw_stream.specs.Streams.{Stream}
use Rattle.raw_stream.specs.Kept.{due_count}
use Rattle.raw_stream.proofs.Sums.{none_more, some_one}
use Rattle.raw_stream.proofs.stream.StreamFlow.has_full_sink.Goals as goal

pub returns-then-due_of-from : goal.returns-then-due_of-from
returns-then-due_of-from c =
    let s : Stream = c.args.self.now in
    let within : c.loop-port.port < length s.sinks = omega (arith, ap (λ (x : Stream). length x.sinks) c.self.view_is) in
    let over : MAX_CAPACITY < due_count s c.loop-port.port = omega (arith, c.due_of.ensures.value) in
    sym (some_one (λ q. nat_lt MAX_CAPACITY (due_count s q)) (length s.sinks) c.loop-port.port within (lt-ltb MAX_CAPACITY (due_count s c.loop-port.port) over))

pub loop-port-preserved : goal.loop-port-preserved
loop-port-preserved c =
    let s : Stream = c.args.self.now in
    let within : due_count s c.loop-port.port ≤ MAX_CAPACITY = omega (arith, c.due_of.ensures.value) in
    none_more (λ q. nat_lt MAX_CAPACITY (due_count s q)) c.loop-port.port c.loop-port.invariant (le-ltb MAX_CAPACITY (due_count s c.loop-port.port) within)
