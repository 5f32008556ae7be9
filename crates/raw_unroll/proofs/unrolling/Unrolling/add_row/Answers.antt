use Rattle.std.proofs.Common.{◌≡◌, length, ap, subst, arith}
use Rattle.raw_stream.specs.Streams.{Stream}
use Rattle.raw_unroll.specs.Known.{IsUnrolled}
use Rattle.raw_unroll.proofs.Rows.{row_done}
use Rattle.raw_unroll.proofs.unrolling.Unrolling.add_row.Goals as goal

pub returns : goal.returns
returns c =
    let last : c.loop-v.v ≡ length c.args.stream.now.nodes = omega (arith, ap (λ (x : Stream). length x.nodes) c.stream.view_is) in
    row_done c.loop-v.self c.args.stream.now c.args.row (subst (IsUnrolled c.loop-v.self c.args.stream.now c.args.row) last c.loop-v.invariant)
