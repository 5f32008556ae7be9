use Rattle.std.proofs.Common.{rules, ◌≡◌, ◌<◌, length, not, ap, arith}
use Rattle.std.specs.Prelude.{◌==◌}
use Rattle.raw_model.specs.Program.{ProgramSet}
use Rattle.raw_model.specs.Start.{MachineState}
use Rattle.raw_stream.specs.Streams.{Stream}
use Rattle.raw_stream.specs.Kept.{due_count}
use Rattle.raw_row_terms.specs.RowClaims.{got_at, misgot}
use Rattle.raw_prove.specs.Units.{state_of}
use Rattle.raw_prove.proofs.RowComparing.{find_later, same_count}
use Rattle.raw_prove.proofs.machine.Machine.misgot.Goals as goal

pub loop-port-preserved : goal.loop-port-preserved
loop-port-preserved c =
    let set : ProgramSet = c.args.set.now in
    let s : Stream = c.args.stream.now in
    let state : MachineState = (state_of c.args.self.now).state in
    let port = c.loop-port.port in
    let lt : port < length set.topo.places =
    omega (arith, c.loop-port-test.true, c.ports-port-end.ensures, c.loop-port.auto.port-end, ap (λ (g : ProgramSet). length g.topo.places) c.set.view_is) in
    let same : length (got_at set state port) ≡ due_count s port = search rules in
    find_later (λ q. not (length (got_at set state q) == due_count s q)) port (length set.topo.places) (misgot set s state) lt c.loop-port.invariant
    (same_count (length (got_at set state port)) (due_count s port) same)
