use Rattle.std.proofs.Common.{◌<◌, length, not, sym, ap, ◌∙◌, arith}
use Rattle.std.specs.Prelude.{◌==◌}
use Rattle.raw_model.specs.Program.{ProgramSet}
use Rattle.raw_model.specs.Start.{MachineState}
use Rattle.raw_stream.specs.Streams.{Stream}
use Rattle.raw_stream.specs.Kept.{due_count}
use Rattle.raw_row_terms.specs.RowClaims.{got_at}
use Rattle.raw_prove.proofs.RowComparing.{find_here, find_later, other_count, same_count}
use Rattle.raw_refute.specs.RowJudged.{first_miscount}
use Rattle.raw_refute.proofs.row_judging.first_miscount.Goals as goal

pub returns-then-got-due_of : goal.returns-then-got-due_of
returns-then-got-due_of c =
    let set : ProgramSet = c.args.machine.now.set in
    let state : MachineState = c.args.machine.now.state in
    let s : Stream = c.args.stream.now in
    let port = c.loop-port.port in
    let lt : port < length set.topo.places =
    omega (arith, c.loop-port-test.true, c.ports-port-end.ensures, ap (λ (g : ProgramSet). length g.topo.places) (c.behind-machine.view_is ∙ c.set.ensures.value)) in
    find_here (λ q. not (length (got_at set state q) == due_count s q)) port (length set.topo.places) (first_miscount set s (got_at set state)) lt c.loop-port.invariant
    (other_count (length (got_at set state port)) (due_count s port) (λ e. c.if-got-due_of.true (ap length c.got_at.ensures ∙ e ∙ sym c.due_of.ensures.value)))

pub loop-port-preserved : goal.loop-port-preserved
loop-port-preserved c =
    let set : ProgramSet = c.args.machine.now.set in
    let state : MachineState = c.args.machine.now.state in
    let s : Stream = c.args.stream.now in
    let port = c.loop-port.port in
    let lt : port < length set.topo.places =
    omega (arith, c.loop-port-test.true, c.ports-port-end.ensures, ap (λ (g : ProgramSet). length g.topo.places) (c.behind-machine.view_is ∙ c.set.ensures.value)) in
    find_later (λ q. not (length (got_at set state q) == due_count s q)) port (length set.topo.places) (first_miscount set s (got_at set state)) lt c.loop-port.invariant
    (same_count (length (got_at set state port)) (due_count s port) (sym (ap length c.got_at.ensures) ∙ c.if-got-due_of.false ∙ c.due_of.ensures.value))
