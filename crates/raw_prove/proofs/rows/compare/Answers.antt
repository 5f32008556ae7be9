use Rattle.std.proofs.Common.{◌≡◌, ◌+◌, ◌<◌, length, not, Some, sym, ◌∙◌, arith}
use Rattle.std.specs.Prelude.{◌==◌}
use Rattle.raw_grid.proofs.Growth.{procs_few}
use Rattle.raw_model.specs.Program.{ProgramSet}
use Rattle.raw_model.specs.Start.{MachineState}
use Rattle.raw_stream.specs.Streams.{Stream}
use Rattle.raw_stream.specs.Kept.{due_count}
use Rattle.raw_row_terms.specs.RowClaims.{got_at, misgot}
use Rattle.raw_prove.specs.Units.{state_of}
use Rattle.raw_prove.proofs.RowComparing.{find_within}
use Rattle.raw_prove.proofs.rows.compare.Goals as goal

pub got_at_port-requires : goal.got_at_port-requires
got_at_port-requires c =
    let set : ProgramSet = c.args.set.now in
    let s : Stream = c.args.stream.now in
    let state : MachineState = (state_of c.args.machine.now).state in
    let found : misgot set s state ≡ Some c.in-Some.port = sym c.misgot.ensures ∙ c.in-Some.is in
    let within : c.in-Some.port < 0 + length set.ports = find_within (λ q. not (length (got_at set state q) == due_count s q)) 0 (length set.ports) c.in-Some.port found in
    omega (arith, within, c.requires.valid.each_port, procs_few set.topo c.requires.valid.topology)
