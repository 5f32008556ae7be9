use Rattle.raw_cut.proofs.Copies.{some_so}
use Rattle.raw_stream_choice.proofs.EndlessPorts.{are_endless_ports}
use Rattle.raw_stream_choice.proofs.endless.met_set.Goals as goal

pub set_with-requires : goal.set_with-requires
set_with-requires c =
    are_endless_ports c.args.stream.now c.in-Ok-Some.ports.items c.requires
    (some_so _ c.in-Ok-Some.field-0 c.in-Ok-Some.ports c.in-Ok-Some.field-0-is c.in-Ok-Some.ensures)
