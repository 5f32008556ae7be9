use Rattle.raw_set_text.proofs.Building.PortsAdd.{placed}
use Rattle.raw_set_text.proofs.ports.add_place.Goals as goal

pub returns-in-Ok-clause-fault : goal.returns-in-Ok-clause-fault
returns-in-Ok-clause-fault c =
    placed c.args.topo.now c.args.place c.add_port.result c.in-Ok.field-0 c.in-Ok.is c.requires.column c.requires.row c.add_port.ensures.off_edge c.add_port.ensures.double
