use Rattle.raw_cut.proofs.Fits.{port_next}
use Rattle.raw_cut.proofs.copying.add_ports.Goals as goal

pub loop-port-preserved : goal.loop-port-preserved
loop-port-preserved c =
    port_next c.args.topo.now c.loop-port.topo c.add_port.new.self c.args.other.now.places c.loop-port.port c.place_of.result c.place_of.ensures c.loop-port.invariant c.in-Ok.ensures.added
