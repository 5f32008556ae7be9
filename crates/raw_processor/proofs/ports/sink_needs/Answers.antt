use Rattle.raw_processor.proofs.PortEnds.{at_none, inputs_of_port}
use Rattle.raw_processor.proofs.ports.sink_needs.Goals as goal

pub returns-clause-takes : goal.returns-clause-takes
returns-clause-takes c = λ topo p ends are. inputs_of_port topo p ends are

pub returns-clause-sends : goal.returns-clause-sends
returns-clause-sends c = λ ends. at_none ends.outputs
