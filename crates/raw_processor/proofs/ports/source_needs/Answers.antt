use Rattle.raw_processor.proofs.PortEnds.{at_none, outputs_of_port}
use Rattle.raw_processor.proofs.ports.source_needs.Goals as goal

pub returns-clause-takes : goal.returns-clause-takes
returns-clause-takes c = λ ends. at_none ends.inputs

pub returns-clause-sends : goal.returns-clause-sends
returns-clause-sends c = λ topo p ends are. outputs_of_port topo p ends are
