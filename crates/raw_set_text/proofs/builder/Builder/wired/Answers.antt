use Rattle.raw_set_text.proofs.Building.Wires.{ends_wired}
use Rattle.raw_set_text.proofs.builder.Builder.wired.Goals as goal

pub returns : goal.returns
returns c = ends_wired c.args.self.now.ports.topo c.args.tile c.ends_of.result c.cols.ensures.valid c.ends_of.ensures.inputs c.ends_of.ensures.outputs
