use Rattle.std.proofs.Common.{arith}
use Rattle.raw_fabric_rule.specs.ByEnds.{wires}
use Rattle.raw_fabric.proofs.lay.value_of.Goals as goal

pub wire-values-requires : goal.wire-values-requires
unfolding wires
wire-values-requires c = let few = c.requires in omega arith
