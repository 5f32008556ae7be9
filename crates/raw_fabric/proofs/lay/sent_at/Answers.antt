use Rattle.std.proofs.Common.{◌-◌, Some, length, ap, ◌∙◌, arith}
use Rattle.raw_grid.proofs.WireLaws.{output_within}
use Rattle.raw_fabric_rule.specs.ByEnds.{procs}
use Rattle.raw_fabric.proofs.OtherSides.{output_is}
use Rattle.raw_fabric.proofs.Laid.{sent_some, sent_none}
use Rattle.raw_fabric.proofs.lay.sent_at.Goals as goal

pub ends-ends-requires : goal.ends-ends-requires
unfolding procs
ends-ends-requires c = c.requires.there

pub wire-requires : goal.wire-requires
wire-requires c =
    let m = c.args.machine.now in
    output_within m.set.topo c.in-Some.wire c.args.p (c.args.end - 10) (output_is m.set c.args.p c.ends-ends.result.now c.ends-ends.ensures c.args.end c.requires.end (omega arith) (Some c.in-Some.wire) c.in-Some.is)

pub returns-in-Some : goal.returns-in-Some
returns-in-Some c =
    let m = c.args.machine.now in
    ap length c.wire.ensures
    ∙ sent_some m.set m.state c.args.p c.args.end c.ends-ends.result.now c.in-Some.wire c.ends-ends.ensures c.requires.end (omega arith) c.in-Some.is

pub returns-in-None : goal.returns-in-None
returns-in-None c =
    let m = c.args.machine.now in
    sent_none m.set m.state c.args.p c.args.end c.ends-ends.result.now c.ends-ends.ensures c.requires.end (omega arith) c.in-None.is
