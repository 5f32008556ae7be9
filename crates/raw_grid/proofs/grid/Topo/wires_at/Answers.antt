use Rattle.std.proofs.Common.{◌∙◌, ap}
use Rattle.raw_grid.specs.Wires.{wires_of}
use Rattle.raw_grid.proofs.Found.{in_found, out_found}
use Rattle.raw_grid.proofs.grid.Topo.wires_at.Goals as goal

pub returns-in-In : goal.returns-in-In
returns-in-In c end few =
    let same = c.deref.ensures.value ∙ c.self.invariant.wires_are ∙ ap wires_of c.self.view_is in
    in_found c.args.self.now c.deref.result.now c.args.p.0 end c.args.way _ c.in-In.is same (c.inputs_of.ensures end few)

pub returns-in-Out : goal.returns-in-Out
returns-in-Out c end few =
    let same = c.deref-in-Out.ensures.value ∙ c.self.invariant.wires_are ∙ ap wires_of c.self.view_is in
    out_found c.args.self.now c.deref-in-Out.result.now c.args.p.0 end c.args.way _ c.in-Out.is same (c.outputs_of.ensures end few)
