use Rattle.std.proofs.Common.{◌∙◌, ap}
use Rattle.raw_grid.specs.Wires.{wires_of}
use Rattle.raw_grid.proofs.Found.{in_found, out_found}
use Rattle.raw_grid.proofs.grid.Topo.wire_at_end.Goals as goal

pub returns-in-In-clause-value : goal.returns-in-In-clause-value
returns-in-In-clause-value c =
    let same = c.deref.ensures.value ∙ c.self.invariant.wires_are ∙ ap wires_of c.self.view_is in
    in_found c.args.self.now c.deref.result.now c.args.p.0 c.args.end c.args.way _ c.in-In.is same (c.wire_id.ensures ∙ c.find_input.ensures.value)

pub returns-in-Out-clause-value : goal.returns-in-Out-clause-value
returns-in-Out-clause-value c =
    let same = c.deref-in-Out.ensures.value ∙ c.self.invariant.wires_are ∙ ap wires_of c.self.view_is in
    out_found c.args.self.now c.deref-in-Out.result.now c.args.p.0 c.args.end c.args.way _ c.in-Out.is same (c.wire_id-in-Out.ensures ∙ c.find_output.ensures.value)
