use Rattle.std.proofs.Common.{◌≡◌, length, sym, ap, ◌∙◌, subst}
use Rattle.raw_grid.specs.Topology.{Topology}
use Rattle.raw_model.specs.Program.{ProgramSet, IsSet}
use Rattle.raw_flow.specs.Flows.{Dataflow, IsFlow}
use Rattle.raw_flow.specs.Compiled.{flow_topo}
use Rattle.raw_schedule.specs.Given.{AreWhole}
use Rattle.raw_schedule.specs.Whole.{flow_ports}
use Rattle.raw_schedule.proofs.Sets.{PartsLaws, port_programs, set_is, whole_is_set}
use Rattle.raw_schedule.proofs.whole.set_of.Goals as goal

pub invariant_of-result : goal.invariant_of-result
invariant_of-result c =
    let flow = c.args.flow.now in
    let inputs = c.args.inputs.now in
    let tiles = c.in_ok-tiles.tiles.items in
    let is : IsFlow flow = subst (λ (f : Dataflow). IsFlow f) c.flow.view_is c.flow.invariant in
    let laws : PartsLaws = record { programs = c.law_lawful_parts.ensures.programs; wires = c.law_lawful_parts.ensures.wires; cells = c.law_lawful_parts.ensures.cells; misses = c.law_lawful_parts.ensures.misses } in
    let grid : c.in_ok-topo.topo ≡ flow_topo flow = c.in_ok-topo.ensures.value ∙ ap flow_topo c.flow.view_is in
    let whole : AreWhole (flow_topo flow) tiles = subst (λ (t : Topology). AreWhole t tiles) grid c.in_ok-tiles.ensures in
    let room : c.len.result ≡ length flow.outs = c.len.ensures ∙ c.flow.inside.outs.ok.0 ∙ ap (λ (f : Dataflow). length f.outs) c.flow.view_is in
    let ports : c.in_ok-ports.ports.items ≡ flow_ports flow inputs = c.in_ok-ports.ensures ∙ ap (port_programs inputs) room in
    let same = set_is flow inputs c.in_ok-topo.topo c.in_ok-ports.ports.items tiles c.new.result.items grid ports c.new.ensures.items in
    subst (λ (set : ProgramSet). IsSet set) (sym same) (whole_is_set laws flow inputs is c.words_fit.ensures c.requires.inputs c.requires.outs tiles whole)
