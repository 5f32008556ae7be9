use Rattle.std.proofs.Common.{◌≡◌, [], Err, ap, ◌∙◌, sym}
use Rattle.raw_codegen.specs.Parts.{programs_of}
use Rattle.raw_codegen.specs.Limits.{Overflows}
use Rattle.raw_flow.specs.Given.{AreGiven}
use Rattle.raw_flow.specs.Compiled.{tiles_in, inputs_from, nodes_from, first_held, all_held, flow_parts}
use Rattle.raw_flow.proofs.Sets.{all_given, inputs_long, nodes_long, outs_long}
use Rattle.raw_flow.proofs.compiling.programs.Goals as goal
use Rattle.raw_flow.proofs.compiling.programs.Goals.{After-give_inputs, After-give_nodes, After-give_outs, After-finish}
use Rattle.raw_codegen.specs.Laws.{GivingLaws}

laws : (c : After-give_inputs) → GivingLaws
laws c = c.law_giving.ensures

-- the programs with which it begins
first : (c : After-give_inputs) → c.in_ok-programs.programs ≡ programs_of (tiles_in c.args.flow.now) []
first c = c.in_ok-programs.ensures ∙ ap (λ k. programs_of k []) c.tiles_in.ensures.value

-- what inputs and all other nodes give
inputs_given : (c : After-give_nodes)
    → AreGiven c.args.flow.now (inputs_from c.args.flow.now c.args.ports.now 0 0 c.args.flow.now.nodes) (first_held c.args.flow.now c.args.ports.now) c.in_ok-programs.programs c.give_inputs.new.programs c.give_inputs.new.places
inputs_given c = c.in_ok-give_inputs.ensures.given [] c.in_ok-places.ensures

nodes_given : (c : After-give_outs)
    → AreGiven c.args.flow.now (nodes_from c.args.flow.now c.args.ports.now (first_held c.args.flow.now c.args.ports.now) 0 c.args.flow.now.nodes) (all_held c.args.flow.now c.args.ports.now) c.give_inputs.new.programs c.give_nodes.new.programs c.give_nodes.new.places
nodes_given c = c.in_ok-give_nodes.ensures.given (first_held c.args.flow.now c.args.ports.now) (inputs_given (goal.at.After-give_outs c).After-give_nodes).marked

made : (c : After-finish) → c.give_outs.new.programs ≡ programs_of (tiles_in c.args.flow.now) (flow_parts c.args.flow.now c.args.ports.now)
made c =
    let nodes = nodes_given (goal.at.After-finish c).After-give_outs in
    all_given (laws (goal.at.After-finish c).After-give_inputs) c.args.flow.now c.args.ports.now c.in_ok-programs.programs (first (goal.at.After-finish c).After-give_inputs) c.give_inputs.new.programs c.give_nodes.new.programs c.give_outs.new.programs
    (inputs_given (goal.at.After-finish c).After-give_nodes).gives nodes.gives (c.in_ok-give_outs.ensures.gives (all_held c.args.flow.now c.args.ports.now) nodes.marked)

pub returns-in_err-give_inputs-clause-too_many : goal.returns-in_err-give_inputs-clause-too_many
returns-in_err-give_inputs-clause-too_many c = λ e.
    let k = rw e at c.from_residual-in_err-give_inputs.ensures in
    let at = (goal.at.returns-in_err-give_inputs-clause-too_many c).After-give_inputs in
    let flow = c.args.flow.now in
    let ports = c.args.ports.now in
    let full : Overflows (tiles_in flow) (inputs_from flow ports 0 0 flow.nodes) c.in_ok-programs.programs = c.in_err-give_inputs.ensures.too_many [] c.in_ok-places.ensures (ap (λ r. Err r) (sym k.1)) in
    c.law_giving.ensures.too_long (tiles_in flow) (flow_parts flow ports) (inputs_long (laws at) flow ports c.in_ok-programs.programs (first at) full)

pub returns-in_err-give_nodes-clause-too_many : goal.returns-in_err-give_nodes-clause-too_many
returns-in_err-give_nodes-clause-too_many c = λ e.
    let k = rw e at c.from_residual-in_err-give_nodes.ensures in
    let at = (goal.at.returns-in_err-give_nodes-clause-too_many c).After-give_nodes in
    let now = (goal.at.returns-in_err-give_nodes-clause-too_many c).After-give_inputs in
    let flow = c.args.flow.now in
    let ports = c.args.ports.now in
    let given = inputs_given at in
    c.law_giving.ensures.too_long (tiles_in flow) (flow_parts flow ports)
    (nodes_long (laws now) flow ports c.in_ok-programs.programs (first now) c.give_inputs.new.programs given.gives (c.in_err-give_nodes.ensures.too_many (first_held flow ports) given.marked (ap (λ r. Err r) (sym k.1))))

pub returns-in_err-give_outs-clause-too_many : goal.returns-in_err-give_outs-clause-too_many
returns-in_err-give_outs-clause-too_many c = λ e.
    let k = rw e at c.from_residual-in_err-give_outs.ensures in
    let at = (goal.at.returns-in_err-give_outs-clause-too_many c).After-give_outs in
    let now = (goal.at.returns-in_err-give_outs-clause-too_many c).After-give_inputs in
    let flow = c.args.flow.now in
    let ports = c.args.ports.now in
    let given = nodes_given at in
    c.law_giving.ensures.too_long (tiles_in flow) (flow_parts flow ports)
    (outs_long (laws now) flow ports c.in_ok-programs.programs (first now) c.give_inputs.new.programs c.give_nodes.new.programs (inputs_given (goal.at.returns-in_err-give_outs-clause-too_many c).After-give_nodes).gives given.gives
    (c.in_err-give_outs.ensures.too_many (all_held flow ports) given.marked (ap (λ r. Err r) (sym k.1))))

pub returns-clause-tiles : goal.returns-clause-tiles
returns-clause-tiles c = c.finish.ensures.tiles (tiles_in c.args.flow.now) (flow_parts c.args.flow.now c.args.ports.now) (made (goal.at.returns-clause-tiles c).After-finish)

pub returns-clause-too_many : goal.returns-clause-too_many
returns-clause-too_many c = c.finish.ensures.too_many (tiles_in c.args.flow.now) (flow_parts c.args.flow.now c.args.ports.now) (made (goal.at.returns-clause-too_many c).After-finish)
