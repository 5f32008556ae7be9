use Rattle.std.proofs.Common.{sym, subst, arith}
use Rattle.raw_flow.specs.declared.node.Node.{Node}
use Rattle.raw_flow.specs.Compiled.{input_parts, held_input}
use Rattle.raw_flow.specs.Given.{AreGiven}
use Rattle.raw_flow.proofs.Counting.{few_inputs, no_less}
use Rattle.raw_flow.proofs.giving.give_input.Goals as goal

pub overflow_add-result : goal.overflow_add-result
overflow_add-result c =
    let few = few_inputs c.args.flow.now.nodes in
    let limit = c.requires.stands.few_nodes in
    let within = c.requires.inputs in
    let more = no_less c.args.node c.args.k in
    omega arith

pub returns-in_ok-take_input-in-Input-clause-given : goal.returns-in_ok-take_input-in-Input-clause-given
returns-in_ok-take_input-in-Input-clause-given c = λ held are.
    let flow = c.args.flow.now in
    let ports = c.args.ports.now in
    subst (λ (node : Node). AreGiven flow (input_parts flow ports c.args.k c.args.v node) (held_input flow ports held c.args.k c.args.v node) c.args.programs.now c.take_input.new.programs c.take_input.new.places)
    (sym c.in-Input.is) (c.in_ok-take_input-in-Input.ensures.given held are)
