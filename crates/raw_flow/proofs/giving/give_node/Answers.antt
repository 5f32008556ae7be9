use Rattle.std.proofs.Common.{ℕ, sym, subst}
use Rattle.std.specs.Prelude.{OnOk}
use Rattle.raw_codegen.specs.Parts.{to_tile}
use Rattle.raw_codegen.specs.Limits.{Overflows}
use Rattle.raw_flow.specs.declared.node.Node.{Node}
use Rattle.raw_flow.specs.Places.{with_value}
use Rattle.raw_flow.specs.Compiled.{tiles_in, const_code, node_parts, held_node}
use Rattle.raw_flow.specs.Given.{AreGiven}
use Rattle.raw_flow.proofs.giving.give_node.Goals as goal

pub returns-in_ok-give_const-in-Const-clause-given : goal.returns-in_ok-give_const-in-Const-clause-given
returns-in_ok-give_const-in-Const-clause-given c = λ held are.
    let flow = c.args.flow.now in
    let ports = c.args.ports.now in
    let v = c.args.v in
    let old = c.args.programs.now in
    let new = c.give_const.new.programs in
    subst (λ (node : Node). AreGiven flow (node_parts flow ports held v node) (held_node flow ports held v node) old new c.put.new.self) (sym c.in-Const.is)
    (subst (λ (t : ℕ). AreGiven flow (to_tile t (const_code v c.in-Const.word)) (with_value held v t) old new c.put.new.self) c.home-t.ensures.value
    (record { gives = c.in_ok-give_const-in-Const.ensures.gives (tiles_in flow); marked = c.put.ensures flow held are }))

pub returns-in-Apply-clause-given : goal.returns-in-Apply-clause-given
returns-in-Apply-clause-given c = λ held are.
    let flow = c.args.flow.now in
    let ports = c.args.ports.now in
    subst (λ (node : Node). OnOk c.give_apply.result (AreGiven flow (node_parts flow ports held c.args.v node) (held_node flow ports held c.args.v node) c.args.programs.now c.give_apply.new.programs c.give_apply.new.places))
    (sym c.in-Apply.is) (c.give_apply.ensures.given held are)

pub returns-in-Apply-clause-too_many : goal.returns-in-Apply-clause-too_many
returns-in-Apply-clause-too_many c = λ held are e.
    subst (λ (node : Node). Overflows (tiles_in c.args.flow.now) (node_parts c.args.flow.now c.args.ports.now held c.args.v node) c.args.programs.now) (sym c.in-Apply.is)
    (c.give_apply.ensures.too_many held are e)
