use Rattle.std.proofs.Common.{◌++◌, ◌∷◌, [], refl, sym, subst}
use Rattle.std.specs.Prelude.{OnOk}
use Rattle.raw_flow_text.specs.declared.line.Line.{Line as FlowLine}
use Rattle.raw_flow_text.specs.Statement.{said_by as said_by_flow}
use Rattle.raw_flow_text.specs.Statement.Statement.{Grid as FlowGrid, Input as FlowInput, Const as FlowConst, Apply as FlowApply, Out as FlowOut}
use Rattle.raw_stream_text.specs.Statement.Statement.{Flow}
use Rattle.raw_stream_text.specs.Building.{IsNamed}
use Rattle.raw_stream_text.proofs.Naming.{nothing_named, name_defined}
use Rattle.raw_stream_text.proofs.named.Named.add_flow.Goals as goal

pub returns-in-Grid : goal.returns-in-Grid
returns-in-Grid c = λ all is.
    subst (λ (said : FlowLine). IsNamed c.args.self.now (all ++ Flow (said_by_flow said) ∷ [])) (sym c.in-Grid.is)
    (nothing_named c.args.self.now all is (Flow (FlowGrid c.in-Grid.field-0 c.in-Grid.field-1)) refl refl refl)

pub returns-in-Input : goal.returns-in-Input
returns-in-Input c = λ all is.
    subst (λ (said : FlowLine). IsNamed c.args.self.now (all ++ Flow (said_by_flow said) ∷ [])) (sym c.in-Input.is)
    (nothing_named c.args.self.now all is (Flow (FlowInput c.in-Input.field-0.now c.in-Input.field-1)) refl refl refl)

pub returns-in-Const : goal.returns-in-Const
returns-in-Const c = λ all is.
    subst (λ (said : FlowLine). OnOk c.define.result (IsNamed c.define.new.self (all ++ Flow (said_by_flow said) ∷ []))) (sym c.in-Const.is)
    (name_defined c.args.self.now all is c.define.result c.define.new.self (Flow (FlowConst c.in-Const.name.now c.in-Const.field-1)) c.in-Const.name.now refl refl refl c.define.ensures)

pub returns-in-Apply : goal.returns-in-Apply
returns-in-Apply c = λ all is.
    subst (λ (said : FlowLine). OnOk c.define-in-Apply.result (IsNamed c.define-in-Apply.new.self (all ++ Flow (said_by_flow said) ∷ []))) (sym c.in-Apply.is)
    (name_defined c.args.self.now all is c.define-in-Apply.result c.define-in-Apply.new.self (Flow (FlowApply c.in-Apply.name.now c.in-Apply.field-1 c.in-Apply.field-2.now c.in-Apply.field-3.now)) c.in-Apply.name.now refl refl refl c.define-in-Apply.ensures)

pub returns-in-Out : goal.returns-in-Out
returns-in-Out c = λ all is.
    subst (λ (said : FlowLine). IsNamed c.args.self.now (all ++ Flow (said_by_flow said) ∷ [])) (sym c.in-Out.is)
    (nothing_named c.args.self.now all is (Flow (FlowOut c.in-Out.field-0.now)) refl refl refl)
