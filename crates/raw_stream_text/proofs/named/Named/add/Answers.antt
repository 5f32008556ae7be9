use Rattle.std.proofs.Common.{◌++◌, ◌∷◌, [], refl, sym, subst}
use Rattle.std.specs.Prelude.{OnOk}
use Rattle.raw_stream_text.specs.declared.line.Line.{Line}
use Rattle.raw_stream_text.specs.declared.named.Named.{Named}
use Rattle.raw_stream_text.specs.Statement.{said_by}
use Rattle.raw_stream_text.specs.Statement.Statement.{Rows, Pre, Feed}
use Rattle.raw_stream_text.specs.Building.{IsNamed}
use Rattle.raw_stream_text.proofs.Naming.{nothing_named, name_defined, sink_named}
use Rattle.raw_stream_text.proofs.named.Named.add.Goals as goal

pub returns-in-Flow : goal.returns-in-Flow
returns-in-Flow c = λ all is.
    subst (λ (said : Line). OnOk c.add_flow.result (IsNamed c.add_flow.new.self (all ++ said_by said ∷ []))) (sym c.in-Flow.is) (c.add_flow.ensures all is)

pub returns-in-Rows : goal.returns-in-Rows
returns-in-Rows c = λ all is.
    subst (λ (said : Line). IsNamed c.args.self.now (all ++ said_by said ∷ [])) (sym c.in-Rows.is) (nothing_named c.args.self.now all is (Rows c.in-Rows.field-0) refl refl refl)

pub returns-in-Input : goal.returns-in-Input
returns-in-Input c = λ all is.
    subst (λ (said : Line). OnOk c.add_input.result (IsNamed c.add_input.new.self (all ++ said_by said ∷ []))) (sym c.in-Input.is) (c.add_input.ensures all is)

pub returns-in-Pre : goal.returns-in-Pre
returns-in-Pre c = λ all is.
    subst (λ (said : Line). OnOk c.define.result (IsNamed c.define.new.self (all ++ said_by said ∷ []))) (sym c.in-Pre.is)
    (name_defined c.args.self.now all is c.define.result c.define.new.self (Pre c.in-Pre.name.now c.in-Pre.field-1.now c.in-Pre.field-2) c.in-Pre.name.now refl refl refl c.define.ensures)

pub returns-in-Out : goal.returns-in-Out
returns-in-Out c = λ all is.
    let new : Named = record { numbers = c.args.self.now.numbers; count = c.args.self.now.count; sources = c.args.self.now.sources; sinks = c.add.new.self } in
    subst (λ (said : Line). OnOk c.add.result (IsNamed new (all ++ said_by said ∷ []))) (sym c.in-Out.is)
    (sink_named c.args.self.now all is c.add.result new c.in-Out.field-0.now c.in-Out.edge refl refl refl c.add.ensures.added)

pub returns-in-Feed : goal.returns-in-Feed
returns-in-Feed c = λ all is.
    subst (λ (said : Line). IsNamed c.args.self.now (all ++ said_by said ∷ [])) (sym c.in-Feed.is) (nothing_named c.args.self.now all is (Feed c.in-Feed.field-0 c.in-Feed.field-1.items) refl refl refl)
