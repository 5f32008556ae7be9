use Rattle.std.proofs.Common.{Ok, sym, subst}
use Rattle.std.specs.Option.{option_map}
use Rattle.raw_flow_text.specs.Statement.{said_by as said_by_flow}
use Rattle.raw_stream_text.specs.Statement.Statement.{Flow}
use Rattle.raw_stream_text.specs.Building.{Adds}
use Rattle.raw_stream_text.proofs.Standing.{idle_input, idle_out}
use Rattle.raw_stream_text.proofs.builder.Builder.add_flow.Goals as goal

pub returns-in-Input : goal.returns-in-Input
returns-in-Input c = λ all is.
    subst (λ l. Adds {T = Unit {0}} c.args.self.now c.args.self.now (option_map (λ topo. topo.now) c.args.claimed) all c.args.line (Ok tt) (Flow (said_by_flow l))) (sym c.in-Input.is)
    (idle_input c.args.self.now (option_map (λ topo. topo.now) c.args.claimed) all c.args.line c.in-Input.field-0.now c.in-Input.field-1)

pub returns-in-Out : goal.returns-in-Out
returns-in-Out c = λ all is.
    subst (λ l. Adds {T = Unit {0}} c.args.self.now c.args.self.now (option_map (λ topo. topo.now) c.args.claimed) all c.args.line (Ok tt) (Flow (said_by_flow l))) (sym c.in-Out.is)
    (idle_out c.args.self.now (option_map (λ topo. topo.now) c.args.claimed) all c.args.line c.in-Out.field-0.now)
