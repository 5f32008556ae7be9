use Rattle.std.proofs.Common.{refl, sym, ap, ◌∙◌}
use Rattle.std.specs.Option.{option_map, is_some}
use Rattle.raw_set_text.specs.declared.kind.SetKind.TheVariants.{BadSize, Repeated}
use Rattle.raw_flow_text.specs.Statement.Statement.{Grid as FlowGrid}
use Rattle.raw_stream_text.specs.Statement.Statement.{Flow}
use Rattle.raw_stream_text.proofs.Standing.{says, grid_fault, grid_added}
use Rattle.raw_stream_text.proofs.builder.Builder.add_grid.Goals as goal

pub returns-then-is_bad_size : goal.returns-then-is_bad_size
returns-then-is_bad_size c = λ all.
    says c.args.self.now _ (option_map (λ topo. topo.now) c.args.claimed) all c.args.line _ (Flow (FlowGrid c.args.columns c.args.rows)) BadSize c.at.ensures
    (λ said rest split stands. grid_fault (option_map (λ topo. topo.now) c.args.claimed) all said c.args.columns c.args.rows ∙ rw (sym c.is_bad_size.ensures ∙ c.if-is_bad_size.true) refl)

pub returns-then-is_some : goal.returns-then-is_some
returns-then-is_some c = λ all.
    says c.args.self.now _ (option_map (λ topo. topo.now) c.args.claimed) all c.args.line _ (Flow (FlowGrid c.args.columns c.args.rows)) Repeated c.at-then-is_some.ensures
    (λ said rest split stands. grid_fault (option_map (λ topo. topo.now) c.args.claimed) all said c.args.columns c.args.rows ∙ rw (sym c.is_bad_size.ensures ∙ c.if-is_bad_size.false, ap is_some (sym stands.size) ∙ sym c.is_some.ensures ∙ c.if-is_some.true) refl)

pub returns : goal.returns
returns c = λ all. record {
  fault = λ said rest split stands. grid_fault (option_map (λ topo. topo.now) c.args.claimed) all said c.args.columns c.args.rows ∙ rw (sym c.is_bad_size.ensures ∙ c.if-is_bad_size.false, (ap is_some (sym stands.size) ∙ sym c.is_some.ensures ∙ c.if-is_some.false)) refl;
  stands = λ said rest split stands. grid_added c.args.self.now _ all said (Flow (FlowGrid c.args.columns c.args.rows)) stands (c.args.columns, c.args.rows) (ap is_some (sym stands.size) ∙ sym c.is_some.ensures ∙ c.if-is_some.false) refl refl refl refl refl refl refl refl refl refl;
}
