use Rattle.std.proofs.Common.{◌≡◌, ◌<◌, ℕ, List, true, false, eqb, length, refl, sym, ap, ◌∙◌, subst, arith}
use Rattle.std.specs.Vec.{vec_len}
use Rattle.std.proofs.lemmas.Bool.{lt-ltb, le-ltb}
use Rattle.raw_flow.specs.declared.limits.TheConstants.{MAX_NODES}
use Rattle.raw_flow_text.specs.Flows.{FedFlow, IsFed, fed_by}
use Rattle.raw_flow.specs.Flows.{Dataflow}
use Rattle.raw_flow_text.proofs.Ending.{no_grid, no_out, by_count, built}
use Rattle.raw_flow_text.proofs.builder.Builder.finish.Goals as goal

pub returns-in_default-clause-fault : goal.returns-in_default-clause-fault
returns-in_default-clause-fault c = λ said stands. rw c.at.ensures (refl, no_grid c.args.self said stands c.in_default.is)

pub returns-then-is_empty-clause-fault : goal.returns-then-is_empty-clause-fault
returns-then-is_empty-clause-fault c = λ said stands.
    let long : vec_len c.args.self.outs ≡ length c.args.self.outs.items = omega arith in
    rw c.at-then-is_empty.ensures (refl, no_out c.args.self said stands (ap (λ n. eqb n 0) (sym long) ∙ sym c.is_empty.ensures ∙ c.if-is_empty.true))

pub returns-then-len-gt-MAX_NODES-clause-fault : goal.returns-then-len-gt-MAX_NODES-clause-fault
returns-then-len-gt-MAX_NODES-clause-fault c = λ said stands.
    let long : vec_len c.args.self.outs ≡ length c.args.self.outs.items = omega arith in
    let many : MAX_NODES < length c.args.self.nodes.items = omega arith in
    rw c.at-then-len-gt-MAX_NODES.ensures (
      refl,
      by_count c.args.self said stands (c.in-Some.cols, c.in-Some.rows) true c.in-Some.is (ap (λ n. eqb n 0) (sym long) ∙ sym c.is_empty.ensures ∙ c.if-is_empty.false) (lt-ltb MAX_NODES (length c.args.self.nodes.items) many),
    )

abbrev fed_with : Dataflow → List ℕ → FedFlow
fed_with flow inputs = record { flow = flow; inputs = inputs }

is_same : (flow made : Dataflow) (inputs : List ℕ) (fed : FedFlow) → flow ≡ made → fed_with made inputs ≡ fed → IsFed fed → IsFed (fed_with flow inputs)
is_same flow made inputs fed same built is = subst IsFed (sym (ap (λ (f : Dataflow). fed_with f inputs) same ∙ built)) is

pub invariant_of-result : goal.invariant_of-result
invariant_of-result c =
    let said = c.requires.0 in
    let stands = c.requires.1 in
    let long : vec_len c.args.self.outs ≡ length c.args.self.outs.items = omega arith in
    let ended = by_count c.args.self said stands (c.in-Some.cols, c.in-Some.rows) false c.in-Some.is (ap (λ n. eqb n 0) (sym long) ∙ sym c.is_empty.ensures ∙ c.if-is_empty.false) (le-ltb MAX_NODES (length c.args.self.nodes.items) (omega arith)) in
    is_same c.in-Some-new.flow _ c.args.self.inputs.items (fed_by said) (c.in-Some-new.ensures {u = tt}).value (built c.args.self said stands c.in-Some.cols c.in-Some.rows c.in-Some.is) (c.requires.2 ended)

pub unreachable-requires : goal.unreachable-requires
unreachable-requires c =
    let said = c.requires.0 in
    let stands = c.requires.1 in
    let long : vec_len c.args.self.outs ≡ length c.args.self.outs.items = omega arith in
    let ended = by_count c.args.self said stands (c.in-Some.cols, c.in-Some.rows) false c.in-Some.is (ap (λ n. eqb n 0) (sym long) ∙ sym c.is_empty.ensures ∙ c.if-is_empty.false) (le-ltb MAX_NODES (length c.args.self.nodes.items) (omega arith)) in
    let fed = subst IsFed (sym (built c.args.self said stands c.in-Some.cols c.in-Some.rows c.in-Some.is)) (c.requires.2 ended) in
    c.new.ensures.none c.in-None.is fed.flow

pub returns-clause-fault : goal.returns-clause-fault
returns-clause-fault c = λ said stands.
    let long : vec_len c.args.self.outs ≡ length c.args.self.outs.items = omega arith in
    by_count c.args.self said stands (c.in-Some.cols, c.in-Some.rows) false c.in-Some.is (ap (λ n. eqb n 0) (sym long) ∙ sym c.is_empty.ensures ∙ c.if-is_empty.false) (le-ltb MAX_NODES (length c.args.self.nodes.items) (omega arith))

pub returns-clause-fed : goal.returns-clause-fed
returns-clause-fed c = λ said stands.
    ap (λ (flow : Dataflow). fed_with flow c.args.self.inputs.items) ((c.in-Some-new.ensures {u = tt}).value) ∙ built c.args.self said stands c.in-Some.cols c.in-Some.rows c.in-Some.is
