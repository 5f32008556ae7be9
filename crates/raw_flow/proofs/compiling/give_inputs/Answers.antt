use Rattle.std.proofs.Common.{◌≡◌, ◌<◌, ◌≤◌, List, ◌+◌, length, take, Some, Err, refl, ap, ◌∙◌, sym, subst, arith}
use Rattle.std.specs.Prelude.{slice_get}
use Rattle.std.proofs.lemmas.Option.{slice_get-get_or, get_or_from_slice_get}
use Rattle.raw_flow.specs.declared.node.Node.{Node}
use Rattle.raw_flow.specs.Compiled.{tiles_in, input_parts, held_input, inputs_from, held_inputs}
use Rattle.raw_flow.specs.Given.{AreGiven}
use Rattle.raw_codegen.specs.Limits.{Overflows}
use Rattle.raw_flow.specs.Flows.{Dataflow, with_input, inputs_in}
use Rattle.raw_flow.proofs.Counting.{few_before, inputs_next}
use Rattle.raw_flow.proofs.Picked.{drop_past}
use Rattle.raw_flow.proofs.Steps.{inputs_rest, inputs_last, input_chunk, at_first, at_next, too_long, at_last}
use Rattle.raw_flow.proofs.compiling.give_inputs.Goals as goal

pub loop-v-init : goal.loop-v-init
loop-v-init c =
    let flow = c.args.flow.now in
    let ports = c.args.ports.now in
    record {
      taken = refl;
      given = λ held are. at_first c.law_giving.ensures flow (inputs_rest flow ports) (inputs_last flow ports) held c.args.programs.now c.args.places.now are;
    }

pub give_input-requires-clause-inputs : goal.give_input-requires-clause-inputs
give_input-requires-clause-inputs c =
    let flow = c.args.flow.now in
    let ports = c.args.ports.now in
    let v = c.loop-v.v in
    let node = c.index.result.now in
    let items = c.flow.inside.nodes.items in
    let within : v < length items = let a = c.loop-v-test.true in let b = c.len-v-end.ensures in let d = c.flow.inside.nodes.ok.0 in omega arith in
    let there : slice_get flow.nodes v ≡ Some node =
    subst (λ (xs : List Node). slice_get xs v ≡ Some node) (ap (λ (f : Dataflow). f.nodes) c.flow.view_is) (slice_get-get_or items v node within ∙ ap (λ (x : Node). Some x) (sym c.index.ensures)) in
    let inside : v < length flow.nodes = let long = ap (λ (f : Dataflow). length f.nodes) c.flow.view_is in omega arith in
    let next : with_input node c.loop-v.taken ≡ inputs_in (take (v + 1) flow.nodes) =
    ap (with_input node) c.loop-v.invariant.taken
    ∙ ap (λ (n : Node). with_input n (inputs_in (take v flow.nodes))) (sym (get_or_from_slice_get flow.nodes v node node there))
    ∙ sym (inputs_next flow.nodes v node inside) in
    subst (λ n. n ≤ inputs_in flow.nodes) (sym next) (few_before flow.nodes (v + 1))

pub returns-in_err-taken-clause-too_many : goal.returns-in_err-taken-clause-too_many
returns-in_err-taken-clause-too_many c = λ held are e.
    let k = rw e at c.from_residual.ensures in
    let flow = c.args.flow.now in
    let ports = c.args.ports.now in
    let v = c.loop-v.v in
    let node = c.index.result.now in
    let items = c.flow.inside.nodes.items in
    let within : v < length items = let a = c.loop-v-test.true in let b = c.len-v-end.ensures in let d = c.flow.inside.nodes.ok.0 in omega arith in
    let there : slice_get flow.nodes v ≡ Some node =
    subst (λ (xs : List Node). slice_get xs v ≡ Some node) (ap (λ (f : Dataflow). f.nodes) c.flow.view_is) (slice_get-get_or items v node within ∙ ap (λ (x : Node). Some x) (sym c.index.ensures)) in
    let at = c.loop-v.invariant.given held are in
    too_long c.law_giving.ensures flow (inputs_rest flow ports) (inputs_last flow ports) held c.args.programs.now c.loop-v.programs c.loop-v.places v at (input_chunk flow ports at.held v node there)
    (subst (λ n. Overflows (tiles_in flow) (input_parts flow ports n v node) c.loop-v.programs) c.loop-v.invariant.taken (c.in_err-taken.ensures.too_many (ap (λ r. Err r) (sym k.1))))

pub loop-v-preserved : goal.loop-v-preserved
loop-v-preserved c =
    let flow = c.args.flow.now in
    let ports = c.args.ports.now in
    let v = c.loop-v.v in
    let node = c.index.result.now in
    let items = c.flow.inside.nodes.items in
    let within : v < length items = let a = c.loop-v-test.true in let b = c.len-v-end.ensures in let d = c.flow.inside.nodes.ok.0 in omega arith in
    let there : slice_get flow.nodes v ≡ Some node =
    subst (λ (xs : List Node). slice_get xs v ≡ Some node) (ap (λ (f : Dataflow). f.nodes) c.flow.view_is) (slice_get-get_or items v node within ∙ ap (λ (x : Node). Some x) (sym c.index.ensures)) in
    let inside : v < length flow.nodes = let long = ap (λ (f : Dataflow). length f.nodes) c.flow.view_is in omega arith in
    let next : with_input node c.loop-v.taken ≡ inputs_in (take (v + 1) flow.nodes) =
    ap (with_input node) c.loop-v.invariant.taken
    ∙ ap (λ (n : Node). with_input n (inputs_in (take v flow.nodes))) (sym (get_or_from_slice_get flow.nodes v node node there))
    ∙ sym (inputs_next flow.nodes v node inside) in
    record {
      taken = c.in_ok-taken.ensures.count ∙ next;
      given = λ held are.
          let at = c.loop-v.invariant.given held are in
          at_next c.law_giving.ensures flow (inputs_rest flow ports) (inputs_last flow ports) held c.args.programs.now c.loop-v.programs c.loop-v.places v at
          (input_chunk flow ports at.held v node there) c.give_input.new.programs c.give_input.new.places
          (subst (λ n. AreGiven flow (input_parts flow ports n v node) (held_input flow ports at.held n v node) c.loop-v.programs c.give_input.new.programs c.give_input.new.places) c.loop-v.invariant.taken
          (c.in_ok-taken.ensures.given at.held at.marked));
    }

pub returns-clause-given : goal.returns-clause-given
returns-clause-given c = λ held are.
    let flow = c.args.flow.now in
    let ports = c.args.ports.now in
    let v = c.loop-v.v in
    let at = c.loop-v.invariant.given held are in
    let past : length flow.nodes ≤ v =
    let a = c.loop-v-test.false in let b = c.len-v-end.ensures in let d = c.flow.inside.nodes.ok.0 in let e = ap (λ (f : Dataflow). length f.nodes) c.flow.view_is in omega arith in
    let k = inputs_in (take v flow.nodes) in
    at_last c.law_giving.ensures flow (inputs_rest flow ports) (inputs_last flow ports) held c.args.programs.now c.loop-v.programs c.loop-v.places v at
    (ap (inputs_from flow ports k v) (drop_past flow.nodes v past)) (ap (held_inputs flow ports at.held k v) (drop_past flow.nodes v past))
