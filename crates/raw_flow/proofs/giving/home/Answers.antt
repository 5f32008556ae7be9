use Rattle.std.proofs.Common.{◌≡◌, ◌<◌, ◌%◌, List, length, Some, ap, ◌∙◌, sym, subst, arith}
use Rattle.std.specs.Prelude.{slice_get}
use Rattle.std.proofs.lemmas.Option.{slice_get-get_or}
use Rattle.raw_flow.specs.declared.node.Node.{Node}
use Rattle.raw_flow.specs.Flows.{Dataflow, inputs_in}
use Rattle.raw_flow.specs.Compiled.{source_tile}
use Rattle.raw_flow.proofs.Counting.{before_input}
use Rattle.raw_flow.proofs.Homes.{input_home, const_home, apply_home}
use Rattle.raw_flow.proofs.giving.home.Goals as goal

pub source_tile-requires-clause-input : goal.source_tile-requires-clause-input
source_tile-requires-clause-input c =
    let flow = c.args.flow.now in
    let v = c.args.v in
    let node = c.index.result.now in
    let items = c.flow.inside.nodes.items in
    let within : v < length items = let a = c.requires.value in let long = ap (λ (f : Dataflow). length f.nodes) c.flow.view_is in omega arith in
    let there : slice_get flow.nodes v ≡ Some node =
    subst (λ (xs : List Node). slice_get xs v ≡ Some node) (ap (λ (f : Dataflow). f.nodes) c.flow.view_is) (slice_get-get_or items v node within ∙ ap (λ (x : Node). Some x) (sym c.index.ensures)) in
    subst (λ n. n < inputs_in flow.nodes) (sym c.inputs_before.ensures) (before_input flow.nodes v (there ∙ ap (λ (x : Node). Some x) c.in-Input.is))

pub returns-in-Input-clause-value : goal.returns-in-Input-clause-value
returns-in-Input-clause-value c =
    let flow = c.args.flow.now in
    let v = c.args.v in
    let node = c.index.result.now in
    let items = c.flow.inside.nodes.items in
    let within : v < length items = let a = c.requires.value in let long = ap (λ (f : Dataflow). length f.nodes) c.flow.view_is in omega arith in
    let there : slice_get flow.nodes v ≡ Some node =
    subst (λ (xs : List Node). slice_get xs v ≡ Some node) (ap (λ (f : Dataflow). f.nodes) c.flow.view_is) (slice_get-get_or items v node within ∙ ap (λ (x : Node). Some x) (sym c.index.ensures)) in
    let ports = c.args.ports.now in
    c.source_tile.ensures.value ∙ ap (source_tile flow ports) c.inputs_before.ensures ∙ sym (input_home flow ports v (there ∙ ap (λ (x : Node). Some x) c.in-Input.is))

pub returns-in-Const-clause-value : goal.returns-in-Const-clause-value
returns-in-Const-clause-value c =
    let flow = c.args.flow.now in
    let v = c.args.v in
    let node = c.index.result.now in
    let items = c.flow.inside.nodes.items in
    let within : v < length items = let a = c.requires.value in let long = ap (λ (f : Dataflow). length f.nodes) c.flow.view_is in omega arith in
    let there : slice_get flow.nodes v ≡ Some node =
    subst (λ (xs : List Node). slice_get xs v ≡ Some node) (ap (λ (f : Dataflow). f.nodes) c.flow.view_is) (slice_get-get_or items v node within ∙ ap (λ (x : Node). Some x) (sym c.index.ensures)) in
    ap (λ n. v % n) c.tiles_in.ensures.value ∙ sym (const_home flow c.args.ports.now v c.in-Const.word (there ∙ ap (λ (x : Node). Some x) c.in-Const.is))

pub returns-in-Apply-clause-value : goal.returns-in-Apply-clause-value
returns-in-Apply-clause-value c =
    let flow = c.args.flow.now in
    let v = c.args.v in
    let node = c.index.result.now in
    let items = c.flow.inside.nodes.items in
    let within : v < length items = let a = c.requires.value in let long = ap (λ (f : Dataflow). length f.nodes) c.flow.view_is in omega arith in
    let there : slice_get flow.nodes v ≡ Some node =
    subst (λ (xs : List Node). slice_get xs v ≡ Some node) (ap (λ (f : Dataflow). f.nodes) c.flow.view_is) (slice_get-get_or items v node within ∙ ap (λ (x : Node). Some x) (sym c.index.ensures)) in
    ap (λ n. v % n) c.tiles_in-in-Apply.ensures.value ∙ sym (apply_home flow c.args.ports.now v c.in-Apply.op c.in-Apply.a c.in-Apply.b (there ∙ ap (λ (x : Node). Some x) c.in-Apply.is))
