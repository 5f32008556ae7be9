use Rattle.std.proofs.Common.{◌≡◌, ℕ, ◌<◌, ◌≤◌, List, length, Some, Err, ap, ◌∙◌, sym, subst, arith}
use Rattle.std.specs.Prelude.{slice_get}
use Rattle.std.proofs.lemmas.Option.{slice_get-get_or}
use Rattle.raw_flow.specs.Flows.{Dataflow}
use Rattle.raw_flow.specs.Compiled.{outs_from}
use Rattle.raw_flow.proofs.Picked.{drop_past}
use Rattle.raw_flow.proofs.Phases.{held_outs}
use Rattle.raw_flow.proofs.Steps.{outs_rest, outs_last, out_chunk, at_next, too_long, at_last}
use Rattle.raw_flow.proofs.compiling.give_outs.Goals as goal

pub returns-in_err-give_out-clause-too_many : goal.returns-in_err-give_out-clause-too_many
returns-in_err-give_out-clause-too_many c = λ held are e.
    let k = rw e at c.from_residual.ensures in
    let flow = c.args.flow.now in
    let ports = c.args.ports.now in
    let i = c.loop-i.i in
    let at = c.loop-i.invariant held are in
    let v = c.index.result.now in
    let items = c.flow.inside.outs.items in
    let within : i < length items = let a = c.loop-i-test.true in let b = c.len-i-end.ensures in let d = c.flow.inside.outs.ok.0 in omega arith in
    let there : slice_get flow.outs i ≡ Some v =
    subst (λ (xs : List ℕ). slice_get xs i ≡ Some v) (ap (λ (f : Dataflow). f.outs) c.flow.view_is) (slice_get-get_or items i v within ∙ ap (λ (x : ℕ). Some x) (sym c.index.ensures)) in
    too_long c.law_giving.ensures flow (outs_rest flow ports) (outs_last flow ports) held c.args.programs.now c.loop-i.programs c.loop-i.places i at (out_chunk flow ports at.held i v there)
    (c.in_err-give_out.ensures.too_many at.held at.marked (ap (λ r. Err r) (sym k.1)))

pub loop-i-preserved : goal.loop-i-preserved
loop-i-preserved c =
    let flow = c.args.flow.now in
    let ports = c.args.ports.now in
    let i = c.loop-i.i in
    let v = c.index.result.now in
    let items = c.flow.inside.outs.items in
    let within : i < length items = let a = c.loop-i-test.true in let b = c.len-i-end.ensures in let d = c.flow.inside.outs.ok.0 in omega arith in
    let there : slice_get flow.outs i ≡ Some v =
    subst (λ (xs : List ℕ). slice_get xs i ≡ Some v) (ap (λ (f : Dataflow). f.outs) c.flow.view_is) (slice_get-get_or items i v within ∙ ap (λ (x : ℕ). Some x) (sym c.index.ensures)) in
    λ held are.
    let at = c.loop-i.invariant held are in
    at_next c.law_giving.ensures flow (outs_rest flow ports) (outs_last flow ports) held c.args.programs.now c.loop-i.programs c.loop-i.places i at
    (out_chunk flow ports at.held i v there) c.give_out.new.programs c.give_out.new.places (c.in_ok-give_out.ensures.given at.held at.marked)

pub returns-clause-gives : goal.returns-clause-gives
returns-clause-gives c = λ held are.
    let flow = c.args.flow.now in
    let ports = c.args.ports.now in
    let i = c.loop-i.i in
    let at = c.loop-i.invariant held are in
    let past : length flow.outs ≤ i =
    let a = c.loop-i-test.false in let b = c.len-i-end.ensures in let d = c.flow.inside.outs.ok.0 in let e = ap (λ (f : Dataflow). length f.outs) c.flow.view_is in omega arith in
    (at_last c.law_giving.ensures flow (outs_rest flow ports) (outs_last flow ports) held c.args.programs.now c.loop-i.programs c.loop-i.places i at
    (ap (outs_from flow ports at.held i) (drop_past flow.outs i past)) (ap (held_outs flow ports at.held i) (drop_past flow.outs i past))).gives
