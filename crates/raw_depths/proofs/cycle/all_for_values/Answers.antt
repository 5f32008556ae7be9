use Rattle.std.proofs.Common.{◌≡◌, true, sym, ap, ◌∙◌, arith}
use Rattle.raw_grid.specs.Wires.{consumer_of}
use Rattle.raw_model.specs.Program.{ProgramSet}
use Rattle.raw_depth.specs.Depth.{waits_for_value}
use Rattle.raw_depths.proofs.Waits.{value_is, value_on}
use Rattle.raw_depths.proofs.cycle.all_for_values.Goals as goal

pub loop-step-preserved : goal.loop-step-preserved
loop-step-preserved c =
    let m = c.args.m.now in
    let p = c.loop-step.p.0 in
    let wait = c.in-Some.wait in
    let set_is = c.behind-m.view_is ∙ c.set.ensures.value in
    let leads : c.consumer.result.0 ≡ consumer_of m.set.topo wait.wire.0 =
    c.consumer.ensures ∙ ap (λ (set : ProgramSet). consumer_of set.topo wait.wire.0) set_is in
    let same : c.consumer.result.0 ≡ p = grind arith in
    let value : waits_for_value m.set m.state p ≡ true = value_is m.set m.state p wait.wire.0 c.consumer.result.0 (sym c.in-Some.ensures.wire) leads same in
    record {
      there = c.in-Some.ensures.on_there;
      left = c.loop-step.invariant.left ∙ value_on m.set m.state c.args.count c.loop-step._step p wait.on.0 c.loop-step-test.true (sym c.in-Some.ensures.on) value;
    }
