use Rattle.std.proofs.Common.{◌≡◌, ◌+◌, ◌-◌, ◌++◌, Some, sym, ap, ◌∙◌, append-nil, append_assoc}
use Rattle.std.specs.List.{flat_map}
use Rattle.raw_cycle.specs.Chains.{stretch}
use Rattle.raw_model.specs.Waits.{waits_for}
use Rattle.raw_model.specs.StateTexts.{wait_line}
use Rattle.raw_depths.proofs.Waits.{waits_on, waits_end}
use Rattle.raw_depths.proofs.cycle.wait_lines.Goals as goal

pub returns-in-None : goal.returns-in-None
returns-in-None c =
    let m = c.args.m.now in
    let lines = c.loop-step.lines.items in
    sym (append-nil lines)
    ∙ ap (λ z. lines ++ z) (sym (waits_end m.set m.state c.args.count c.loop-step._step c.loop-step.p.0 c.loop-step-test.true (sym c.in-None.ensures.wire)))
    ∙ c.loop-step.invariant.left

pub loop-step-preserved : goal.loop-step-preserved
loop-step-preserved c =
    let m = c.args.m.now in
    let p = c.loop-step.p.0 in
    let wait = c.in-Some.wait in
    let lines = c.loop-step.lines.items in
    let line = wait_line m.set m.state p in
    let rest = flat_map (wait_line m.set m.state) (stretch (waits_for m.set m.state) (c.args.count - (c.loop-step._step + 1)) (Some wait.on.0)) in
    let added : c.extend_from_slice.new.self.items ≡ lines ++ line =
    c.in_ok-extend_from_slice-in-Some.ensures.items ∙ ap (λ z. lines ++ z) (c.as_bytes.ensures ∙ c.wait_line-line.ensures) in
    record {
      there = c.in-Some.ensures.on_there;
      left = ap (λ z. z ++ rest) added
          ∙ append_assoc lines line rest
          ∙ ap (λ z. lines ++ z) (sym (waits_on m.set m.state c.args.count c.loop-step._step p wait.on.0 c.loop-step-test.true (sym c.in-Some.ensures.on)))
          ∙ c.loop-step.invariant.left;
    }
