use Rattle.std.proofs.Common.{◌≡◌, [], length, ◌∙◌, sym, arith, ap}
use Rattle.std.proofs.lemmas.List.{ext_get_or, length-map}
use Rattle.raw_serial.proofs.wires.Wires.copy_from.Goals as goal

pub returns : goal.returns
returns c =
    let viewed = ap length c.self.view_is in
    let mapped = length-map c.self.inside.queues.items (λ q. q.items) in
    let whole = c.self.inside.queues.ok.0 in
    let many : length c.args.self.now ≡ c.len-w-end.result = omega (arith, viewed, mapped, whole, c.len-w-end.ensures) in
    let same = c.loop-w.invariant.0 in
    ext_get_or [] c.loop-w.self c.args.other.now (same ∙ sym c.requires)
    (λ i below. c.loop-w.invariant.1 i (omega (arith, below, same, many, c.loop-w-test.false)))
