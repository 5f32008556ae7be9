use Rattle.std.proofs.Common.{◌≡◌, ◌+◌, ◌++◌, List, None, length, sym, ap, ◌∙◌, arith, append-nil, append_assoc}
use Rattle.std.specs.Prelude.{slice_index_or}
use Rattle.raw_network.specs.Network.{Sent}
use Rattle.raw_model.specs.SwitchTable.{routed}
use Rattle.raw_model.specs.Machine.{sent_to}
use Rattle.raw_processor.proofs.SwitchValues.{unrouted_at, routed_end}
use Rattle.raw_serial.proofs.ByEnds.{sent_from, sent_over, sent_split, sent_nothing}
use Rattle.raw_serial.proofs.telling.list_routes.Goals as goal

pub ends-init : goal.ends-init
ends-init c =
    let sent = routed c.args.step.now c.args.switch.now.regs c.args.given.now in
    let word = c.outputs-word.result in
    let end = c.next_end-end.result in
    let none = ap length c.clear.ensures in
    record {
      whole =
          ap (λ (ms : List Sent). ms ++ sent_from word c.args.wires.now sent end) c.clear.ensures
          ∙ sent_over word c.args.wires.now sent 0 end c.next_end-end.ensures.later c.next_end-end.ensures.least
          (λ end off. unrouted_at c.args.step.now c.args.switch.now.regs c.args.given.now end (sym (c.outputs-word.ensures end) ∙ off));
      few = omega (arith, none);
      there = c.next_end-end.ensures.there;
    }

pub ends-preserved : goal.ends-preserved
ends-preserved c =
    let sent = routed c.args.step.now c.args.switch.now.regs c.args.given.now in
    let word = c.outputs-word.result in
    let wires = c.args.wires.now in
    let old = c.ends.list.items in
    let n = c.ends.end in
    let own = slice_index_or wires n None in
    let later = c.next_end-end-in-ends.ensures.later in
    let passed = sent_over word wires sent (n + 1) c.next_end-end-in-ends.result later c.next_end-end-in-ends.ensures.least
    (λ end off. unrouted_at c.args.step.now c.args.switch.now.regs c.args.given.now end (sym (c.outputs-word.ensures end) ∙ off)) in
    let is : c.sent_from-value.result ≡ slice_index_or sent n None =
    c.sent_from-value.ensures ∙ sym (routed_end c.args.step.now c.args.switch.now.regs c.args.given.now n (omega arith)) in
    record {
      whole =
          ap (λ (ms : List Sent). c.push_sent.new.list.items ++ ms) passed
          ∙ ap (λ (ms : List Sent). ms ++ sent_from word wires sent (n + 1)) (c.push_sent.ensures.items ∙ ap (λ v. old ++ sent_to own v) is)
          ∙ append_assoc old (sent_to own (slice_index_or sent n None)) (sent_from word wires sent (n + 1))
          ∙ ap (λ (ms : List Sent). old ++ ms) (sym (sent_split word wires sent n (omega arith)))
          ∙ c.ends.invariant.whole;
      few = omega (arith, c.push_sent.ensures.few, c.ends.invariant.few, later);
      there = c.next_end-end-in-ends.ensures.there;
    }

pub returns : goal.returns
returns c =
    let items = c.ends.list.items in
    sym (append-nil items)
    ∙ ap (λ (ms : List Sent). items ++ ms)
    (sym (sent_nothing c.outputs-word.result c.args.wires.now (routed c.args.step.now c.args.switch.now.regs c.args.given.now) c.ends.end (omega arith)))
    ∙ c.ends.invariant.whole
