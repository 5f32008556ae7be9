use Rattle.std.proofs.Common.{◌≡◌, ℕ, ◌+◌, ◌<◌, ◌≤◌, List, Option, None, length, ap, sym, subst, ◌∙◌, arith}
use Rattle.std.specs.Prelude.{slice_index_or}
use Rattle.std.specs.List.{All}
use Rattle.raw_network.specs.Network.{Sent, values_on, appended}
use Rattle.raw_network.specs.Runs.{sent_on}
use Rattle.raw_model.specs.SwitchTable.{routed}
use Rattle.raw_model.specs.Machine.{sent_to}
use Rattle.raw_processor.proofs.SwitchValues.{unrouted_at, routed_end}
use Rattle.raw_serial.proofs.ByEnds.{sent_over, sent_nothing, there_here, room_here, room_more, room_over, appended_more}
use Rattle.raw_serial.proofs.wires.Wires.put_routes.Goals as goal

pub ends-init : goal.ends-init
ends-init c =
    let sent = routed c.args.step.now c.args.switch.now.regs c.args.given.now in
    let passed = sent_over c.outputs-word.result c.args.wires.now sent 0 c.next_end-end.result c.next_end-end.ensures.later c.next_end-end.ensures.least
    (λ end off. unrouted_at c.args.step.now c.args.switch.now.regs c.args.given.now end (sym (c.outputs-word.ensures end) ∙ off)) in
    record {
      whole = ap (λ (ms : List Sent). appended ms c.args.self.now) passed;
      have = room_over c.outputs-word.result c.args.wires.now sent c.args.self.now 0 c.next_end-end.result passed (record { there = c.requires.there; room = c.requires.room });
      there = c.next_end-end.ensures.there;
    }

pub put_where-requires-clause-there : goal.put_where-requires-clause-there
put_where-requires-clause-there c =
    let sent = routed c.args.step.now c.args.switch.now.regs c.args.given.now in
    let is : c.sent_from-value.result ≡ slice_index_or sent c.ends.end None =
    c.sent_from-value.ensures ∙ sym (routed_end c.args.step.now c.args.switch.now.regs c.args.given.now c.ends.end (omega arith)) in
    subst (λ (v : Option ℕ). All (λ (m : Sent). m.wire < length c.ends.self) (sent_to (slice_index_or c.args.wires.now c.ends.end None) v)) (sym is)
    (there_here c.outputs-word.result c.args.wires.now sent c.ends.self c.ends.end (omega arith) c.ends.invariant.have)

pub put_where-requires-clause-room : goal.put_where-requires-clause-room
put_where-requires-clause-room c =
    let sent = routed c.args.step.now c.args.switch.now.regs c.args.given.now in
    let is : c.sent_from-value.result ≡ slice_index_or sent c.ends.end None =
    c.sent_from-value.ensures ∙ sym (routed_end c.args.step.now c.args.switch.now.regs c.args.given.now c.ends.end (omega arith)) in
    subst (λ (v : Option ℕ). (w : ℕ) → 0 < length (sent_on w (sent_to (slice_index_or c.args.wires.now c.ends.end None) v))
    → length (values_on c.ends.self w) + length (sent_on w (sent_to (slice_index_or c.args.wires.now c.ends.end None) v)) ≤ 8) (sym is)
    (room_here c.outputs-word.result c.args.wires.now sent c.ends.self c.ends.end (omega arith) c.ends.invariant.have)

pub ends-preserved : goal.ends-preserved
ends-preserved c =
    let sent = routed c.args.step.now c.args.switch.now.regs c.args.given.now in
    let passed = sent_over c.outputs-word.result c.args.wires.now sent (c.ends.end + 1) c.next_end-end-in-ends.result c.next_end-end-in-ends.ensures.later c.next_end-end-in-ends.ensures.least
    (λ end off. unrouted_at c.args.step.now c.args.switch.now.regs c.args.given.now end (sym (c.outputs-word.ensures end) ∙ off)) in
    let is : c.sent_from-value.result ≡ slice_index_or sent c.ends.end None =
    c.sent_from-value.ensures ∙ sym (routed_end c.args.step.now c.args.switch.now.regs c.args.given.now c.ends.end (omega arith)) in
    let put : c.put_where.new.self ≡ appended (sent_to (slice_index_or c.args.wires.now c.ends.end None) (slice_index_or sent c.ends.end None)) c.ends.self =
    c.put_where.ensures ∙ ap (λ (v : Option ℕ). appended (sent_to (slice_index_or c.args.wires.now c.ends.end None) v) c.ends.self) is in
    record {
      whole =
          ap (λ (ms : List Sent). appended ms c.put_where.new.self) passed
          ∙ appended_more c.outputs-word.result c.args.wires.now sent c.ends.self c.put_where.new.self c.ends.end (omega arith) put
          ∙ c.ends.invariant.whole;
      have =
          room_over c.outputs-word.result c.args.wires.now sent c.put_where.new.self (c.ends.end + 1) c.next_end-end-in-ends.result passed
          (room_more c.outputs-word.result c.args.wires.now sent c.ends.self c.put_where.new.self c.ends.end (omega arith) c.ends.invariant.have put);
      there = c.next_end-end-in-ends.ensures.there;
    }

pub returns : goal.returns
returns c =
    sym (ap (λ (ms : List Sent). appended ms c.ends.self)
    (sent_nothing c.outputs-word.result c.args.wires.now (routed c.args.step.now c.args.switch.now.regs c.args.given.now) c.ends.end (omega arith)))
    ∙ c.ends.invariant.whole
