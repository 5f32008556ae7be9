use Rattle.std.proofs.Common.{◌+◌, ◌<◌, cond, [], ◌∷◌, map, sym, ap, ◌∙◌, subst, arith}
use Rattle.raw_network.specs.Network.{count_of}
use Rattle.raw_model.specs.SwitchTable.{routed}
use Rattle.raw_processor.proofs.SwitchValues.{unrouted_at, routed_end}
use Rattle.raw_fabric_rule.specs.ByEnds.{gives}
use Rattle.raw_fabric_rule.specs.Plays.{bumped}
use Rattle.raw_fabric_rule.proofs.Lists.{length-bumped}
use Rattle.raw_fabric_step.specs.Units.{mine}
use Rattle.raw_fabric_step.proofs.Pairing.{packed_small}
use Rattle.raw_fabric_step.proofs.Ready.{held_end}
use Rattle.raw_fabric_step.proofs.Turning.{kept_none, kept_more, stands_held}
use Rattle.raw_fabric_step.proofs.SwitchEnds.{sending_none, sending_over, sending_held, sending_more, sending_fresh, sending_unit, sending_raised, output_named, where_some}
use Rattle.raw_fabric_step.proofs.switches.send_routes.Goals as goal

pub ends-init : goal.ends-init
ends-init c =
    let r = c.requires in
    let a = c.args.words.now.key in
    let post = c.args.post.now in
    let v = c.args.seat.now.me.0 in
    let next = c.next_end-end in
    let ins = c.args.step.now in
    let regs = c.args.state.now.regs in
    let u = mine v post.index in
    record {
      kept = kept_none a post c.args.seat.now r.stands.seated.placed;
      sending = sending_over u (routed ins regs c.args.given.now) u c.args.taken c.args.taken 0 next.result c.outputs-outputs.result next.ensures.later next.ensures.least
          (λ end off. unrouted_at ins regs c.args.given.now end (sym (c.outputs-outputs.ensures end) ∙ off))
          (sending_none u (routed ins regs c.args.given.now) c.args.taken r.empty);
      there = next.ensures.there;
      few = next.ensures.few;
    }

pub stage_where-requires-clause-stands : goal.stage_where-requires-clause-stands
stage_where-requires-clause-stands c =
    let i = c.args.post.now.index in
    let u = mine c.args.seat.now.me.0 i in
    let z = mine c.ends.seat.me.0 i in
    stands_held c.requires.stands c.ends.invariant.kept
    (sending_held u (routed c.args.step.now c.args.state.now.regs c.args.given.now) z c.args.taken c.ends.raised c.ends.end c.ends.invariant.sending)

pub stage_where-requires-clause-named : goal.stage_where-requires-clause-named
stage_where-requires-clause-named c =
    let r = c.requires in
    let a = c.args.words.now.key in
    let post = c.args.post.now in
    let i = post.index in
    let u = mine c.args.seat.now.me.0 i in
    let z = mine c.ends.seat.me.0 i in
    let end = c.ends.end in
    let held = sending_held u (routed c.args.step.now c.args.state.now.regs c.args.given.now) z c.args.taken c.ends.raised end c.ends.invariant.sending in
    let filled = sym (c.outputs-outputs.ensures end) ∙ c.ends.invariant.there c.ends-test.true in
    where_some c.sent_from-value.result (0 < count_of (10 + end) (gives a.set post.p z.local))
    (subst (λ l. 0 < count_of (10 + end) (gives a.set post.p l)) (sym held.local_same)
    (subst (λ es. 0 < count_of (10 + end) es) (sym r.gives) (output_named c.args.step.now end c.ends-test.true filled)))

pub stage_where-requires-clause-fresh : goal.stage_where-requires-clause-fresh
stage_where-requires-clause-fresh c =
    let i = c.args.post.now.index in
    sending_fresh (mine c.args.seat.now.me.0 i) (routed c.args.step.now c.args.state.now.regs c.args.given.now) (mine c.ends.seat.me.0 i) c.args.taken c.ends.raised c.ends.end c.ends.invariant.sending

pub bump_where-raised-requires-clause-word : goal.bump_where-raised-requires-clause-word
bump_where-raised-requires-clause-word c =
    let packed = c.requires.packed in
    let z = mine c.ends.seat.me.0 c.args.post.now.index in
    packed_small c.ends.raised (bumped (map held_end z.staged) packed.0) (length-bumped (map held_end z.staged) packed.0 ∙ packed.1)
    (c.ends.invariant.sending.raised_is packed.0 packed.1 packed.2)

pub ends-preserved : goal.ends-preserved
ends-preserved c =
    let a = c.args.words.now.key in
    let post = c.args.post.now in
    let i = post.index in
    let v = c.args.seat.now.me.0 in
    let v1 = c.ends.seat.me.0 in
    let w = c.stage_where.new.seat.me.0 in
    let u = mine v i in
    let inv = c.ends.invariant in
    let e = c.stage_where.ensures in
    let end = c.ends.end in
    let few = c.ends-test.true in
    let next = c.next_end-end-in-ends in
    let ins = c.args.step.now in
    let regs = c.args.state.now.regs in
    let sent = routed ins regs c.args.given.now in
    record {
      kept = kept_more inv.kept e.kept;
      sending = sending_over u sent (mine w i) c.args.taken c.bump_where-raised.result (end + 1) next.result c.outputs-outputs.result next.ensures.later next.ensures.least
          (λ d off. unrouted_at ins regs c.args.given.now d (sym (c.outputs-outputs.ensures d) ∙ off))
          (sending_more u sent (mine v1 i) (mine w i) c.args.taken c.ends.raised c.bump_where-raised.result end c.sent_from-value.result _ few inv.sending
          (c.sent_from-value.ensures ∙ sym (routed_end ins regs c.args.given.now end few)) e.unit
          (c.end_where.ensures.ends ∙ ap (λ b. cond b ((10 + end) ∷ []) []) c.is_some.ensures) c.bump_where-raised.ensures);
      there = next.ensures.there;
      few = next.ensures.few;
    }

pub returns-clause-routed : goal.returns-clause-routed
returns-clause-routed c =
    let i = c.args.post.now.index in
    let u = mine c.args.seat.now.me.0 i in
    let z = mine c.ends.seat.me.0 i in
    let sent = routed c.args.step.now c.args.state.now.regs c.args.given.now in
    record {
      unit_is = sending_unit u sent z c.args.taken c.ends.raised c.ends.end (omega arith) c.ends.invariant.sending;
      raised_is = sending_raised u sent z c.args.taken c.ends.raised c.ends.end (omega arith) c.ends.invariant.sending;
    }
