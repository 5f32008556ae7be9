use Rattle.std.proofs.Common.{◌<◌, map, Some, None, is_some, length-set, refl, sym, ap, ◌∙◌, subst, arith}
use Rattle.std.proofs.lemmas.List.{get_or-set_other}
use Rattle.raw_network.specs.Network.{count_of}
use Rattle.raw_processor.proofs.EndLists.{none_yet}
use Rattle.raw_fabric_rule.specs.ByEnds.{needs}
use Rattle.raw_fabric_rule.specs.Plays.{bumped}
use Rattle.raw_fabric_rule.proofs.Lists.{length-bumped}
use Rattle.raw_fabric_step.specs.Units.{mine}
use Rattle.raw_fabric_step.proofs.Pairing.{packed_small, operand_held}
use Rattle.raw_fabric_step.proofs.Ready.{held_end}
use Rattle.raw_fabric_step.proofs.Turning.{kept_none, kept_more, stands_held}
use Rattle.raw_fabric_step.proofs.SwitchEnds.{taking_none, taking_more, some_more, inputs_taken, input_needed}
use Rattle.raw_fabric_step.proofs.switches.take_inputs.Goals as goal

pub ends-init : goal.ends-init
ends-init c =
    let r = c.requires in
    let a = c.args.words.now.key in
    let post = c.args.post.now in
    let v = c.args.seat.now.me.0 in
    let next = c.next_end-end in
    record {
      kept = kept_none a post c.args.seat.now r.stands.seated.placed;
      taking = taking_none (mine v post.index) c.args.status r.may.idle r.stands.ready;
      ten = refl;
      none = λ end le. none_yet 10 end;
      some = λ end lt few. ap is_some (none_yet 10 end) ∙ sym (next.ensures.least end (omega arith) lt);
      there = next.ensures.there;
      few = next.ensures.few;
    }

pub fetch_operand-value-requires-clause-stands : goal.fetch_operand-value-requires-clause-stands
fetch_operand-value-requires-clause-stands c = stands_held c.requires.stands c.ends.invariant.kept c.ends.invariant.taking.held_for

pub fetch_operand-value-requires-clause-operand : goal.fetch_operand-value-requires-clause-operand
fetch_operand-value-requires-clause-operand c =
    let r = c.requires in
    let a = c.args.words.now.key in
    let post = c.args.post.now in
    let u = mine c.args.seat.now.me.0 post.index in
    let end = c.ends.end in
    let used = sym (c.inputs-inputs.ensures end) ∙ c.ends.invariant.there c.ends-test.true in
    let needed = subst (λ es. 0 < count_of end es) (sym r.needs) (input_needed c.args.step.now end c.ends-test.true used) in
    let shown = r.may.shown.values end needed in
    operand_held a post.p u (mine c.ends.seat.me.0 post.index) end 0
    (record { input = c.ends-test.true; needed = needed; few = omega arith; shown = omega arith }) c.ends.invariant.taking.held_for

pub bump-raised-requires-clause-word : goal.bump-raised-requires-clause-word
bump-raised-requires-clause-word c =
    let i = c.args.post.now.index in
    let u = mine c.args.seat.now.me.0 i in
    let z = mine c.ends.seat.me.0 i in
    let t = c.ends.invariant.taking in
    packed_small c.ends.raised (bumped (map held_end z.fetched) u.counts) (length-bumped (map held_end z.fetched) u.counts ∙ t.counted) t.raised_is

pub ends-preserved : goal.ends-preserved
ends-preserved c =
    let a = c.args.words.now.key in
    let post = c.args.post.now in
    let i = post.index in
    let v = c.args.seat.now.me.0 in
    let v1 = c.ends.seat.me.0 in
    let w = c.fetch_operand-value.new.seat.me.0 in
    let inv = c.ends.invariant in
    let e = c.fetch_operand-value.ensures in
    let x = c.fetch_operand-value.result in
    let end = c.ends.end in
    let few = c.ends-test.true in
    let next = c.next_end-end-in-ends in
    record {
      kept = kept_more inv.kept e.kept;
      taking = taking_more (mine v i) (mine v1 i) (mine w i) c.ends.given c.ends.raised c.bump-raised.result end x few inv.ten inv.none inv.taking e.unit c.bump-raised.ensures;
      ten = length-set c.ends.given end (Some x) ∙ inv.ten;
      none = λ d le. get_or-set_other c.ends.given end d (Some x) None (λ same. absurd (omega arith)) ∙ inv.none d (omega arith);
      some = some_more c.ends.given c.inputs-inputs.result end next.result x few inv.ten (inv.there few) inv.none inv.some next.ensures.least;
      there = next.ensures.there;
      few = next.ensures.few;
    }

pub returns-clause-inputs : goal.returns-clause-inputs
returns-clause-inputs c =
    let r = c.requires in
    let post = c.args.post.now in
    let inv = c.ends.invariant in
    inputs_taken c.args.words.now.key post.p c.args.status c.args.step.now (record { given = c.ends.given; status = c.ends.raised }) (mine c.args.seat.now.me.0 post.index) (mine c.ends.seat.me.0 post.index)
    inv.taking inv.ten (λ end few. inv.some end (omega arith) few ∙ c.inputs-inputs.ensures end) r.may.idle r.stands.ready r.may.shown
