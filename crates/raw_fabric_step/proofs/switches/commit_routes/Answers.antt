use Rattle.std.proofs.Common.{length, ap, ◌∙◌, subst}
use Rattle.raw_fabric_rule.specs.ByKind.{switch_needs}
use Rattle.raw_fabric_rule.specs.Plays.{bumped, values_of}
use Rattle.raw_fabric_rule.proofs.Lists.{length-bumped}
use Rattle.std.proofs.Common.{Some}
use Rattle.raw_fabric_step.specs.Units.{mine}
use Rattle.raw_fabric_step.specs.Fired.{HasFired}
use Rattle.raw_fabric_step.proofs.Rows.{prepared_held, fired_after, fired_now}
use Rattle.raw_fabric_step.proofs.SwitchRows.{row_gives, routes_held, routes_show, routes_word}
use Rattle.raw_fabric_step.proofs.switches.commit_routes.Goals as goal

pub send_routes-after-requires-clause-gives : goal.send_routes-after-requires-clause-gives
send_routes-after-requires-clause-gives c =
    let r = c.requires in
    let post = c.args.post.now in
    let z = mine c.args.seat.now.me.0 post.index in
    row_gives c.args.words.now.key.set r.stands.seated.post_is.valid post.p r.step.switch z.local c.args.state.now r.step.local_is c.args.step.now r.step.next

pub send_routes-after-requires-clause-packed : goal.send_routes-after-requires-clause-packed
send_routes-after-requires-clause-packed c =
    let has = c.requires.inputs in
    let z = mine c.args.seat.now.me.0 c.args.post.now.index in
    let es = switch_needs (Some c.args.step.now) in
    (bumped es z.counts, length-bumped es z.counts ∙ has.ready.counted, has.raised)

pub commit_row-requires-clause-shows : goal.commit_row-requires-clause-shows
commit_row-requires-clause-shows c =
    let r = c.requires in
    let post = c.args.post.now in
    let z = mine c.args.seat.now.me.0 post.index in
    let y = mine c.send_routes-after.new.seat.me.0 post.index in
    routes_show c.args.words.now.key r.stands.seated.post_is.valid post.p r.step.switch c.args.status z y c.args.state.now r.step.local_is c.args.step.now r.step.next c.args.inputs.now r.inputs c.send_routes-after.ensures.routed.unit_is

pub commit_row-requires-clause-word : goal.commit_row-requires-clause-word
commit_row-requires-clause-word c =
    let r = c.requires in
    let post = c.args.post.now in
    let z = mine c.args.seat.now.me.0 post.index in
    let y = mine c.send_routes-after.new.seat.me.0 post.index in
    routes_word c.args.words.now.key r.stands.seated.post_is.valid post.p r.step.switch c.args.status z y c.args.state.now r.step.local_is c.args.step.now r.step.next c.args.inputs.now r.inputs c.send_routes-after.ensures.routed.unit_is
    c.send_routes-after.result c.send_routes-after.ensures.routed.raised_is

pub returns-clause-fired : goal.returns-clause-fired
returns-clause-fired c =
    let r = c.requires in
    let is = r.stands.seated.post_is.valid in
    let a = c.args.words.now.key in
    let post = c.args.post.now in
    let i = post.index in
    let v = c.args.seat.now.me.0 in
    let v1 = c.send_routes-after.new.seat.me.0 in
    let w = c.commit_row.new.seat.me.0 in
    let z = mine v i in
    let y = mine v1 i in
    let word = c.send_routes-after.result in
    let unit = c.send_routes-after.ensures.routed.unit_is in
    let held = routes_held a is post.p r.step.switch c.args.status z y c.args.state.now r.step.local_is c.args.step.now r.step.next c.args.inputs.now r.inputs unit in
    let now = fired_now a post word c.send_routes-after.new.seat c.commit_row.new.seat c.commit_row.ensures.committed
    (routes_word a is post.p r.step.switch c.args.status z y c.args.state.now r.step.local_is c.args.step.now r.step.next c.args.inputs.now r.inputs unit word c.send_routes-after.ensures.routed.raised_is)
    (ap length held.counts_same ∙ r.inputs.ready.counted) (ap length held.seen_same ∙ r.inputs.ready.watched)
    (routes_show a is post.p r.step.switch c.args.status z y c.args.state.now r.step.local_is c.args.step.now r.step.next c.args.inputs.now r.inputs unit) in
    fired_after a post.p i word (values_of z) v v1 w c.send_routes-after.ensures.kept.steady (prepared_held a post.p z y held)
    (subst (λ values. HasFired a post.p i word values v1 w) (ap values_of unit) now)
