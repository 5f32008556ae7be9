use Rattle.std.proofs.Common.{◌+◌, ◌∷◌, ◌++◌, [], None, sym, ap, ◌∙◌, arith}
use Rattle.std.specs.Prelude.{slice_index}
use Rattle.std.proofs.lemmas.Bool.{leb-false}
use Rattle.raw_model.specs.Local.{Sink}
use Rattle.raw_model.specs.Machine.{port_program, capacity_of}
use Rattle.raw_serial.proofs.Ports.{capacity_few}
use Rattle.raw_fabric_rule.specs.Plays.{values_of}
use Rattle.raw_fabric_step.specs.Units.{mine}
use Rattle.raw_fabric_step.specs.Fired.{IsPrepared}
use Rattle.raw_fabric_step.proofs.PortRows.{sink_needs, sink_gives, sink_fills, sink_sent, sink_next, sink_touches}
use Rattle.raw_fabric_step.proofs.Pairing.{takes_vias}
use Rattle.raw_fabric_step.proofs.Turning.{kept_more}
use Rattle.raw_fabric_step.proofs.Rows.{may_take, prepared_looked, prepared_held, prepared_more, stepped}
use Rattle.raw_fabric_step.proofs.ports.step_sink.Goals as goal

pub see_ends-requires-clause-asks : goal.see_ends-requires-clause-asks
see_ends-requires-clause-asks c =
    let r = c.requires in
    let a = c.args.words.now.key in
    let post = c.args.post.now in
    let u = mine c.args.seat.now.me.0 post.index in
    c.pair_asks.ensures a.set post.p u.local
    (sink_needs a.set post.p u.local c.args.port.now.local r.due.local_is post.ends.now r.stands.seated.post_is.ends_are c.is_some.result c.is_some-2.result
    c.via_where-first.result c.via_where-second.result c.is_some.ensures c.is_some-2.ensures c.via_where-first.ensures c.via_where-second.ensures)
    (sink_gives a.set post.p u.local c.args.port.now.local r.due.local_is)

pub take_pair-given-requires-clause-may : goal.take_pair-given-requires-clause-may
take_pair-given-requires-clause-may c =
    let r = c.requires in
    let a = c.args.words.now.key in
    let post = c.args.post.now in
    may_take a r.stands.seated.post_is.valid post.p (mine c.args.seat.now.me.0 post.index) (mine c.see_ends.new.seat.me.0 post.index) _ r.due c.in-Ok.ensures.saw

pub take_pair-given-requires-clause-takes : goal.take_pair-given-requires-clause-takes
take_pair-given-requires-clause-takes c =
    let r = c.requires in
    let a = c.args.words.now.key in
    let post = c.args.post.now in
    let z = mine c.see_ends.new.seat.me.0 post.index in
    takes_vias a.set post.p z.local _ _ _ _ c.via_end-first.ensures c.via_end-second.ensures
    (sink_needs a.set post.p z.local c.args.port.now.local (c.see_ends.ensures.looked.local_same ∙ r.due.local_is) post.ends.now r.stands.seated.post_is.ends_are c.is_some.result c.is_some-2.result
    c.via_where-first.result c.via_where-second.result c.is_some.ensures c.is_some-2.ensures c.via_where-first.ensures c.via_where-second.ensures)

pub fire_sink-requires-clause-count : goal.fire_sink-requires-clause-count
fire_sink-requires-clause-count c =
    let r = c.requires in
    let a = c.args.words.now.key in
    let few = capacity_few a.set c.args.post.now.p r.stands.seated.post_is.valid in
    let open' = leb-false (capacity_of (port_program a.set c.args.post.now.p)) c.args.port.now.local.done r.due.going in
    omega arith

pub commit_pair-requires-clause-takes : goal.commit_pair-requires-clause-takes
commit_pair-requires-clause-takes c =
    let r = c.requires in
    let a = c.args.words.now.key in
    let post = c.args.post.now in
    let y = mine c.take_pair-given.new.seat.me.0 post.index in
    takes_vias a.set post.p y.local _ _ _ _ c.via_end-first.ensures c.via_end-second.ensures
    (sink_needs a.set post.p y.local c.args.port.now.local (c.take_pair-given.ensures.taken.held.local_same ∙ c.see_ends.ensures.looked.local_same ∙ r.due.local_is)
    post.ends.now r.stands.seated.post_is.ends_are c.is_some.result c.is_some-2.result
    c.via_where-first.result c.via_where-second.result c.is_some.ensures c.is_some-2.ensures c.via_where-first.ensures c.via_where-second.ensures)

pub commit_pair-requires-clause-sends : goal.commit_pair-requires-clause-sends
commit_pair-requires-clause-sends c =
    let a = c.args.words.now.key in
    let post = c.args.post.now in
    let y = mine c.take_pair-given.new.seat.me.0 post.index in
    let local_is = c.take_pair-given.ensures.taken.held.local_same ∙ c.see_ends.ensures.looked.local_same ∙ c.requires.due.local_is in
    record {
      fills_are = sink_fills a.set post.p y.local c.args.port.now.local local_is (values_of y);
      sent_are = sink_sent a.set post.p y.local c.args.port.now.local local_is (values_of y);
    }

pub returns-in-Ok-clause-stepped : goal.returns-in-Ok-clause-stepped
returns-in-Ok-clause-stepped c =
    let r = c.requires in
    let a = c.args.words.now.key in
    let post = c.args.post.now in
    let u = mine c.args.seat.now.me.0 post.index in
    let z = mine c.see_ends.new.seat.me.0 post.index in
    let y = mine c.take_pair-given.new.seat.me.0 post.index in
    let taken = c.take_pair-given.ensures.taken in
    let prepared : IsPrepared a post.p u y = prepared_more a post.p u z y (prepared_looked a post.p u z c.see_ends.ensures.looked) (prepared_held a post.p z y taken.held) in
    let value = c.front.ensures ∙ ap (λ l. slice_index l 0) (sym taken.values) in
    stepped a post c.commit_pair.result (values_of y) (Sink c.fire_sink.new.port.local) None c.args.seat.now c.take_pair-given.new.seat c.commit_pair.new.seat
    (kept_more c.see_ends.ensures.kept c.take_pair-given.ensures.kept) prepared c.commit_pair.ensures.same c.commit_pair.ensures.fired
    (sink_next a.set post.p u.local c.args.port.now.local r.due.local_is (values_of y)
    ∙ (λ i. Sink (record { done = c.args.port.now.local.done + 1; got = c.args.port.now.local.got ++ sym value i ∷ [] })) ∙ ap Sink (sym c.fire_sink.ensures.next))
    (sink_touches a.set post.p u.local c.args.port.now.local r.due.local_is (values_of y)) tt
